use Rattle.gimli_line.proofs
use proofs.Common.{refl, sym, ◌∙◌, with_reset_row, KeepsHeader}
use proofs.Runs.{none_to_come, never_refused}
use proofs.RowsAlone.{rest_alone, never_refused_alone}
use proofs.Sources.{sees_after}
use proofs.run.rows.LineRows.next_row.Goals as goal

pub returns-in-Ok-true : goal.returns-in-Ok-true
returns-in-Ok-true g c =
    let r = rw c.in-Ok-true.field-0-test at c.in-Ok-true.ensures.row in
    let keeps : KeepsHeader c.args.self.now c.advance.new.self = record {
      run = c.in-Ok-true.ensures.keeps;
      alone = rest_alone c.args.self.now c.advance.new.self _ c.in-Ok-true.ensures.keeps.appends r.0;
    } in (
      (refl, λ _. tt, (keeps, rw (c.current.ensures.row, c.current.ensures.files) r)),
      record {
        after = tt;
        header = sees_after g.R.Reader.seen _ _ _ _ c.in-Ok-true.ensures.keeps c.current.ensures.header;
        unrefused = λ _. refl;
        ended = λ empty. let none = sym (none_to_come c.args.self.now empty) ∙ r.0 in absurd cc;
      },
    )

pub returns-in-Err : goal.returns-in-Err
returns-in-Err g c =
    let keeps : KeepsHeader c.args.self.now c.advance.new.self = record {
      run = c.in-Err.ensures.keeps;
      alone = λ alone.
          absurd (never_refused_alone c.args.self.now c.advance.new.self c.in-Err.e c.in-Err.ensures.keeps.appends
          c.in-Err.ensures.err alone);
    } in (
      (refl, λ _. tt, (keeps, c.in-Err.ensures.err)),
      record {
        after = tt;
        header = tt;
        unrefused =
            λ alone.
            absurd (never_refused_alone c.args.self.now c.advance.new.self c.in-Err.e c.in-Err.ensures.keeps.appends
            c.in-Err.ensures.err alone);
        ended = λ empty.
            absurd
            (never_refused (with_reset_row c.args.self.now) c.advance.new.self c.in-Err.e empty c.in-Err.ensures.err);
      },
    )
