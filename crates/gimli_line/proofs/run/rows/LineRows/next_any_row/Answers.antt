use Rattle.gimli_line.proofs
use proofs.Common.{refl, KeepsHeader}
use proofs.GivenRows.{any_rest_alone}
use proofs.Sources.{sees_after}
use proofs.run.rows.LineRows.next_any_row.Goals as goal

pub returns-in-Ok-true : goal.returns-in-Ok-true
returns-in-Ok-true g c =
    let r = rw c.in-Ok-true.field-0-test at c.in-Ok-true.ensures.row in
    let keeps : KeepsHeader c.args.self.now c.advance_any.new.self = record {
      run = c.in-Ok-true.ensures.keeps;
      alone = any_rest_alone c.args.self.now c.advance_any.new.self _ _ r c.in-Ok-true.ensures.keeps.appends;
    } in (
      (refl, λ _. tt, (keeps, rw (c.current.ensures.row, c.current.ensures.files) r)),
      record {
        after = tt;
        header = sees_after g.R.Reader.seen _ _ _ _ c.in-Ok-true.ensures.keeps c.current.ensures.header;
      },
    )
