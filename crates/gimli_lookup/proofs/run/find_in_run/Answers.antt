use Rattle.std.proofs.Common.{[], ◌∷◌, ◌++◌, List, length, refl, ap, ◌∙◌, inl, inr, arith}
use Rattle.std.proofs.lemmas.Result.{err_from_is_err_and}
use Rattle.gimli_line.specs.header.File.{File}
use Rattle.gimli_line.specs.header.Orders.{source_of}
use Rattle.gimli_line.specs.run.Rows.{events_left}
use Rattle.gimli_lookup.proofs.Cuts.{passes_none}
use Rattle.gimli_lookup.proofs.Files.{row_keeps, defines}
use Rattle.gimli_lookup.proofs.FirstPairs.{found_first}
use Rattle.gimli_lookup.proofs.Runs.{run_ended, run_goes, first_fault}
use Rattle.gimli_lookup.proofs.run.find_in_run.Goals as goal

pub rows-init : goal.rows-init
rows-init g c = record {
  passed = ([], refl, passes_none c.args.a);
  at_end = refl;
  files = omega arith;
}

pub returns-in_err-row-clause-err : goal.returns-in_err-row-clause-err
returns-in_err-row-clause-err g c =
    let p = err_from_is_err_and c.from_residual.result c.from_residual.ensures.1 in
    let program = c.args.program in
    let first = c.rows-rows.result in
    let i = c.rows.invariant in
    let new = c.next_row.follows.lender-at-none in
    let fault = rw c.in_err-row.was at c.next_row.follows.holds-at-none.1 in
    rw (p.1, p.2) (elim fault [
      | inl memory ↦ inr (
        memory.0,
        defines program.meaning (source_of g.R.Reader.seen g.R.Offset.ReaderOffset.number program) first c.rows.rows
            new
            c.rows-rows.ensures.start
            i.at_end i.files c.next_row.follows.holds-at-none.0.run.appends memory.1,
      )
      | inr next ↦
          inl (first_fault program.layout program.meaning (events_left first) (events_left c.rows.rows) i.passed.0
          c.rows-rows.ensures.events i.passed.1
          new.files (events_left new) c.in_err-row.field-0.0 next.0)
    ])

pub returns-in-None-clause-ok : goal.returns-in-None-clause-ok
returns-in-None-clause-ok g c =
    let program = c.args.program in
    let i = c.rows.invariant.passed in
    let next = rw c.in-None.is at (rw c.in_ok-row.was at c.next_row.follows.holds-at-none.1) in
    record {
      sequences = i.2.sequences;
      are = record {
        rows = i.0;
        given =
            run_ended program.layout program.meaning (events_left c.rows-rows.result) (events_left c.rows.rows) i.0
            c.rows-rows.ensures.events i.1 next.0;
        cut = i.2.cut;
      };
      found_is =
          found_first c.args.a i.2.sequences c.pair.result
          (c.pair.ensures c.args.a i.2.sequences i.2.cut.unended i.2.known);
    }

pub rows-preserved : goal.rows-preserved
rows-preserved g c =
    let program = c.args.program in
    let i = c.rows.invariant in
    let new = c.next_row.follows.lender-at-none in
    let next = rw c.in-Some.is at (rw c.in_ok-row.was at c.next_row.follows.holds-at-none.1) in
    let files = row_keeps c.rows.rows _ (events_left new) next.0 in
    record {
      passed = (
        i.passed.0 ++ c.in-Some.row.now ∷ [],
        run_goes program.layout program.meaning (events_left c.rows-rows.result) (events_left c.rows.rows) i.passed.0
            c.rows-rows.ensures.events i.passed.1
            c.in-Some.row.now _ (events_left new) next.0,
        c.after-search.ensures i.passed.0 i.passed.2,
      );
      at_end = next.2 ∙ i.at_end;
      files = omega (arith, i.files, files, ap (λ (fs : List File). length fs) next.1);
    }
