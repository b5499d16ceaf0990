use Rattle.gimli_lookup.specs.inside.SequenceCut.{with_row}
use Rattle.gimli_lookup.proofs.RowsTaken.{none_taken, one_more, to_end}
use Rattle.gimli_lookup.proofs.UnitSearches.{fault_searched}
use Rattle.gimli_lookup.proofs.unit_search.search_rows.Goals as goal

pub rows-init : goal.rows-init
rows-init g c = λ unit from sees. (from, none_taken c.args.run.now from, sees)

pub rows-preserved : goal.rows-preserved
rows-preserved g c = λ unit from sees.
    let follows = c.next_any_row.follows.holds-at-none in
    let next = rw c.in-Ok-Some.field-0-is at (rw c.in-Ok-Some.is at follows.1) in
    let before = c.rows.invariant unit from sees in
    let row = c.in-Ok-Some.row.now in (
      with_row row before.0,
      one_more c.args.run.now c.rows.run c.next_any_row.follows.lender-at-none from before.0 row
          c.in-Ok-Some.field-0-0-0.now.meaning.files before.1 follows.0
          next,
      c.in_ok-row-in-Ok-Some.ensures.ok unit before.0 before.2,
    )

pub returns-in-Ok-None-clause-ok : goal.returns-in-Ok-None-clause-ok
returns-in-Ok-None-clause-ok g c = λ unit from sees.
    let follows = c.next_any_row.follows.holds-at-none in
    let next = rw c.in-Ok-None.field-0-is at (rw c.in-Ok-None.is at follows.1) in
    let before = c.rows.invariant unit from sees in (
      before.0,
      to_end c.args.run.now c.rows.run c.next_any_row.follows.lender-at-none from before.0 before.1 follows.0 next,
      before.2,
    )

pub returns-in-Err-clause-ok : goal.returns-in-Err-clause-ok
returns-in-Err-clause-ok g c =
    let follows = c.next_any_row.follows.holds-at-none in
    fault_searched c.args.addresses.now c.args.run.now c.rows.run c.next_any_row.follows.lender-at-none
    c.args.search.now c.rows.search c.in-Err.e
    c.as_fault.result c.rows.invariant follows.0 (rw c.in-Err.is at follows.1) c.as_fault.ensures.ok
