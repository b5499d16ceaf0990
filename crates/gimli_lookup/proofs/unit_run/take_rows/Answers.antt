use Rattle.gimli_lookup.proofs.RowsTaken.{none_taken, one_more, to_end, fault_taken}
use Rattle.gimli_lookup.proofs.unit_run.take_rows.Goals as goal

pub rows-init : goal.rows-init
rows-init g c = none_taken c.args.run.now c.args.cut.now

pub rows-preserved : goal.rows-preserved
rows-preserved g c =
    let follows = c.next_any_row.follows.holds-at-none in
    let next = rw c.in-Ok-Some.field-0-is at (rw c.in-Ok-Some.is at follows.1) in
    rw c.in_ok-row-in-Ok-Some.ensures.ok
    (one_more c.args.run.now c.rows.run c.next_any_row.follows.lender-at-none c.args.cut.now c.rows.cut
    c.in-Ok-Some.row.now
    c.in-Ok-Some.field-0-0-0.now.meaning.files c.rows.invariant follows.0 next)

pub returns-in-Ok-None-clause-ok : goal.returns-in-Ok-None-clause-ok
returns-in-Ok-None-clause-ok g c =
    let follows = c.next_any_row.follows.holds-at-none in
    let next = rw c.in-Ok-None.field-0-is at (rw c.in-Ok-None.is at follows.1) in
    to_end c.args.run.now c.rows.run c.next_any_row.follows.lender-at-none c.args.cut.now c.rows.cut c.rows.invariant
    follows.0 next

pub returns-in-Err-clause-ok : goal.returns-in-Err-clause-ok
returns-in-Err-clause-ok g c =
    let follows = c.next_any_row.follows.holds-at-none in
    fault_taken c.args.run.now c.rows.run c.next_any_row.follows.lender-at-none c.args.cut.now c.rows.cut c.in-Err.e
    c.as_fault.result c.rows.invariant
    follows.0
    (rw c.in-Err.is at follows.1) c.as_fault.ensures.ok
