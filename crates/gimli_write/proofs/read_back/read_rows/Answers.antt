use Rattle.gimli_write.proofs.ReadRuns.{run_smaller, run_goes, run_ended, run_refused}
use Rattle.gimli_write.proofs.read_back.read_rows.Goals as goal

pub returns-in-Ok-None-clause-ok : goal.returns-in-Ok-None-clause-ok
returns-in-Ok-None-clause-ok g c =
    let next = rw c.in-Ok-None.field-0-is at (rw c.in-Ok-None.is at c.next_row.follows.holds-at-none.1) in
    run_ended _ _ c.rows-rows.ensures.events c.rows.invariant next.0

pub returns-in-Err-clause-err : goal.returns-in-Err-clause-err
returns-in-Err-clause-err g c =
    let fault = rw c.in-Err.is at c.next_row.follows.holds-at-none.1 in
    run_refused c.rows.rows c.next_row.follows.lender-at-none c.rows.answers.items c.in-Err.e c.from_read.result
    c.rows-rows.ensures.events c.rows.invariant fault c.from_read.ensures.memory c.from_read.ensures.other

pub rows-smaller : goal.rows-smaller
rows-smaller g c =
    let next = rw c.in-Ok-Some.field-0-is at (rw c.in-Ok-Some.is at c.next_row.follows.holds-at-none.1) in
    run_smaller c.rows.rows c.next_row.follows.lender-at-none next

pub rows-preserved : goal.rows-preserved
rows-preserved g c =
    let next = rw c.in-Ok-Some.field-0-is at (rw c.in-Ok-Some.is at c.next_row.follows.holds-at-none.1) in
    run_goes c.rows.rows c.next_row.follows.lender-at-none next c.rows.answers.items c.rows.invariant
    c.in_ok-push.ensures.items
