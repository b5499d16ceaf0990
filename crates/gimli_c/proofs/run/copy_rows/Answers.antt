use Rattle.std.proofs.Common.{refl, ap, ◌∙◌, ◌<◌, ◌+◌, ◌^◌, arith}
use Rattle.std.specs.Prelude.{Some, None}
use Rattle.gimli_line.specs.run.Sequences.{events_of}
use Rattle.gimli_c.specs.Run.{rows_of, fault_of}
use Rattle.gimli_c.proofs.Runs.{at_start, one_more, at_end, stopped, counted}
use Rattle.gimli_c.proofs.run.copy_rows.Goals as goal

pub rows-init : goal.rows-init
rows-init g c = record { way = at_start _ _ _; files = refl }

pub returns-in-Ok-None-clause-ok : goal.returns-in-Ok-None-clause-ok
returns-in-Ok-None-clause-ok g c =
    let end = rw c.in-Ok-None.field-0-is at c.in-Ok-None.ensures.end in
    let none = ap events_of end.0 in
    at_end _ _ _ _ _ _ None c.rows.invariant.way (ap rows_of none) (ap fault_of none)

pub returns-in-Err-clause-ok : goal.returns-in-Err-clause-ok
returns-in-Err-clause-ok g c =
    let next = c.in-Err.ensures.fault (c.is_memory.ensures.other c.if-is_memory.false) in
    at_end _ _ _ _ _ _ (Some c.in-Err.e) c.rows.invariant.way (ap rows_of next) (ap fault_of next)

pub returns-then-is_memory-clause-begun : goal.returns-then-is_memory-clause-begun
returns-then-is_memory-clause-begun g c = stopped _ _ _ _ _ _ c.rows.invariant.way

pub overflow_add-count : goal.overflow_add-count
overflow_add-count g c =
    let next = rw c.in-Ok-Some.field-0-is at c.in-Ok-Some.ensures.row in
    let fits : c.rows.count + 1
    < 2 ^ 64 = counted _ _ _ _ _ _ _ c.in-Ok-Some.row c.rows.invariant.way next c.requires in
    omega (arith, fits)

pub rows-preserved : goal.rows-preserved
rows-preserved g c =
    let next = rw c.in-Ok-Some.field-0-is at c.in-Ok-Some.ensures.row in
    record {
      way =
          one_more _ _ _ _ _ _ _ _ c.in-Ok-Some.row c.rows.invariant.way next c.put_row.ensures.skipped
          c.put_row.ensures.put;
      files = c.in-Ok-Some.ensures.files ∙ c.rows.invariant.files;
    }
