-- The rows that were added and those to come are those at the start; each row takes an event from those that are left.
use Rattle.std.proofs.Common.{◌≡◌, ◌++◌, length, map}
use Rattle.gimli_line.specs.run.Events.{row}
use Rattle.gimli_line.specs.run.Rows.{events_left, GivesRowsAlone}
use Rattle.gimli_line.specs.run.Sequences.{events_of}
use Rattle.uses.proofs.sequences.add_rows.Given as goal

abbrev pub invariant-rows : goal.invariant-rows
invariant-rows g l = record {
  added : map row l.list.items ++ events_of (events_left l.rows)
      ≡ map row l.initial.list.items ++ events_of (events_left l.initial.rows);
  alone : GivesRowsAlone l.rows;
}

abbrev pub decreases-rows : goal.decreases-rows
decreases-rows g l = length (events_left l.rows)
