use Rattle.std.specs.Prelude.{◌≡◌, ◌++◌}
use Rattle.gimli_write.proofs.Common.{length, map, row, events_left, events_of}
use Rattle.gimli_write.proofs.read_back.read_rows.Given as goal

abbrev pub invariant-rows : goal.invariant-rows
invariant-rows g l = events_of (events_left l.initial.rows) ≡ map row l.answers.items ++ events_of (events_left l.rows)

abbrev pub decreases-rows : goal.decreases-rows
decreases-rows g l = length (events_left l.rows)
