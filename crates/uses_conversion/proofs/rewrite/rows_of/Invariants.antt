-- There are fewer rows and faults to come after each.
use Rattle.std.proofs.Common.{length}
use Rattle.gimli_line.specs.run.Rows.{events_left}
use Rattle.uses_conversion.proofs.rewrite.rows_of.Given as goal

abbrev pub decreases-rows : goal.decreases-rows
decreases-rows g l = length (events_left l.rows)
