-- Each row takes an event from those that are left.
use Rattle.std.proofs.Common.{length}
use Rattle.gimli_line.specs.run.Rows.{events_left}
use Rattle.linetool_commands.proofs.print.print_rows.Given as goal

abbrev pub decreases-rows : goal.decreases-rows
decreases-rows g l = length (events_left l.rows)
