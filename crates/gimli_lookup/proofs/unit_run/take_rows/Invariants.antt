use Rattle.std.proofs.Common.{length}
use Rattle.gimli_line.specs.run.Rows.{made_left}
use Rattle.gimli_lookup.proofs.RowsTaken.{TakesIn}
use Rattle.gimli_lookup.proofs.unit_run.take_rows.Given as goal

abbrev pub invariant-rows : goal.invariant-rows
invariant-rows g l = TakesIn l.initial.run l.run l.initial.cut l.cut

abbrev pub decreases-rows : goal.decreases-rows
decreases-rows g l = length (made_left l.run)
