-- There are fewer units to come after each.
use Rattle.std.proofs.Common.{length}
use Rattle.uses_conversion.proofs.rewrite.add_units.Given as goal

abbrev pub decreases-units : goal.decreases-units
decreases-units g l = length l.units.offsets
