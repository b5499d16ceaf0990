use Rattle.gimli_line.proofs.UnitLaws.{are_units}
use Rattle.gimli_line.proofs.debug_line.DebugLine.units.Goals as goal

pub returns-clause-offsets : goal.returns-clause-offsets
returns-clause-offsets g c = rw (c.from.ensures, c.reader.ensures, c.from_u8.ensures) (are_units _ _)
