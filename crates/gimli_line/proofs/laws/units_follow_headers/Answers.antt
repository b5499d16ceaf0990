use Rattle.gimli_line.proofs.UnitLaws.{unit_ends, unit_follows}
use Rattle.gimli_line.proofs.laws.units_follow_headers.Goals as goal

pub returns : goal.returns
returns c = record { end = unit_ends; next = unit_follows }
