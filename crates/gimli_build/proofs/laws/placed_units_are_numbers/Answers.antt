use Rattle.gimli_build.proofs
use proofs.linking.PlacedUnits.{placed-counted, placed-plain}
use proofs.laws.placed_units_are_numbers.Goals as goal

pub returns : goal.returns
returns c = record { counted = placed-counted; plain = placed-plain }
