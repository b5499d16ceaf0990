use Rattle.gimli_bytes.proofs.PlacedNumbers.{placed-word, placed-address}
use Rattle.gimli_bytes.proofs.laws.placed_sums_are_numbers.Goals as goal

pub returns : goal.returns
returns c = record { address = placed-address; other = placed-word }
