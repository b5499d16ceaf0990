use Rattle.gimli_core.proofs.ProductionLaws.{reads_number}
use Rattle.gimli_core.proofs.laws.fixed_numbers.Goals as goal

pub returns : goal.returns
returns c = reads_number
