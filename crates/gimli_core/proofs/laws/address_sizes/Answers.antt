use Rattle.gimli_core.proofs.ProductionLaws.{reads_address_size}
use Rattle.gimli_core.proofs.laws.address_sizes.Goals as goal

pub returns : goal.returns
returns c = reads_address_size
