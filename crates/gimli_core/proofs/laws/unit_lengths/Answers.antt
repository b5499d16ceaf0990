use Rattle.gimli_core.proofs.ProductionLaws.{reads_unit_length}
use Rattle.gimli_core.proofs.laws.unit_lengths.Goals as goal

pub returns : goal.returns
returns c = reads_unit_length
