use Rattle.gimli_core.proofs.ProductionLaws.{reads_byte}
use Rattle.gimli_core.proofs.laws.single_bytes.Goals as goal

pub returns : goal.returns
returns c = reads_byte
