use Rattle.gimli_core.proofs.ProductionLaws.{reads_some_bytes}
use Rattle.gimli_core.proofs.laws.bytes.Goals as goal

pub returns : goal.returns
returns c = reads_some_bytes
