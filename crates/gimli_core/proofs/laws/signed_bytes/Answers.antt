use Rattle.gimli_core.proofs.ProductionLaws.{reads_signed_byte}
use Rattle.gimli_core.proofs.laws.signed_bytes.Goals as goal

pub returns : goal.returns
returns c = reads_signed_byte
