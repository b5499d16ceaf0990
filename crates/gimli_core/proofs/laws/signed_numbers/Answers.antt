use Rattle.gimli_core.proofs.SignedLaws.{reads_signed}
use Rattle.gimli_core.proofs.laws.signed_numbers.Goals as goal

pub returns : goal.returns
returns c = reads_signed
