use Rattle.gimli_core.proofs.UnsignedLeb.{reads_unsigned}
use Rattle.gimli_core.proofs.laws.unsigned_numbers.Goals as goal

pub returns : goal.returns
returns c = reads_unsigned
