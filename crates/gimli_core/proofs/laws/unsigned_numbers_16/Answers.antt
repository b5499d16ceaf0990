use Rattle.gimli_core.proofs.UnsignedLeb.{reads_unsigned_16}
use Rattle.gimli_core.proofs.laws.unsigned_numbers_16.Goals as goal

pub returns : goal.returns
returns c = reads_unsigned_16
