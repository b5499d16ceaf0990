use Rattle.gimli_build.proofs
use proofs.spellings.Spellings.{instruction-spelled}
use proofs.laws.instruction_is_spelled.Goals as goal

pub returns : goal.returns
returns c = λ u i written. instruction-spelled _ u.header u.opcode_base u.longest _ written
