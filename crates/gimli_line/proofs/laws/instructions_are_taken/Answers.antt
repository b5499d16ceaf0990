use Rattle.gimli_line.proofs.InstructionLaws.{is_decoded}
use Rattle.gimli_line.proofs.laws.instructions_are_taken.Goals as goal

pub returns : goal.returns
returns c = is_decoded
