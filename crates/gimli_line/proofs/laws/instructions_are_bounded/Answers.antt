use Rattle.gimli_line.proofs.InstructionLaws.{instructions_bounded}
use Rattle.gimli_line.proofs.laws.instructions_are_bounded.Goals as goal

pub returns : goal.returns
returns c = instructions_bounded
