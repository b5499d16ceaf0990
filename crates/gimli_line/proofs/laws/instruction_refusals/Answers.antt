use Rattle.gimli_line.proofs.InstructionRefusals.{instruction_refused}
use Rattle.gimli_line.proofs.laws.instruction_refusals.Goals as goal

pub returns : goal.returns
returns c = instruction_refused
