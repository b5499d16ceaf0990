use Rattle.gimli_core.proofs.Taken.{read_of}
use Rattle.gimli_line.proofs.Operands.{passed_front}
use Rattle.gimli_line.proofs.run.instruction.parse_operands.Goals as goal

pub offset_from-len-requires : goal.offset_from-len-requires
offset_from-len-requires g c = passed_front _ _ _ _ (read_of c.in_ok-skip_operands.ensures)
