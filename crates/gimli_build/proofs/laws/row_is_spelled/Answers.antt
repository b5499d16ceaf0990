use Rattle.gimli_build.proofs
use proofs.spellings.Spellings.{each-spelled, all_row}
use proofs.laws.row_is_spelled.Goals as goal

pub returns : goal.returns
returns c = λ u here r can. each-spelled _ u.header u.opcode_base u.longest _
    (all_row _ _ here.previous _ can.encode can.follows can.line_before can.fits)
