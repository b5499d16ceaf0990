use Rattle.gimli_build.proofs
use proofs.spellings.Spellings.{each-spelled, all_end}
use proofs.laws.end_is_spelled.Goals as goal

pub returns : goal.returns
returns c = λ u here o i follows.
    each-spelled _ u.header u.opcode_base u.longest _ (all_end _ here.previous _ _ follows)
