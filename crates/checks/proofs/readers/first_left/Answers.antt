use Rattle.gimli_core.proofs.Taken.{read_of}
use Rattle.gimli_core.proofs.Texts.{skip_front}
use Rattle.checks.proofs.readers.first_left.Goals as goal

pub offset_from-requires : goal.offset_from-requires
offset_from-requires g c = skip_front _ _ _ (read_of c.in_ok-skip.ensures)
