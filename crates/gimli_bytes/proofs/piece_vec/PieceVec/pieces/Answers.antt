use Rattle.gimli_bytes.proofs.PieceLemmas.{pieces-in_use}
use Rattle.gimli_bytes.proofs.piece_vec.PieceVec.pieces.Goals as goal

pub returns : goal.returns
returns g c = rw (← c.self.view_is, c.as_slice.ensures.value) (pieces-in_use _ _ _ c.self.invariant)
