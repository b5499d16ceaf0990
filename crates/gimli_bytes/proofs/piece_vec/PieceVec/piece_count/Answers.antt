use Rattle.std.specs.Prelude.{◌≡◌}
use Rattle.gimli_bytes.proofs
use proofs.Common.{◌∙◌, length, rules}
use proofs.PieceLemmas.{piece-count}
use proofs.piece_vec.PieceVec.piece_count.Goals as goal

pub returns : goal.returns
returns g c =
    let count : c.len.result ≡ length c.self.inside.pieces.items = search rules in
    rw (← c.self.view_is) (count ∙ piece-count _ _ _ c.self.invariant)
