use Rattle.std.specs.Prelude.{◌≡◌, ◌++◌}
use Rattle.gimli_bytes.proofs.Common.{concat}
use Rattle.gimli_bytes.proofs.piece_vec.PieceVec.into_vec.Given as goal

abbrev pub invariant-loop-piece : goal.invariant-loop-piece
invariant-loop-piece g l = l.vec.items ++ concat l.piece-iterator ≡ l.fn.self.bytes
