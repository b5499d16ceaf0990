use Rattle.gimli_bytes.proofs
use proofs.Common.{sym}
use proofs.PieceLemmas.{bytes-length}
use proofs.piece_vec.PieceVecWriter.len.Goals as goal

pub returns-clause-contents : goal.returns-clause-contents
returns-clause-contents g c = rw (← c.self.view_is) (sym (bytes-length _ _ _ c.self.invariant))
