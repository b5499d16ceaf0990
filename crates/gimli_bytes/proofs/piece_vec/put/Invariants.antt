use Rattle.std.specs.Prelude.{◌≡◌, ◌+◌, ◌≤◌}
use Rattle.gimli_bytes.proofs.Common.{length, All, concat, put_over}
use Rattle.gimli_bytes.proofs.piece_vec.put.Given as goal

abbrev pub invariant-loop-rest : goal.invariant-loop-rest
invariant-loop-rest l = record {
  sizes : All (λ piece. length piece ≡ l.size) l.pieces.items;
  count : length l.pieces.items ≡ length l.fn.pieces.items;
  fits : l.at + length l.rest ≤ length (concat l.pieces.items);
  end : l.at + length l.rest ≡ l.fn.at + length l.fn.bytes;
  bytes : put_over (concat l.pieces.items) l.at l.rest ≡ put_over (concat l.fn.pieces.items) l.fn.at l.fn.bytes;
}

abbrev pub decreases-loop-rest : goal.decreases-loop-rest
decreases-loop-rest l = length l.rest
