use Rattle.std.specs.Prelude.{◌≡◌}
use Rattle.gimli_bytes.proofs.Common.{length, All}
use Rattle.gimli_bytes.proofs.piece_vec.new_pieces.Given as goal

abbrev pub invariant-loop : goal.invariant-loop
invariant-loop l = record {
  count : length l.pieces.items ≡ l.counter;
  sizes : All (λ piece. length piece ≡ l.size) l.pieces.items;
}
