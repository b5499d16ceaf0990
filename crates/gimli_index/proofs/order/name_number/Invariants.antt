use Rattle.std.proofs.Common.{◌≡◌, ◌<◌, ◌^◌, fold, take, ◌+◌, ◌*◌, ◌%◌}
use Rattle.gimli_index.proofs.order.name_number.Given as goal

abbrev pub invariant-loop-byte : goal.invariant-loop-byte
invariant-loop-byte l = record {
  number : l.number ≡ fold (λ n byte. (n * 31 + byte) % 2 ^ 31) 0 (take l.byte-index l.name);
  few : l.number < 2 ^ 31;
}
