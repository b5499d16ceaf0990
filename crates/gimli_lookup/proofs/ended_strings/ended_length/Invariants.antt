use Rattle.std.proofs.Common.{◌≤◌, ◌≢◌, length, drop}
use Rattle.std.specs.List.{AllByRecursion}
use Rattle.gimli_lookup.proofs.ended_strings.ended_length.Given as goal

abbrev pub invariant-loop-length : goal.invariant-loop-length
invariant-loop-length l = record {
  within : l.length ≤ length l.bytes;
  rest : AllByRecursion (λ byte. byte ≢ 0) (drop l.length l.bytes);
}

abbrev pub decreases-loop-length : goal.decreases-loop-length
decreases-loop-length l = l.length
