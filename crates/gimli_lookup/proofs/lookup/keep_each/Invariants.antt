use Rattle.std.proofs.Common.{◌≡◌}
use Rattle.gimli_lookup.proofs.lookup.keep_each.Given as goal

abbrev pub invariant-loop-of_sequence : goal.invariant-loop-of_sequence
invariant-loop-of_sequence l = l.kept.items ≡ l.yielded
