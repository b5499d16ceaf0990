use Rattle.std.proofs.Common.{◌≡◌, false, replicate}
use Rattle.gimli_index.proofs.named.no_marks.Given as goal

abbrev pub invariant-loop : goal.invariant-loop
invariant-loop l = l.marks.items ≡ replicate l.counter false
