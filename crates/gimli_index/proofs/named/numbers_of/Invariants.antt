use Rattle.std.proofs.Common.{◌≡◌, ◌≤◌, ◌++◌, drop}
use Rattle.gimli_index.specs.inside.Kept.{numbers_from}
use Rattle.gimli_index.proofs.named.numbers_of.Given as goal

abbrev pub invariant-loop-mark : goal.invariant-loop-mark
invariant-loop-mark l = record {
  low : l.next ≤ l.mark-index;
  made : l.numbers.items ++ numbers_from l.next (drop l.mark-index l.named) ≡ numbers_from 0 l.named;
}
