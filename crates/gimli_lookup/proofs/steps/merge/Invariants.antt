use Rattle.std.proofs.Common.{◌≡◌, ◌+◌}
use Rattle.gimli_lookup.proofs.Merging.{Walked}
use Rattle.gimli_lookup.proofs.steps.merge.Given as goal

abbrev pub invariant-loop : goal.invariant-loop
invariant-loop l = record {
  walked : Walked l.left l.right l.next_left l.next_right l.by_left l.by_right l.from l.merged.items;
  count : l.next_left + l.next_right ≡ l.counter;
}
