use Rattle.std.proofs.Common.{◌≤◌, length, drop}
use Rattle.gimli_index.proofs.LastComponents.{HaveNoSeparator}
use Rattle.gimli_index.proofs.path_ends.last_component.Given as goal

abbrev pub invariant-loop-first : goal.invariant-loop-first
invariant-loop-first l = record {
  within : l.first ≤ length l.text;
  none : HaveNoSeparator (drop l.first l.text);
}

abbrev pub decreases-loop-first : goal.decreases-loop-first
decreases-loop-first l = l.first
