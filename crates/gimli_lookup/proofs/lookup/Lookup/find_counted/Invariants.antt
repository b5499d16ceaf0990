use Rattle.std.proofs.Common.{◌≤◌, ◌<◌, length, take}
use Rattle.std.specs.Prelude.{All, sum_by}
use Rattle.gimli_lookup.specs.inside.FirstPair.{HasNoPair}
use Rattle.gimli_lookup.specs.Scan.{most_probes}
use Rattle.gimli_lookup.proofs.lookup.Lookup.find_counted.Given as goal

abbrev pub invariant-loop-rows : goal.invariant-loop-rows
invariant-loop-rows g l = record {
  none : All (HasNoPair l.a) (take l.rows-index l.rows-items);
  at_least : 0 < sum_by length (take l.rows-index l.rows-items) → 0 < l.probes;
  at_most : l.probes ≤ sum_by most_probes (take l.rows-index l.rows-items);
}
