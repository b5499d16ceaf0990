use Rattle.std.proofs.Common.{take}
use Rattle.gimli_lookup.specs.inside.UnitSearch.{AreKeptBehind}
use Rattle.gimli_lookup.proofs.covering_pairs.keep_pairs.Given as goal

abbrev pub invariant-loop-pair : goal.invariant-loop-pair
invariant-loop-pair l = AreKeptBehind l.addresses l.initial.pairs.items (take l.pair-index l.found) l.pairs.items
