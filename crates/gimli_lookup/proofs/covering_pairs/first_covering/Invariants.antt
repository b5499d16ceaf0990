use Rattle.std.proofs.Common.{◌≡◌, drop}
use Rattle.gimli_lookup.specs.inside.UnitSearch.{first_covering}
use Rattle.gimli_lookup.proofs.covering_pairs.first_covering.Given as goal

abbrev pub invariant-loop-pair : goal.invariant-loop-pair
invariant-loop-pair l = first_covering l.a l.pairs ≡ first_covering l.a (drop l.pair-index l.pairs)
