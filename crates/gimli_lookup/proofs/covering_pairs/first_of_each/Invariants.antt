use Rattle.std.proofs.Common.{◌≡◌, map, take}
use Rattle.gimli_lookup.specs.inside.UnitSearch.{first_covering}
use Rattle.gimli_lookup.proofs.covering_pairs.first_of_each.Given as goal

abbrev pub invariant-loop-a : goal.invariant-loop-a
invariant-loop-a l = l.rows.items ≡ map (λ a. first_covering a l.pairs) (take l.a-index l.addresses)
