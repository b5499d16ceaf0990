use Rattle.std.proofs.Common.{◌≡◌, ◌&&◌, drop}
use Rattle.std.specs.Prelude.{is_none}
use Rattle.std.specs.List.{list_any}
use Rattle.gimli_lookup.specs.inside.UnitSearch.{first_covering, is_covered}
use Rattle.gimli_lookup.proofs.covering_pairs.is_wanted.Given as goal

abbrev pub invariant-loop-a : goal.invariant-loop-a
invariant-loop-a l = list_any (λ a. is_covered a l.pair && is_none (first_covering a l.pairs)) l.addresses
    ≡ list_any (λ a. is_covered a l.pair && is_none (first_covering a l.pairs)) (drop l.a-index l.addresses)
