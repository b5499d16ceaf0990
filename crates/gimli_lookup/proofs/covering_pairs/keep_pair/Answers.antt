use Rattle.std.proofs.Common.{◌≡◌, true, false, ◌&&◌, List, [], ◌∷◌, ◌++◌, sym, subst, rules}
use Rattle.std.specs.Prelude.{is_none}
use Rattle.std.specs.List.{list_any}
use Rattle.gimli_lookup.specs.declared.section_lookup.CoveringRows.{CoveringRows}
use Rattle.gimli_lookup.specs.inside.UnitSearch.{first_covering, is_covered, AreKeptBehind}
use Rattle.gimli_lookup.proofs.CoveringSearches.{pair_kept, pair_let_go}
use Rattle.gimli_lookup.proofs.covering_pairs.keep_pair.Goals as goal

pub returns-then-not-is_wanted-clause-ok : goal.returns-then-not-is_wanted-clause-ok
returns-then-not-is_wanted-clause-ok c =
    pair_let_go c.args.addresses.now c.args.pairs.now.items c.args.pair
    (subst (λ (ps : List CoveringRows).
    list_any (λ a. is_covered a c.args.pair && is_none (first_covering a ps)) c.args.addresses.now ≡ false)
    c.as_slice.ensures.value (sym c.if-not-is_wanted.ensures))

pub returns-clause-ok : goal.returns-clause-ok
returns-clause-ok c =
    let pushed : c.push.new.self.items ≡ c.args.pairs.now.items ++ c.args.pair ∷ [] = search rules in
    subst (AreKeptBehind c.args.addresses.now c.args.pairs.now.items (c.args.pair ∷ [])) (sym pushed)
    (pair_kept c.args.addresses.now c.args.pairs.now.items c.args.pair
    (subst (λ (ps : List CoveringRows).
    list_any (λ a. is_covered a c.args.pair && is_none (first_covering a ps)) c.args.addresses.now ≡ true)
    c.as_slice.ensures.value (sym c.if-not-is_wanted.ensures)))
