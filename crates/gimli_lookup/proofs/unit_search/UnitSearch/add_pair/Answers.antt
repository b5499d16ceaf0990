use Rattle.std.proofs.Common.{ℕ, Some, ap, subst, ◌∙◌}
use Rattle.gimli_lookup.specs.inside.UnitSearch.{UnitSearch, AreClear}
use Rattle.gimli_lookup.proofs.UnitSearches.{placed}
use Rattle.gimli_lookup.proofs.unit_search.UnitSearch.add_pair.Goals as goal

pub returns-clause-ok : goal.returns-clause-ok
returns-clause-ok c = λ unit cut sees.
    let clear = c.clear_from-self-inside.result in
    let are =
    subst (λ (n : ℕ). AreClear c.args.addresses.now n clear) c.address.ensures c.clear_from-self-inside.ensures in
    placed unit c.args.addresses.now cut c.args.self.now c.args.row.now sees _ c.keep_pair_with.new.self.pairs clear
    c.in_ok-keep_pair_with.ensures.ok are
    (ap (λ (s : UnitSearch). record s { last = Some c.args.row.now; clear = clear })
    (c.self.view_is ∙ c.keep_pair_with.ensures.same))
