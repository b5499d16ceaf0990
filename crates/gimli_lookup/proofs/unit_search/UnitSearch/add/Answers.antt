use Rattle.std.proofs.Common.{Some, refl, ap}
use Rattle.gimli_lookup.specs.inside.UnitSearch.{UnitSearch}
use Rattle.gimli_lookup.proofs.UnitSearches.{passed_on}
use Rattle.gimli_lookup.proofs.unit_search.UnitSearch.add.Goals as goal

pub returns-clause-ok : goal.returns-clause-ok
returns-clause-ok c = λ unit cut sees.
    passed_on unit c.args.addresses.now cut c.args.self.now c.args.row.now sees _ (c.if-not-is_clear_to.ensures refl)
    (ap (λ (s : UnitSearch). record s { last = Some c.args.row.now }) c.self.view_is)
