use Rattle.std.proofs.Common.{None, ap}
use Rattle.gimli_lookup.specs.inside.UnitSearch.{UnitSearch}
use Rattle.gimli_lookup.proofs.UnitSearches.{part_ended}
use Rattle.gimli_lookup.proofs.unit_search.UnitSearch.end_part.Goals as goal

pub returns : goal.returns
returns c = λ unit addresses cut sees.
    part_ended unit addresses cut c.args.self.now _ (ap (λ (s : UnitSearch). record s { last = None }) c.self.view_is)
    sees
