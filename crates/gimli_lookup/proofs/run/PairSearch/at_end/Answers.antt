use Rattle.gimli_lookup.proofs.PairSearches.{first_is_kept}
use Rattle.gimli_lookup.proofs.run.PairSearch.at_end.Goals as goal

pub returns-in-Ended : goal.returns-in-Ended
returns-in-Ended c =
    λ a ended unended known.
    first_is_kept a ended unended c.in-Ended.first c.in-Ended.second (rw c.in-Ended.is at known)
