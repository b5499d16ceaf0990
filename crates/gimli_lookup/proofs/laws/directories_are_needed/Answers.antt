use Rattle.gimli_lookup.proofs.WholePaths.{same_anyway, callers_counts}
use Rattle.gimli_lookup.proofs.laws.directories_are_needed.Goals as goal

pub returns-clause-unneeded : goal.returns-clause-unneeded
returns-clause-unneeded c = same_anyway

pub returns-clause-needed : goal.returns-clause-needed
returns-clause-needed c = callers_counts
