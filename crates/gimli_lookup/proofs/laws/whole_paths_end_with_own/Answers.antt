use Rattle.gimli_lookup.proofs.WholePaths.{own_at_end}
use Rattle.gimli_lookup.proofs.laws.whole_paths_end_with_own.Goals as goal

pub returns : goal.returns
returns c = own_at_end
