use Rattle.gimli_lookup.proofs.FirstPairs.{found_among_all}
use Rattle.gimli_lookup.proofs.laws.found_among_all.Goals as goal

pub returns : goal.returns
returns c = found_among_all
