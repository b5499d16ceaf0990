use Rattle.gimli_lookup.proofs.WholePaths.{absolute_path, absolute_root}
use Rattle.gimli_lookup.proofs.laws.whole_paths_are_absolute.Goals as goal

pub returns-clause-whole : goal.returns-clause-whole
returns-clause-whole c = absolute_path

pub returns-clause-zero : goal.returns-clause-zero
returns-clause-zero c = absolute_root
