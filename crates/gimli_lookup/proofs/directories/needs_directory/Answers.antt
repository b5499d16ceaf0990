use Rattle.std.proofs.Common.{ap, ◌∙◌}
use Rattle.gimli_lookup.specs.Paths.{needs_directory}
use Rattle.gimli_lookup.proofs.directories.needs_directory.Goals as goal

pub returns-in-Ok-clause-read : goal.returns-in-Ok-clause-read
returns-in-Ok-clause-read g c =
    let made = rw c.header.ensures at c.new.ensures in
    rw c.in-Ok.is (c.needs_directory.ensures ∙ ap needs_directory made)
