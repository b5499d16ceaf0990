use Rattle.std.proofs.Common.{ap, None, ◌∙◌}
use Rattle.gimli_lookup.specs.Paths.{needs_directory}
use Rattle.gimli_lookup.specs.Strings.{strings}
use Rattle.gimli_lookup.specs.inside.Paths.{paths_in}
use Rattle.gimli_lookup.proofs.ended_strings.EndedStrings.need_directory.Goals as goal

pub returns : goal.returns
returns g c =
    let h = c.args.header.now.meaning in
    c.needs_directory.ensures ∙ ap needs_directory c.new.ensures
    ∙ ap (λ s. needs_directory (paths_in (strings g.R.Reader.seen s) h None)) c.self.view_is
