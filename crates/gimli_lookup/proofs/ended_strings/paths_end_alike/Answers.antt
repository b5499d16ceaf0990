use Rattle.gimli_lookup.proofs.EndedStrings.{file_too, value_whole}
use Rattle.gimli_lookup.proofs.ended_strings.paths_end_alike.Goals as goal

pub returns : goal.returns
returns c =
    λ whole ended h known f path are is.
    file_too whole ended h known (value_whole c.strings_end_alike.ensures.found whole ended are) f path is
