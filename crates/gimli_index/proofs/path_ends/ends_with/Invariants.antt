use Rattle.std.proofs.Common.{◌≡◌, length}
use Rattle.std.specs.List.{starts_with}
use Rattle.std.specs.Str.{bytes_eq}
use Rattle.gimli_lookup.specs.Components.{components}
use Rattle.gimli_index.specs.inside.Components.{components_left}
use Rattle.gimli_index.proofs.path_ends.ends_with.Given as goal

abbrev pub invariant-components : goal.invariant-components
invariant-components l =
    starts_with bytes_eq (components_left l.own) (components_left l.asked)
    ≡ starts_with bytes_eq (components l.path) (components l.end)

abbrev pub decreases-components : goal.decreases-components
decreases-components l = length (components_left l.asked)
