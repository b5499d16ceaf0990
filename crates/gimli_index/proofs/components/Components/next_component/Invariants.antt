use Rattle.std.proofs.Common.{◌≡◌, length}
use Rattle.gimli_index.specs.inside.Components.{components_left}
use Rattle.gimli_index.proofs.components.Components.next_component.Given as goal

abbrev pub invariant-written : goal.invariant-written
invariant-written l = components_left l.self ≡ components_left l.initial.self

abbrev pub decreases-written : goal.decreases-written
decreases-written l = length l.self.text.now
