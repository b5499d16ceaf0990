use Rattle.std.proofs.Common.{◌≡◌}
use Rattle.gimli_index.specs.Lines.{addresses_left}
use Rattle.gimli_index.specs.inside.Order.{left_from}
use Rattle.gimli_index.proofs.addresses.Addresses.next_place.Given as goal

abbrev pub invariant-loop-number : goal.invariant-loop-number
invariant-loop-number l = addresses_left l.self ≡ left_from l.self l.number
