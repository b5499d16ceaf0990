use Rattle.std.proofs.Common.{◌≡◌, ◌≤◌, length, take, drop}
use Rattle.gimli_index.specs.Lines.{addresses_left}
use Rattle.gimli_c.specs.Written.{slots_with}
use Rattle.gimli_c.proofs.index.lines.put_addresses.Given as goal

abbrev pub invariant-loop-slot : goal.invariant-loop-slot
invariant-loop-slot l =
    (l.room ≡ slots_with (take l.slot (addresses_left l.found)) l.initial.room)
    × (addresses_left l.left ≡ drop l.slot (addresses_left l.found))
    × (l.slot ≤ length (addresses_left l.found))
