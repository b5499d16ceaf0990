use Rattle.std.proofs.Common.{◌≡◌, map, take}
use Rattle.gimli_c.specs.Relocated.{relocation_seen}
use Rattle.gimli_c.specs.Written.{slots_with}
use Rattle.gimli_c.proofs.relocatable.copy_relocations.Given as goal

abbrev pub invariant-loop-slot : goal.invariant-loop-slot
invariant-loop-slot l = l.room ≡ slots_with (take l.slot (map relocation_seen l.relocations)) l.initial.room
