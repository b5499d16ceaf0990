use Rattle.std.proofs.Common.{◌≡◌, take}
use Rattle.gimli_c.specs.Handing.{numbers_of}
use Rattle.gimli_c.specs.Written.{slots_with}
use Rattle.gimli_c.proofs.write.copy_numbers.Given as goal

abbrev pub invariant-loop-slot : goal.invariant-loop-slot
invariant-loop-slot l = l.room ≡ slots_with (take l.slot (numbers_of l.version l.files)) l.initial.room
