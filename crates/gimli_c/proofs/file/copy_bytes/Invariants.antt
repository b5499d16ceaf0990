use Rattle.std.proofs.Common.{◌≡◌, take}
use Rattle.gimli_c.specs.Written.{slots_with}
use Rattle.gimli_c.proofs.file.copy_bytes.Given as goal

abbrev pub invariant-loop-slot : goal.invariant-loop-slot
invariant-loop-slot l = l.room ≡ slots_with (take l.slot l.bytes) l.initial.room
