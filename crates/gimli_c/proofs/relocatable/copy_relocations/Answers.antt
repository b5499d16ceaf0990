use Rattle.std.proofs.Common.{◌∙◌, ap, sym, inr, map, set, arith}
use Rattle.std.specs.Option.{option_map}
use Rattle.std.proofs.lemmas.Option.{slice_get-map, slice_get-get_or}
use Rattle.gimli_c.specs.declared.relocatable.GimliRelocation.{GimliRelocation}
use Rattle.gimli_c.specs.Relocated.{relocation_seen}
use Rattle.gimli_c.proofs.Arrays.{written_none, written_take, copied_next}
use Rattle.gimli_c.proofs.relocatable.copy_relocations.Goals as goal

pub loop-slot-init : goal.loop-slot-init
loop-slot-init c = sym (written_none c.args.room.now)

pub returns-then-slot-room : goal.returns-then-slot-room
returns-then-slot-room c =
    c.loop-slot.invariant
    ∙ written_take c.loop-slot.slot (map relocation_seen c.args.relocations.now) c.args.room.now (inr (omega arith))

pub loop-slot-preserved : goal.loop-slot-preserved
loop-slot-preserved c =
    let xs = c.args.relocations.now in
    ap (λ (x : GimliRelocation). set c.loop-slot.room c.loop-slot.slot x) c.relocation_seen.ensures
    ∙ copied_next (map relocation_seen xs) c.args.room.now c.loop-slot.room c.loop-slot.slot _
    (slice_get-map relocation_seen xs c.loop-slot.slot
    ∙ ap (option_map relocation_seen) (slice_get-get_or xs c.loop-slot.slot _ (omega arith)))
    c.loop-slot.invariant
