use Rattle.std.proofs.Common.{◌≡◌, ◌∙◌, ℕ, Option, Some, ap, sym, inr, set, arith}
use Rattle.std.specs.Prelude.{slice_get}
use Rattle.std.specs.Option.{option_map}
use Rattle.std.proofs.lemmas.Option.{slice_get-map, slice_get-get_or}
use Rattle.gimli_build.specs.FileNumber.{file_number}
use Rattle.gimli_c.specs.Handing.{numbers_of}
use Rattle.gimli_c.proofs.Arrays.{written_none, written_take, copied_next}
use Rattle.gimli_c.proofs.write.copy_numbers.Goals as goal

pub loop-slot-init : goal.loop-slot-init
loop-slot-init c = sym (written_none c.args.room.now)

pub returns-then-slot-room : goal.returns-then-slot-room
returns-then-slot-room c =
    c.loop-slot.invariant
    ∙ written_take c.loop-slot.slot (numbers_of c.args.version c.args.files.now) c.args.room.now (inr (omega arith))

pub loop-slot-preserved : goal.loop-slot-preserved
loop-slot-preserved c =
    let xs = c.args.files.now in
    let number = file_number c.args.version in
    let file = c.index-files-slot.result in
    let there : slice_get xs c.loop-slot.slot ≡ Some file =
    slice_get-get_or xs c.loop-slot.slot file (omega arith)
    ∙ ap (λ (x : ℕ). let o : Option ℕ = Some x in o) (sym c.index-files-slot.is) in
    ap (λ (x : ℕ). set c.loop-slot.room c.loop-slot.slot x) c.raw.ensures
    ∙ copied_next (numbers_of c.args.version xs) c.args.room.now c.loop-slot.room c.loop-slot.slot (number file)
    (slice_get-map number xs c.loop-slot.slot ∙ ap (option_map number) there)
    c.loop-slot.invariant
