-- The notes of a section, one after the other.
use Rattle.std.proofs.Common.{◌≡◌, refl, ◌∙◌, ap, ℕ, zero, suc, ◌≤◌, List, [], ◌∷◌, length, drop, Option, Some, None}
use Rattle.std.proofs.Common.{length-drop, arith}
use Rattle.std.specs.Option.{option_map_or}
use Rattle.elf_sections.specs.Notes.{Note, note_size, note_at, notes_up_to, notes}
use Rattle.elf_sections.specs.declared.layout.Layout.{Layout}

-- as many notes as bytes are enough
enough : (n m : ℕ) (layout : Layout) (bytes : List ℕ) → length bytes ≤ n → length bytes ≤ m
    → notes_up_to n layout bytes ≡ notes_up_to m layout bytes
enough zero zero layout bytes h k = refl
enough zero (suc m) layout [] h k = refl
enough zero (suc m) layout (b ∷ bytes) h k = absurd (omega arith)
enough (suc n) zero layout [] h k = refl
enough (suc n) zero layout (b ∷ bytes) h k = absurd (omega arith)
enough (suc n) (suc m) layout bytes h k =
    let rest : List ℕ = drop (note_size layout bytes) bytes in
    let left = length-drop (note_size layout bytes) bytes in
    elim (note_at layout bytes) as (λ (o : Option Note).
    option_map_or (λ note. note ∷ notes_up_to n layout rest) o []
    ≡ option_map_or (λ note. note ∷ notes_up_to m layout rest) o []) [
      | None ↦ refl
      | Some note ↦ ap (λ later. note ∷ later) (enough n m layout rest (omega arith) (omega arith))
    ]

-- the first note, and those after it
pub notes_more : (layout : Layout) (bytes : List ℕ) (note : Note) → note_at layout bytes ≡ Some note
    → notes layout bytes ≡ note ∷ notes layout (drop (note_size layout bytes) bytes)
notes_more layout bytes note is =
    let rest : List ℕ = drop (note_size layout bytes) bytes in
    let left = length-drop (note_size layout bytes) bytes in
    enough (length bytes) (suc (length bytes)) layout bytes (omega arith) (omega arith)
    ∙ ap (λ o. option_map_or (λ one. one ∷ notes_up_to (length bytes) layout rest) o []) is
    ∙ ap (λ later. note ∷ later) (enough (length bytes) (length rest) layout rest (omega arith) (omega arith))
