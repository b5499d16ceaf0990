-- The notes of a section (System V ABI, chapter 5, "Note Section").
use Rattle.std.specs.Prelude.{ℕ, ◌+◌, ◌*◌, ◌/◌, zero, suc, List, [], ◌∷◌, length, drop, slice_range}
use Rattle.std.specs.Prelude.{◌++◌, codes, find, nat_eq, nat_lt, Bool, ◌&&◌, if◌then◌else◌, Option}
use Rattle.std.specs.Prelude.{Some, None}
use Rattle.std.specs.Str.{bytes_eq}
use Rattle.std.specs.Option.{option_map, option_map_or}
use Rattle.elf_sections.specs.ElfNumbers.{NT_GNU_BUILD_ID}
use Rattle.elf_sections.specs.Layout.{number_at}
use Rattle.elf_sections.specs.declared.layout.Layout.{Layout}

-- a note: its type, its name and its descriptor
pub record Note : Type 0 where
  pub kind : ℕ
  pub name : List ℕ
  pub descriptor : List ℕ

-- a number of bytes with the padding up to a multiple of 4
abbrev pub padded : ℕ → ℕ
padded size = (size + 3) / 4 * 4

-- namesz, descsz and type, of 4 bytes each; then the name and the descriptor, each padded
abbrev pub name_size : Layout → List ℕ → ℕ
name_size layout bytes = number_at layout 4 0 bytes

abbrev pub descriptor_size : Layout → List ℕ → ℕ
descriptor_size layout bytes = number_at layout 4 4 bytes

abbrev pub descriptor_offset : Layout → List ℕ → ℕ
descriptor_offset layout bytes = 12 + padded (name_size layout bytes)

abbrev pub note_size : Layout → List ℕ → ℕ
note_size layout bytes = descriptor_offset layout bytes + padded (descriptor_size layout bytes)

-- the note that bytes begin with; none where they end before it does
abbrev pub note_at : Layout → List ℕ → Option Note
note_at layout bytes =
    if nat_lt (length bytes) 12 then None
    else (if nat_lt (length bytes) (note_size layout bytes) then None
    else Some (record {
      kind = number_at layout 4 8 bytes;
      name = slice_range bytes 12 (12 + name_size layout bytes);
      descriptor = slice_range bytes (descriptor_offset layout bytes)
          (descriptor_offset layout bytes + descriptor_size layout bytes);
    }))

-- notes, one after the other, up to the end or to the first that is cut: at most so many
abbrev pub notes_up_to : ℕ → Layout → List ℕ → List Note
notes_up_to zero layout bytes = []
notes_up_to (suc most) layout bytes =
    option_map_or (λ note. note ∷ notes_up_to most layout (drop (note_size layout bytes) bytes))
    (note_at layout bytes) []

-- the notes of a section: there are fewer than bytes
abbrev pub notes : Layout → List ℕ → List Note
notes layout bytes = notes_up_to (length bytes) layout bytes

-- a build id by its type, in the name of GNU, which a zero byte ends
abbrev pub is_build_id : Note → Bool
is_build_id note = nat_eq note.kind NT_GNU_BUILD_ID && bytes_eq note.name (codes "GNU" ++ 0 ∷ [])

-- the build id: the descriptor of the first such note
abbrev pub build_id_in : Layout → List ℕ → Option (List ℕ)
build_id_in layout bytes =
    option_map (λ note. note.descriptor) (find is_build_id (notes layout bytes))
