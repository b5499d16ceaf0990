-- Parts of a file.
use Rattle.std.specs.Prelude.{ℕ, ◌+◌, List, slice_range, nat_eq, nat_lt, if◌then◌else◌, Option}
use Rattle.std.specs.Prelude.{Some, None, Result, Ok, Err}
use Rattle.elf_sections.specs.ElfNumbers.{SHT_NOBITS, SHF_COMPRESSED}
use Rattle.elf_sections.specs.SectionHeader.{has_flag}
use Rattle.elf_sections.specs.declared.error.ElfError.{ElfError}
use Rattle.elf_sections.specs.declared.error.ElfError.TheVariants.{SectionCut, Compressed}
use Rattle.elf_sections.specs.declared.file_range.FileRange.{FileRange}
use Rattle.elf_sections.specs.declared.section_header.SectionHeader.{SectionHeader}

-- the bytes of a part of a file
abbrev pub bytes_at : List ℕ → FileRange → List ℕ
bytes_at file range = slice_range file range.offset (range.offset + range.size)

abbrev pub nowhere : FileRange
nowhere = record { offset = 0; size = 0 }

-- a part of a file of a length, if it holds it
abbrev pub range_in : ℕ → ℕ → ℕ → Option FileRange
range_in offset size length =
    if nat_lt length (offset + size) then None else Some (record { offset = offset; size = size })

abbrev pub or_refused : {A : Type 0} → ElfError → Option A → Result A ElfError
or_refused e None = Err e
or_refused e (Some x) = Ok x

-- where the bytes of a section are in a file of a length, as `stored_bytes` says which they are
abbrev pub stored_range : ℕ → SectionHeader → Result FileRange ElfError
stored_range length header =
    if nat_eq header.kind SHT_NOBITS then Ok nowhere
    else or_refused SectionCut (range_in header.offset header.size length)

-- the same of a section that isn't compressed, as `section_bytes` has it
abbrev pub header_range : ℕ → SectionHeader → Result FileRange ElfError
header_range length header =
    if has_flag header SHF_COMPRESSED then Err Compressed else stored_range length header
