-- What a file says of the file with its debug information.
use Rattle.std.specs.Prelude.{ℕ, ◌+◌, List, length, take, codes, nat_eq, nat_lt, if◌then◌else◌}
use Rattle.std.specs.Prelude.{Option, Some, None, Result, Ok}
use Rattle.std.specs.List.{position}
use Rattle.std.specs.Option.{option_and_then}
use Rattle.elf_sections.specs.Steps.{◌>>=◌}
use Rattle.elf_sections.specs.Layout.{number_at}
use Rattle.elf_sections.specs.File.{File, section_at}
use Rattle.elf_sections.specs.Notes.{padded, build_id_in}
use Rattle.elf_sections.specs.declared.debug_file.DebugLink.{DebugLink}
use Rattle.elf_sections.specs.declared.error.ElfError.{ElfError}
use Rattle.elf_sections.specs.declared.layout.Layout.{Layout}

-- a link: the name of a file, and its checksum
pub record Link : Type 0 where
  pub name : List ℕ
  pub checksum : ℕ

abbrev pub link_of : DebugLink → Link
link_of link = record { name = link.name.now; checksum = link.checksum }

-- the link of .gnu_debuglink, by where its first zero byte is: the name before it, bytes up to a
-- multiple of 4, and the checksum, of 4 bytes; none where it is cut
abbrev pub link_at : Layout → List ℕ → ℕ → Option Link
link_at layout bytes end =
    if nat_lt (length bytes) (padded (end + 1) + 4) then None
    else Some
    (record { name = take end bytes; checksum = number_at layout 4 (padded (end + 1)) bytes })

abbrev pub link_in : Layout → List ℕ → Option Link
link_in layout bytes = option_and_then (link_at layout bytes) (position (λ b. nat_eq b 0) bytes)

-- what the section of a name says, if there is one
abbrev pub said_in : {A : Type 0} → (Layout → List ℕ → Option A) → List ℕ → File
    → Result (Option A) ElfError
said_in read name file =
    section_at file name >>= λ section. Ok (option_and_then (read file.layout) section)

abbrev pub build_id_of : File → Result (Option (List ℕ)) ElfError
build_id_of = said_in build_id_in (codes ".note.gnu.build-id")

abbrev pub debug_link_of : File → Result (Option Link) ElfError
debug_link_of = said_in link_in (codes ".gnu_debuglink")
