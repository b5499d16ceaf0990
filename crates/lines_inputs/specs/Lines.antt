-- The files that have line programs to be read.
use Rattle.std.specs.Prelude.{◌≡◌, Bool, ℕ, List, Ok, Some, codes, false, true}
use Rattle.elf_sections.specs.File.{File, file_at}
use Rattle.elf_sections.specs.Relocating.{relocated_at}
use Rattle.elf_sections.specs.declared.place.SectionPlace.TheVariants.{AllAtZero}

-- the section of line programs, of a program or of a file of split DWARF (DWARF 5, section 7.3.2)
abbrev pub lines_name : (is_split : Bool) → List ℕ
lines_name false = codes ".debug_line"
lines_name true = codes ".debug_line.dwo"

-- an ELF file with such a section: made whole where it is compressed, up to a limit, and relocated
-- in an object file, where each section is at 0
pub record HasLines (limit : ℕ) (bytes : List ℕ) : Type 0 where
  pub file : File
  pub is_file : file_at bytes ≡ Ok file
  pub is_split : Bool
  pub section : List ℕ
  pub is_section : relocated_at file AllAtZero limit (lines_name is_split) ≡ Ok (Some section)
