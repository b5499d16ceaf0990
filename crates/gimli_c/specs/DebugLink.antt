-- The link of an ELF file to the file with its debug information (`.gnu_debuglink`).
use Rattle.std.specs.Prelude.{◌≡◌, ◌⊎◌, ℕ, List, Some, None, Ok, Err}
use Rattle.elf_sections.specs.DebugFile.{Link, debug_link_of}
use Rattle.elf_sections.specs.File.{File, file_at}
use Rattle.elf_sections.specs.declared.error.ElfError.{ElfError}
use Rattle.gimli_c.specs.ElfSeen.{IsNoElf}
use Rattle.gimli_c.specs.Written.{Copies}
use Rattle.gimli_c.specs.declared.status.TheConstants.{BAD_SECTION, NO_ELF, NO_SECTION}

-- the file has this link
pub record HasDebugLink (bytes : List ℕ) (link : Link) : Type 0 where
  pub file : File
  pub is : file_at bytes ≡ Ok file
  pub has : debug_link_of file ≡ Ok (Some link)

-- that is the name of its link
pub record HasLinkName (bytes name : List ℕ) : Type 0 where
  pub link : Link
  pub has : HasDebugLink bytes link
  pub name_is : name ≡ link.name

-- that is the checksum of its link
pub record HasLinkChecksum (bytes : List ℕ) (checksum : ℕ) : Type 0 where
  pub link : Link
  pub has : HasDebugLink bytes link
  pub checksum_is : checksum ≡ link.checksum

-- the file has none
pub record HasNoDebugLink (bytes : List ℕ) : Type 0 where
  pub file : File
  pub is : file_at bytes ≡ Ok file
  pub none : debug_link_of file ≡ Ok None

-- its section can't be read
pub record CantReadDebugLink (bytes : List ℕ) : Type 0 where
  pub file : File
  pub is : file_at bytes ≡ Ok file
  pub error : ElfError
  pub refused : debug_link_of file ≡ Err error

-- why it isn't told: the file has none, it can't be read, or the bytes are no file
abbrev pub LacksDebugLink : List ℕ → ℕ → Type 0
LacksDebugLink bytes status =
    ((status ≡ NO_SECTION) × HasNoDebugLink bytes)
    ⊎ (((status ≡ BAD_SECTION) × CantReadDebugLink bytes) ⊎ ((status ≡ NO_ELF) × IsNoElf bytes))

-- what a call does that copies the name to an array of the caller
abbrev pub CopiesLinkName : List ℕ → ℕ → List ℕ → List ℕ → ℕ → ℕ → Type 0
CopiesLinkName bytes = Copies (HasLinkName bytes) (LacksDebugLink bytes)
