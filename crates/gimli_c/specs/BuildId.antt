-- The build id of an ELF file, which names it (the linker's note NT_GNU_BUILD_ID).
use Rattle.std.specs.Prelude.{◌≡◌, ◌⊎◌, ℕ, List, Some, None, Ok, Err}
use Rattle.elf_sections.specs.DebugFile.{build_id_of}
use Rattle.elf_sections.specs.File.{File, file_at}
use Rattle.elf_sections.specs.declared.error.ElfError.{ElfError}
use Rattle.gimli_c.specs.ElfSeen.{IsNoElf}
use Rattle.gimli_c.specs.Written.{Copies}
use Rattle.gimli_c.specs.declared.status.TheConstants.{BAD_SECTION, NO_ELF, NO_SECTION}

-- the file has this build id
pub record HasBuildId (bytes id : List ℕ) : Type 0 where
  pub file : File
  pub is : file_at bytes ≡ Ok file
  pub has : build_id_of file ≡ Ok (Some id)

-- the file has none
pub record HasNoBuildId (bytes : List ℕ) : Type 0 where
  pub file : File
  pub is : file_at bytes ≡ Ok file
  pub none : build_id_of file ≡ Ok None

-- the section of notes can't be read
pub record CantReadBuildId (bytes : List ℕ) : Type 0 where
  pub file : File
  pub is : file_at bytes ≡ Ok file
  pub error : ElfError
  pub refused : build_id_of file ≡ Err error

-- why it isn't told: the file has none, it can't be read, or the bytes are no file
abbrev pub LacksBuildId : List ℕ → ℕ → Type 0
LacksBuildId bytes status =
    ((status ≡ NO_SECTION) × HasNoBuildId bytes)
    ⊎ (((status ≡ BAD_SECTION) × CantReadBuildId bytes) ⊎ ((status ≡ NO_ELF) × IsNoElf bytes))

-- what a call does that copies the build id to an array of the caller
abbrev pub CopiesBuildId : List ℕ → ℕ → List ℕ → List ℕ → ℕ → ℕ → Type 0
CopiesBuildId bytes = Copies (HasBuildId bytes) (LacksBuildId bytes)
