-- What C sees of an ELF file (System V ABI, chapter 4).
use Rattle.std.specs.Prelude.{◌≡◌, ◌≢◌, ◌≤◌, ◌<◌, ◌⊎◌, ℕ, List, [], length, nat_eq, Option, Some}
use Rattle.std.specs.Prelude.{None, Result, Ok, Err}
use Rattle.gimli_core.specs.Order.{is_big_endian}
use Rattle.elf_sections.specs.File.{File, file_at, code_addresses, IsLeast}
use Rattle.elf_sections.specs.Layout.{address_size}
use Rattle.elf_sections.specs.Relocating.{relocated_at}
use Rattle.elf_sections.specs.declared.error.ElfError.{ElfError}
use Rattle.elf_sections.specs.declared.error.ElfError.TheVariants.{SectionTooLarge}
use Rattle.elf_sections.specs.declared.place.SectionPlace.TheVariants.{AllAtZero}
use Rattle.gimli_c.specs.declared.elf.GimliElf.{GimliElf}
use Rattle.gimli_c.specs.declared.status.TheConstants.{BAD_SECTION, NO_ELF, NO_ROOM, NO_SECTION, OK}
use Rattle.gimli_c.specs.Written.{slots_with, MemoryAside}

-- the bytes are no ELF file that can be read
abbrev pub IsNoElf : List ℕ → Type 0
IsNoElf bytes = (error : ElfError) × (file_at bytes ≡ Err error)

-- the lowest address of code, or 0 where there is no code
abbrev pub IsLowest : File → ℕ → Type 0
IsLowest file lowest =
    ((code_addresses file ≡ []) × (lowest ≡ 0)) ⊎ IsLeast (code_addresses file) lowest

-- what the file says of itself
pub record SeesElf (bytes : List ℕ) (seen : GimliElf) : Type 0 where
  pub file : File
  pub is : file_at bytes ≡ Ok file
  pub lowest : IsLowest file seen.lowest
  pub size : seen.address_size ≡ address_size file.layout.class
  pub is_big : seen.is_big ≡ is_big_endian file.layout.order
  pub relocatable : seen.relocatable ≡ nat_eq file.kind 1

-- what the first section of a name holds, made whole if it has no more bytes than there is room for
abbrev pub section_of : ℕ → File → List ℕ → Result (Option (List ℕ)) ElfError
section_of room file name = relocated_at file AllAtZero room name

-- what the first section of a name holds, made whole, in an array of the caller, and its length
pub record WritesSection (bytes name old new : List ℕ) (size : ℕ) : Type 0 where
  pub file : File
  pub is : file_at bytes ≡ Ok file
  pub whole : List ℕ
  pub holds : section_of (length old) file name ≡ Ok (Some whole)
  pub written : new ≡ slots_with whole old
  pub size_is : size ≡ length whole
  pub fits : size ≤ length old

-- the section of the name has so many bytes, or states them where it is compressed, and an array of
-- so much room is too small for them
pub record NeedsSectionRoom (bytes name : List ℕ) (room size : ℕ) : Type 0 where
  pub file : File
  pub is : file_at bytes ≡ Ok file
  pub has : ((whole : List ℕ) × (section_of room file name ≡ Ok (Some whole))
      × (size ≡ length whole) × (room < size))
      ⊎ (section_of room file name ≡ Err (SectionTooLarge size))

-- the file has no section of the name
pub record HasNoSection (bytes name : List ℕ) (room : ℕ) : Type 0 where
  pub file : File
  pub is : file_at bytes ≡ Ok file
  pub none : section_of room file name ≡ Ok None

-- the section of the name can't be read
pub record CantReadSection (bytes name : List ℕ) (room : ℕ) : Type 0 where
  pub file : File
  pub is : file_at bytes ≡ Ok file
  pub error : ElfError
  pub refused : section_of room file name ≡ Err error

-- why a section isn't told, where there is so much room: the file has none of the name, it can't be
-- read, or the bytes are no file
abbrev pub LacksSection : List ℕ → List ℕ → ℕ → ℕ → Type 0
LacksSection bytes name room status =
    ((status ≡ NO_SECTION) × HasNoSection bytes name room)
    ⊎ (((status ≡ BAD_SECTION) × CantReadSection bytes name room)
    ⊎ ((status ≡ NO_ELF) × IsNoElf bytes))

-- what a call does that copies a section to an array of the caller, by its status
pub record CopiesSection (bytes name : List ℕ) (status : ℕ) (old new : List ℕ)
    (size_old size_new : ℕ) : Type 0 where
  pub found : status ≡ OK → WritesSection bytes name old new size_new
  pub larger : status ≡ NO_ROOM → NeedsSectionRoom bytes name (length old) size_new
  pub refused : status ≢ OK → status ≢ NO_ROOM
      → MemoryAside (LacksSection bytes name (length old)) status
  pub kept : status ≢ OK → new ≡ old
  pub no_size : status ≢ OK → status ≢ NO_ROOM → size_new ≡ size_old
