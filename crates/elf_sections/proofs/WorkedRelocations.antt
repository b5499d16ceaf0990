-- A worked object file: what the definitions make of its section, relocated.
use Rattle.std.proofs.Common.{◌≡◌, ℕ, List, [], ◌∷◌, ◌++◌, Option, Some, Result, Ok, Err, refl}
use Rattle.std.specs.Prelude.{codes, replicate, slice_set}
use Rattle.elf_sections.specs.Steps.{◌>>=◌}
use Rattle.elf_sections.specs.File.{file_at}
use Rattle.elf_sections.specs.Relocating.{relocated_at, index_of}
use Rattle.elf_sections.specs.declared.error.ElfError.{ElfError}
use Rattle.elf_sections.specs.declared.error.ElfError.TheVariants.{UnknownMachine, UnknownRelocation, EntrySize}
use Rattle.elf_sections.specs.declared.error.ElfError.TheVariants.{NoSymbols, SymbolOutside, SymbolSection}
use Rattle.elf_sections.specs.declared.error.ElfError.TheVariants.{RelocationOutside, RelocationsTooLarge, SectionCut}
use Rattle.elf_sections.specs.declared.place.SectionPlace.{SectionPlace}
use Rattle.elf_sections.specs.declared.place.SectionPlace.TheVariants.{AllAtZero, Only}
use Rattle.elf_sections.proofs.Worked.{header_32, contents_32, section_32}

-- the section .debug_line, relocated; it isn't compressed, and so the limit 0 doesn't matter
abbrev relocated : SectionPlace → List ℕ → Result (Option (List ℕ)) ElfError
relocated place bytes = file_at bytes >>= λ file. relocated_at file place 0 (codes ".debug_line")

-- a section header: its offset is above 0x100, and its address 0
abbrev section : ℕ → ℕ → ℕ → ℕ → ℕ → ℕ → ℕ → List ℕ
section name kind offset size link info entry_size =
    name ∷ 0 ∷ 0 ∷ 0 ∷ kind ∷ replicate 11 0
    ++ offset ∷ 1 ∷ 0 ∷ 0 ∷ size ∷ 0 ∷ 0 ∷ 0 ∷ link ∷ 0 ∷ 0 ∷ 0 ∷ info ∷ 0 ∷ 0 ∷ 0 ∷ 0 ∷ 0 ∷ 0 ∷ 0 ∷ entry_size ∷ 0 ∷ 0
    ∷ 0 ∷ []

-- .text, symbols (SHT_SYMTAB), .debug_line, its relocations (SHT_REL), and the names; then from 0x150 on eight bytes of
-- .debug_line, one relocation, R_386_32 of symbol 1 at 4, and two symbols, of which symbol 1 is 0x10 in section 1
abbrev file : List ℕ
file =
    slice_set header_32 0x10 1 ++ contents_32 ++ replicate 40 0
    ++ section_32 1 1 6 0x90 4 8 0x34 4
    ++ section 7 2 0x60 0x20 0 1 0x10
    ++ section 12 1 0x50 8 0 0 0
    ++ section 1 9 0x58 8 2 3 8
    ++ section_32 24 3 0 0 0 0 0x3c 0x22
    ++ 0xaa ∷ 0xbb ∷ 0xcc ∷ 0xdd ∷ 4 ∷ 0 ∷ 0 ∷ 0 ∷ 4 ∷ 0 ∷ 0 ∷ 0 ∷ 1 ∷ 1 ∷ 0 ∷ 0 ∷ replicate 20 0
    ++ 0x10 ∷ 0 ∷ 0 ∷ 0 ∷ 0 ∷ 0 ∷ 0 ∷ 0 ∷ 3 ∷ 0 ∷ 1 ∷ 0 ∷ []

-- 4 stands at the place, and is the addend
pub at_zero : relocated AllAtZero file ≡ Ok (Some (0xaa ∷ 0xbb ∷ 0xcc ∷ 0xdd ∷ 0x14 ∷ 0 ∷ 0 ∷ 0 ∷ []))
at_zero = refl

pub of_its_section : relocated (Only 1) file ≡ Ok (Some (0xaa ∷ 0xbb ∷ 0xcc ∷ 0xdd ∷ 0x14 ∷ 0 ∷ 0 ∷ 0 ∷ []))
of_its_section = refl

-- the same by the word of other machines: R_PPC_ADDR32 and UADDR32, R_MIPS_32, R_SPARC_32 and UA32, R_68K_32
abbrev by_kind : ℕ → ℕ → Result (Option (List ℕ)) ElfError
by_kind machine kind = relocated AllAtZero (slice_set (slice_set file 0x12 machine) 0x15c kind)

abbrev at_zero_also : Result (Option (List ℕ)) ElfError
at_zero_also = Ok (Some (0xaa ∷ 0xbb ∷ 0xcc ∷ 0xdd ∷ 0x14 ∷ 0 ∷ 0 ∷ 0 ∷ []))

pub of_powerpc : (by_kind 20 1 ≡ at_zero_also) × (by_kind 20 24 ≡ at_zero_also)
of_powerpc = (refl, refl)

pub of_mips : by_kind 8 2 ≡ at_zero_also
of_mips = refl

pub of_sparc : (by_kind 2 3 ≡ at_zero_also) × (by_kind 18 23 ≡ at_zero_also)
of_sparc = (refl, refl)

pub of_68k : by_kind 4 1 ≡ at_zero_also
of_68k = refl

-- the symbol's section is in memory, and another one counts
pub of_another_section : relocated (Only 2) file
    ≡ Ok (Some (0xaa ∷ 0xbb ∷ 0xcc ∷ 0xdd ∷ 0xff ∷ 0xff ∷ 0xff ∷ 0xff ∷ []))
of_another_section = refl

-- .text without SHF_ALLOC
pub not_in_memory : relocated (Only 2) (slice_set file 0x90 0)
    ≡ Ok (Some (0xaa ∷ 0xbb ∷ 0xcc ∷ 0xdd ∷ 0x14 ∷ 0 ∷ 0 ∷ 0 ∷ []))
not_in_memory = refl

-- ET_EXEC: what stands there
pub linked : relocated AllAtZero (slice_set file 0x10 2) ≡ Ok (Some (0xaa ∷ 0xbb ∷ 0xcc ∷ 0xdd ∷ 4 ∷ 0 ∷ 0 ∷ 0 ∷ []))
linked = refl

-- relocations of section 2
pub of_other_data : relocated AllAtZero (slice_set file 0x11c 2)
    ≡ Ok (Some (0xaa ∷ 0xbb ∷ 0xcc ∷ 0xdd ∷ 4 ∷ 0 ∷ 0 ∷ 0 ∷ []))
of_other_data = refl

pub index : (file_at file >>= λ f. Ok (index_of f (codes ".debug_line"))) ≡ Ok (Some 3)
index = refl

-- ---- its refusals, by one byte or two

pub machine_9 : relocated AllAtZero (slice_set file 0x12 9) ≡ Err (UnknownMachine 9)
machine_9 = refl

-- R_386_PC32
pub kind_2 : relocated AllAtZero (slice_set file 0x15c 2) ≡ Err (UnknownRelocation 2)
kind_2 = refl

-- R_386_NONE of a symbol that isn't there
pub kind_0 : relocated AllAtZero (slice_set (slice_set file 0x15c 0) 0x15d 2)
    ≡ Ok (Some (0xaa ∷ 0xbb ∷ 0xcc ∷ 0xdd ∷ 4 ∷ 0 ∷ 0 ∷ 0 ∷ []))
kind_0 = refl

pub symbol_2 : relocated AllAtZero (slice_set file 0x15d 2) ≡ Err (SymbolOutside 2)
symbol_2 = refl

-- at 5, the last of four bytes is past the eight of the section
pub outside : relocated AllAtZero (slice_set file 0x158 5) ≡ Err RelocationOutside
outside = refl

pub short_entries : relocated AllAtZero (slice_set file 0x124 7) ≡ Err (EntrySize 7)
short_entries = refl

pub short_symbols : relocated AllAtZero (slice_set file 0xd4 15) ≡ Err (EntrySize 15)
short_symbols = refl

-- the symbols would be in .text
pub no_symbols : relocated AllAtZero (slice_set file 0x118 1) ≡ Err NoSymbols
no_symbols = refl

pub no_section_6 : relocated AllAtZero (slice_set file 0x118 6) ≡ Err NoSymbols
no_section_6 = refl

-- SHN_XINDEX
pub noted_elsewhere : relocated (Only 1) (slice_set (slice_set file 0x17e 0xff) 0x17f 0xff) ≡ Err SymbolSection
noted_elsewhere = refl

-- the file has 0x180 bytes, of which none of its sections can have more
pub larger_than_the_file : relocated AllAtZero (slice_set (slice_set file 0x114 0x81) 0x115 1) ≡ Err RelocationsTooLarge
larger_than_the_file = refl

pub as_large_as_the_file : relocated AllAtZero (slice_set (slice_set file 0x114 0x80) 0x115 1) ≡ Err SectionCut
as_large_as_the_file = refl

-- .text turned into other relocations of the section, of so many bytes that both have more than the file
pub larger_together :
    relocated AllAtZero (slice_set (slice_set (slice_set (slice_set file 0x8c 9) 0x9c 0x79) 0x9d 1) 0xa4 3)
    ≡ Err RelocationsTooLarge
larger_together = refl

-- a section of relocations that names itself, and has none then that changes the section
pub of_itself : relocated AllAtZero (slice_set file 0x11c 4)
    ≡ Ok (Some (0xaa ∷ 0xbb ∷ 0xcc ∷ 0xdd ∷ 4 ∷ 0 ∷ 0 ∷ 0 ∷ []))
of_itself = refl
