-- Worked files: what the definitions say of their sections, computed from their bytes.
use Rattle.std.proofs.Common.{◌≡◌, ℕ, List, [], ◌∷◌, ◌++◌, Option, Some, None, Result, Ok, Err, take, refl}
use Rattle.std.specs.Prelude.{codes, replicate, slice_set}
use Rattle.elf_sections.specs.Steps.{◌>>=◌}
use Rattle.elf_sections.specs.File.{file_at, section_at, code_addresses, code_ends}
use Rattle.elf_sections.specs.declared.error.ElfError.{ElfError}
use Rattle.elf_sections.specs.declared.error.ElfError.TheVariants.{NotElf, Class, ByteOrder, Version, HeaderCut}
use Rattle.elf_sections.specs.declared.error.ElfError.TheVariants.{SectionHeaderSize, SectionTableCut, NamesCut}
use Rattle.elf_sections.specs.declared.error.ElfError.TheVariants.{SectionCut, Compressed}

-- the bytes of a section of a file
abbrev bytes_of : List ℕ → List ℕ → Result (Option (List ℕ)) ElfError
bytes_of bytes name = file_at bytes >>= λ file. section_at file name

-- what it is for (e_type)
abbrev kind_of : List ℕ → Result ℕ ElfError
kind_of bytes = file_at bytes >>= λ file. Ok file.kind

-- the addresses of its code
abbrev code_of : List ℕ → Result (List ℕ) ElfError
code_of bytes = file_at bytes >>= λ file. Ok (code_addresses file)

-- where its code ends
abbrev ends_of : List ℕ → Result (List ℕ) ElfError
ends_of bytes = file_at bytes >>= λ file. Ok (code_ends file)

-- ---- 336 bytes: 32 bits, the least significant byte first

-- the header: the table at 0x60, six headers of 0x28 bytes, the names in the last
abbrev pub header_32 : List ℕ
header_32 =
    0x7f ∷ 0x45 ∷ 0x4c ∷ 0x46 ∷ 1 ∷ 1 ∷ 1 ∷ replicate 9 0
    ++ 2 ∷ 0 ∷ 3 ∷ 0 ∷ 1 ∷ 0 ∷ 0 ∷ 0 ∷ 0 ∷ 0x90 ∷ 4 ∷ 8 ∷ 0 ∷ 0 ∷ 0 ∷ 0 ∷ 0x60 ∷ 0 ∷ 0 ∷ 0 ∷ 0 ∷ 0 ∷ 0 ∷ 0
    ∷ 0x34 ∷ 0 ∷ 0x20 ∷ 0 ∷ 0 ∷ 0 ∷ 0x28 ∷ 0 ∷ 6 ∷ 0 ∷ 5 ∷ 0 ∷ []

-- at 0x34 four bytes of code, at 0x38 three bytes, at 0x3b one, at 0x3c the names, and two bytes between
abbrev pub contents_32 : List ℕ
contents_32 =
    0x31 ∷ 0xc0 ∷ 0xc3 ∷ 0x90 ∷ 0xaa ∷ 0xbb ∷ 0xcc ∷ 0xdd
    ∷ (0 ∷ codes ".text" ++ 0 ∷ codes ".bss" ++ 0 ∷ codes ".debug_line" ++ 0 ∷ codes ".shstrtab" ++ replicate 3 0)

-- a section header: the lowest bytes of its fields, and the three higher ones of its address
abbrev pub section_32 : ℕ → ℕ → ℕ → ℕ → ℕ → ℕ → ℕ → ℕ → List ℕ
section_32 name kind flags low middle high offset size =
    name ∷ 0 ∷ 0 ∷ 0 ∷ kind ∷ 0 ∷ 0 ∷ 0 ∷ flags ∷ 0 ∷ 0 ∷ 0 ∷ 0 ∷ low ∷ middle ∷ high ∷ offset ∷ 0 ∷ 0 ∷ 0 ∷ size ∷ 0
    ∷ 0 ∷ 0 ∷ replicate 16 0

-- the code at 0x8049000; data without bytes in the file, below it; two sections of one name; the names
abbrev table_32 : List ℕ
table_32 =
    replicate 40 0
    ++ section_32 1 1 6 0x90 4 8 0x34 4
    ++ section_32 7 8 3 0x80 4 8 0x38 0x10
    ++ section_32 12 1 0 0 0 0 0x38 3
    ++ section_32 12 1 0 0 0 0 0x3b 1
    ++ section_32 24 3 0 0 0 0 0x3c 0x22

abbrev pub file_32 : List ℕ
file_32 = header_32 ++ contents_32 ++ table_32

-- the first of two sections of a name
pub first_of_a_name : bytes_of file_32 (codes ".debug_line") ≡ Ok (Some (0xaa ∷ 0xbb ∷ 0xcc ∷ []))
first_of_a_name = refl

pub code_32 : bytes_of file_32 (codes ".text") ≡ Ok (Some (0x31 ∷ 0xc0 ∷ 0xc3 ∷ 0x90 ∷ []))
code_32 = refl

-- SHT_NOBITS: sixteen bytes in memory, none in the file
pub without_bytes : bytes_of file_32 (codes ".bss") ≡ Ok (Some [])
without_bytes = refl

-- a name is whole: not the beginning of another, and not longer
pub beginning_of_a_name : bytes_of file_32 (codes ".debug") ≡ Ok None
beginning_of_a_name = refl

pub longer_name : bytes_of file_32 (codes ".debug_line_str") ≡ Ok None
longer_name = refl

-- the inactive header 0 has the empty name, and is no section
pub inactive : bytes_of file_32 [] ≡ Ok None
inactive = refl

-- the data is lower, but no code
pub lowest_code : code_of file_32 ≡ Ok (0x804_9000 ∷ [])
lowest_code = refl

-- after its four bytes
pub code_end : ends_of file_32 ≡ Ok (0x804_9004 ∷ [])
code_end = refl

-- ET_EXEC
pub linked : kind_of file_32 ≡ Ok 2
linked = refl

-- e_shnum 0 and e_shstrndx 0xffff: section 0 says by its size and its link that there are six, and the names in 5
abbrev extended : List ℕ
extended = slice_set (slice_set (slice_set (slice_set (slice_set file_32 0x30 0) 0x32 0xff) 0x33 0xff) 0x74 6) 0x78 5

pub numbers_in_section_0 : bytes_of extended (codes ".debug_line") ≡ Ok (Some (0xaa ∷ 0xbb ∷ 0xcc ∷ []))
numbers_in_section_0 = refl

-- e_shoff 0: no table, and so no section
pub no_table : bytes_of (slice_set file_32 0x20 0) (codes ".text") ≡ Ok None
no_table = refl

-- e_shstrndx 0: no section has a name
pub no_names : bytes_of (slice_set file_32 0x32 0) (codes ".text") ≡ Ok None
no_names = refl

-- ---- its refusals, by one byte or two

pub empty_file : bytes_of [] (codes ".text") ≡ Err NotElf
empty_file = refl

pub other_magic : bytes_of (slice_set file_32 3 0x47) (codes ".text") ≡ Err NotElf
other_magic = refl

pub class_3 : bytes_of (slice_set file_32 4 3) (codes ".text") ≡ Err (Class 3)
class_3 = refl

pub order_0 : bytes_of (slice_set file_32 5 0) (codes ".text") ≡ Err (ByteOrder 0)
order_0 = refl

pub version_2 : bytes_of (slice_set file_32 6 2) (codes ".text") ≡ Err (Version 2)
version_2 = refl

pub header_cut : bytes_of (take 51 file_32) (codes ".text") ≡ Err HeaderCut
header_cut = refl

pub short_entries : bytes_of (slice_set file_32 0x2e 0x27) (codes ".text") ≡ Err (SectionHeaderSize 0x27)
short_entries = refl

pub table_cut : bytes_of (take 335 file_32) (codes ".text") ≡ Err SectionTableCut
table_cut = refl

-- the table would begin one byte further
pub table_too_far : bytes_of (slice_set file_32 0x20 0x61) (codes ".text") ≡ Err SectionTableCut
table_too_far = refl

-- there is no section 6
pub names_nowhere : bytes_of (slice_set file_32 0x32 6) (codes ".text") ≡ Err NamesCut
names_nowhere = refl

-- the names are 0x1_0022 bytes long
pub names_cut : bytes_of (slice_set file_32 0x13e 1) (codes ".text") ≡ Err NamesCut
names_cut = refl

-- .debug_line, of three bytes, would begin two bytes before the end of the file
pub section_cut : bytes_of (slice_set (slice_set file_32 0xe8 0x4e) 0xe9 1) (codes ".debug_line") ≡ Err SectionCut
section_cut = refl

-- and one byte before that it ends with the file: the last three bytes of the table
pub section_at_the_end : bytes_of (slice_set (slice_set file_32 0xe8 0x4d) 0xe9 1) (codes ".debug_line")
    ≡ Ok (Some (replicate 3 0))
section_at_the_end = refl

-- SHF_COMPRESSED
pub compressed : bytes_of (slice_set file_32 0xe1 8) (codes ".debug_line") ≡ Err Compressed
compressed = refl

-- ---- 360 bytes: 64 bits, the most significant byte first

-- the header: the table at 0x68, four headers of 0x40 bytes, the names in the last
abbrev header_64 : List ℕ
header_64 =
    0x7f ∷ 0x45 ∷ 0x4c ∷ 0x46 ∷ 2 ∷ 2 ∷ 1 ∷ replicate 9 0
    ++ 0 ∷ 1 ∷ 0 ∷ 21 ∷ 0 ∷ 0 ∷ 0 ∷ 1 ∷ replicate 23 0
    ++ 0x68 ∷ 0 ∷ 0 ∷ 0 ∷ 2 ∷ 0 ∷ 0x40 ∷ 0 ∷ 0x38 ∷ 0 ∷ 0 ∷ 0 ∷ 0x40 ∷ 0 ∷ 4 ∷ 0 ∷ 3 ∷ []

-- at 0x40 four bytes of code, at 0x44 two bytes, at 0x46 the names, and five bytes between
abbrev contents_64 : List ℕ
contents_64 =
    0x4e ∷ 0x80 ∷ 0 ∷ 0x20 ∷ 1 ∷ 2
    ∷ (0 ∷ codes ".text" ++ 0 ∷ codes ".debug_line" ++ 0 ∷ codes ".shstrtab" ++ replicate 6 0)

-- a section header: the lowest bytes of its fields, and of its address the fourth
abbrev section_64 : ℕ → ℕ → ℕ → ℕ → ℕ → ℕ → List ℕ
section_64 name kind flags fourth offset size =
    0 ∷ 0 ∷ 0 ∷ name ∷ 0 ∷ 0 ∷ 0 ∷ kind ∷ replicate 7 0
    ++ flags ∷ 0 ∷ 0 ∷ 0 ∷ 0 ∷ fourth ∷ 0 ∷ 0 ∷ 0 ∷ replicate 7 0
    ++ offset ∷ replicate 7 0 ++ size ∷ replicate 24 0

abbrev file_64 : List ℕ
file_64 =
    header_64 ++ contents_64 ++ replicate 64 0
    ++ section_64 1 1 6 0x10 0x40 4 ++ section_64 7 1 0 0 0x44 2 ++ section_64 19 3 0 0 0x46 0x1d

pub lines_64 : bytes_of file_64 (codes ".debug_line") ≡ Ok (Some (1 ∷ 2 ∷ []))
lines_64 = refl

-- ET_REL
pub not_linked : kind_of file_64 ≡ Ok 1
not_linked = refl

pub names_64 : bytes_of file_64 (codes ".shstrtab")
    ≡ Ok (Some (0 ∷ codes ".text" ++ 0 ∷ codes ".debug_line" ++ 0 ∷ codes ".shstrtab" ++ 0 ∷ []))
names_64 = refl

pub lowest_code_64 : code_of file_64 ≡ Ok (0x1000_0000 ∷ [])
lowest_code_64 = refl

-- code that isn't in memory (SHF_EXECINSTR alone), and code without a size
pub not_in_memory : code_of (slice_set file_64 0xb7 4) ≡ Ok []
not_in_memory = refl

pub empty_code : code_of (slice_set file_64 0xcf 0) ≡ Ok []
empty_code = refl

-- code at 0x100_0000_1000_0000 of so many bytes that it would end past 2 ^ 64
pub end_too_far : ends_of (slice_set (slice_set file_64 0xb8 1) 0xc8 0xff) ≡ Ok (0xffff_ffff_ffff_ffff ∷ [])
end_too_far = refl
