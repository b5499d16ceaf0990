-- The entries of relocation sections (System V ABI, chapter 4, "Relocation").
use Rattle.std.specs.Prelude.{ℕ, ◌+◌, ◌-◌, ◌*◌, ◌/◌, ◌%◌, ◌^◌, List, nat_eq, nat_lt, Bool, ◌&&◌}
use Rattle.std.specs.Prelude.{◌||◌, false, if◌then◌else◌, Option, Some, None}
use Rattle.gimli_core.specs.declared.endianity.RunTimeEndian.{RunTimeEndian}
use Rattle.gimli_core.specs.declared.endianity.RunTimeEndian.TheVariants.{Little}
use Rattle.elf_sections.specs.ElfNumbers.{SHT_RELA, SHT_REL, EM_MIPS}
use Rattle.elf_sections.specs.Layout.{address_size, number_at}
use Rattle.elf_sections.specs.declared.layout.Class.{Class}
use Rattle.elf_sections.specs.declared.layout.Class.TheVariants.{Elf32, Elf64}
use Rattle.elf_sections.specs.declared.layout.Layout.{Layout}
use Rattle.elf_sections.specs.declared.relocation.Form.{Form}
use Rattle.elf_sections.specs.declared.relocation.Form.TheVariants.{Rel, Rela}
use Rattle.elf_sections.specs.declared.section_header.SectionHeader.{SectionHeader}
use Rattle.elf_sections.specs.declared.relocation.Relocation.{Relocation}

-- the fields of an entry, each of an address's size: r_offset and r_info, and r_addend in SHT_RELA
abbrev pub fields : Form → ℕ
fields Rel = 2
fields Rela = 3

abbrev pub relocation_size : Class → Form → ℕ
relocation_size class form = fields form * address_size class

-- in r_info the kind stands in the lowest bits, 8 or 32, and the index of the symbol above them
abbrev pub kinds : Class → ℕ
kinds Elf32 = 2 ^ 8
kinds Elf64 = 2 ^ 32

-- a number of an address's size that may be negative, in two's complement of 64 bits
abbrev pub signed_of : Class → ℕ → ℕ
signed_of Elf32 n = if nat_lt n (2 ^ 31) then n else n + (2 ^ 64 - 2 ^ 32)
signed_of Elf64 n = n

-- r_addend; in SHT_REL the addend stands at the place
abbrev pub addend_of : Layout → Form → List ℕ → Option ℕ
addend_of layout Rel bytes = None
addend_of layout Rela bytes =
    Some (signed_of layout.class
    (number_at layout (address_size layout.class) (2 * address_size layout.class) bytes))

-- the bytes of a word, in the other order
abbrev pub swapped : ℕ → ℕ
swapped n =
    n % 2 ^ 8 * 2 ^ 24 + n / 2 ^ 8 % 2 ^ 8 * 2 ^ 16 + n / 2 ^ 16 % 2 ^ 8 * 2 ^ 8 + n / 2 ^ 24

-- whether the two words of r_info stand in the other order, and the bytes of the kind too: in
-- little-endian files of 64 bits for MIPS, whose r_info is a word and four bytes, of which the last
-- is the kind
abbrev pub is_swapped : ℕ → Class → RunTimeEndian → Bool
is_swapped machine Elf64 Little = nat_eq machine EM_MIPS
is_swapped machine class order = false

-- the entry as the machine has it
abbrev pub of_machine : ℕ → Layout → Relocation → Relocation
of_machine machine layout entry =
    if is_swapped machine layout.class layout.order
    then record entry { symbol = entry.kind; kind = swapped entry.symbol } else entry

-- r_info
abbrev pub info_of : Layout → List ℕ → ℕ
info_of layout bytes =
    number_at layout (address_size layout.class) (address_size layout.class) bytes

-- the entry that bytes begin with
abbrev pub relocation : Layout → Form → List ℕ → Relocation
relocation layout form bytes = record {
  offset = number_at layout (address_size layout.class) 0 bytes;
  symbol = info_of layout bytes / kinds layout.class;
  kind = info_of layout bytes % kinds layout.class;
  addend = addend_of layout form bytes;
}

-- the form of the entries of a section of relocations
abbrev pub form_of : SectionHeader → Form
form_of header = if nat_eq header.kind SHT_RELA then Rela else Rel

-- whether a section has relocations of the section of an index (sh_info)
abbrev pub relocates : ℕ → SectionHeader → Bool
relocates index header =
    (nat_eq header.kind SHT_RELA || nat_eq header.kind SHT_REL) && nat_eq header.info index
