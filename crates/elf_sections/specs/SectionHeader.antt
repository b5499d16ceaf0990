-- Section headers (System V ABI, chapter 4, "Sections"), and the bytes of a section.
use Rattle.std.specs.Prelude.{ℕ, ◌+◌, ◌-◌, ◌*◌, ◌^◌, min, List, [], length, slice_range, bit_and}
use Rattle.std.specs.Prelude.{nat_eq, nat_lt, Bool, not, ◌&&◌, if◌then◌else◌, Result, Ok, Err}
use Rattle.elf_sections.specs.ElfNumbers.{SHT_NULL, SHT_NOBITS, SHF_ALLOC, SHF_EXECINSTR}
use Rattle.elf_sections.specs.ElfNumbers.{SHF_COMPRESSED}
use Rattle.elf_sections.specs.Layout.{address_size, number_at}
use Rattle.elf_sections.specs.declared.error.ElfError.{ElfError}
use Rattle.elf_sections.specs.declared.error.ElfError.TheVariants.{SectionCut, Compressed}
use Rattle.elf_sections.specs.declared.layout.Class.{Class}
use Rattle.elf_sections.specs.declared.layout.Layout.{Layout}
use Rattle.elf_sections.specs.declared.section_header.SectionHeader.{SectionHeader}

-- the bytes of a section header: 40, or 64
abbrev pub section_header_size : Class → ℕ
section_header_size class = 16 + 6 * address_size class

-- the section header that bytes begin with: sh_name, sh_type, sh_flags, sh_addr, sh_offset,
-- sh_size, sh_link, sh_info, and sh_entsize after sh_addralign
abbrev pub section_header : Layout → List ℕ → SectionHeader
section_header layout bytes = record {
  name = number_at layout 4 0 bytes;
  kind = number_at layout 4 4 bytes;
  flags = number_at layout (address_size layout.class) 8 bytes;
  address = number_at layout (address_size layout.class) (8 + address_size layout.class) bytes;
  offset = number_at layout (address_size layout.class) (8 + 2 * address_size layout.class) bytes;
  size = number_at layout (address_size layout.class) (8 + 3 * address_size layout.class) bytes;
  link = number_at layout 4 (8 + 4 * address_size layout.class) bytes;
  info = number_at layout 4 (12 + 4 * address_size layout.class) bytes;
  entry_size =
      number_at layout (address_size layout.class) (16 + 5 * address_size layout.class) bytes;
}

-- the header is a section's
abbrev pub is_active : SectionHeader → Bool
is_active header = not (nat_eq header.kind SHT_NULL)

-- whether the flags have this bit
abbrev pub has_flag : SectionHeader → ℕ → Bool
has_flag header bit = not (nat_eq (bit_and header.flags bit) 0)

-- code that is in memory when the program runs, and not empty
abbrev pub is_code : SectionHeader → Bool
is_code header =
    has_flag header SHF_ALLOC && has_flag header SHF_EXECINSTR && not (nat_eq header.size 0)

-- the address after a section, or the greatest one where it would end past that
abbrev pub end_of : SectionHeader → ℕ
end_of header = min (header.address + header.size) (2 ^ 64 - 1)

-- the same of a section of code; 0 for any other header
abbrev pub code_end_of : SectionHeader → ℕ
code_end_of header = if is_active header && is_code header then end_of header else 0

-- the bytes of a section as they stand in its file: none where it has none there
abbrev pub stored_bytes : List ℕ → SectionHeader → Result (List ℕ) ElfError
stored_bytes file header =
    if nat_eq header.kind SHT_NOBITS then Ok []
    else (if nat_lt (length file) (header.offset + header.size) then Err SectionCut
    else Ok (slice_range file header.offset (header.offset + header.size)))

-- the bytes of a section that isn't compressed
abbrev pub section_bytes : List ℕ → SectionHeader → Result (List ℕ) ElfError
section_bytes file header =
    if has_flag header SHF_COMPRESSED then Err Compressed else stored_bytes file header
