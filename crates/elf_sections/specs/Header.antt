-- The header of a file (System V ABI, chapter 4, "ELF Header").
use Rattle.std.specs.Prelude.{ℕ, ◌+◌, ◌*◌, List, length, nat_lt, if◌then◌else◌, Result, Ok, Err}
use Rattle.elf_sections.specs.Layout.{address_size, number_at}
use Rattle.elf_sections.specs.declared.error.ElfError.{ElfError}
use Rattle.elf_sections.specs.declared.error.ElfError.TheVariants.{HeaderCut}
use Rattle.elf_sections.specs.declared.layout.Layout.{Layout}
use Rattle.elf_sections.specs.declared.layout.Class.{Class}
use Rattle.elf_sections.specs.declared.header.Header.{Header}

-- e_ehsize: 52 bytes, or 64. Before e_shoff stand two of an address's size (e_entry, e_phoff), and
-- 24 bytes
abbrev pub header_size : Class → ℕ
header_size class = 40 + 3 * address_size class

-- the fields that the sections are found by
abbrev pub header_fields : Layout → List ℕ → Header
header_fields layout bytes = record {
  kind = number_at layout 2 16 bytes;
  machine = number_at layout 2 18 bytes;
  table_offset =
      number_at layout (address_size layout.class) (24 + 2 * address_size layout.class) bytes;
  entry_size = number_at layout 2 (34 + 3 * address_size layout.class) bytes;
  count = number_at layout 2 (36 + 3 * address_size layout.class) bytes;
  names_index = number_at layout 2 (38 + 3 * address_size layout.class) bytes;
}

-- the header that a file begins with
abbrev pub header_at : Layout → List ℕ → Result Header ElfError
header_at layout bytes =
    if nat_lt (length bytes) (header_size layout.class) then Err HeaderCut
    else Ok (header_fields layout bytes)
