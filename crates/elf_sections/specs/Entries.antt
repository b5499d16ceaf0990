-- Sections of entries (System V ABI, chapter 4, "Sections": sh_entsize), and the symbols among them
-- ("Symbol Table").
use Rattle.std.specs.Prelude.{ℕ, ◌*◌, ◌/◌, List, map, length, drop, slice_get, nat_eq, nat_lt}
use Rattle.std.specs.Prelude.{if◌then◌else◌, Option, Some, None, Result, Ok, Err}
use Rattle.std.specs.List.{range_with_len}
use Rattle.elf_sections.specs.ElfNumbers.{SHT_SYMTAB}
use Rattle.elf_sections.specs.Steps.{◌>>=◌}
use Rattle.elf_sections.specs.Layout.{address_size, number_at}
use Rattle.elf_sections.specs.SectionHeader.{section_bytes}
use Rattle.elf_sections.specs.declared.error.ElfError.{ElfError}
use Rattle.elf_sections.specs.declared.error.ElfError.TheVariants.{
  EntrySize,
  NoSymbols,
  SymbolOutside,
}
use Rattle.elf_sections.specs.declared.layout.Class.{Class}
use Rattle.elf_sections.specs.declared.layout.Class.TheVariants.{Elf32, Elf64}
use Rattle.elf_sections.specs.declared.layout.Layout.{Layout}
use Rattle.elf_sections.specs.declared.section_header.SectionHeader.{SectionHeader}
use Rattle.elf_sections.specs.declared.symbol.Symbol.{Symbol}

-- the bytes from the beginning of each entry on, where an entry has so many; those of a part of an
-- entry are passed over
abbrev pub entries : ℕ → List ℕ → List (List ℕ)
entries size bytes =
    map (λ index. drop (index * size) bytes) (range_with_len 0 (length bytes / size))

-- the entries of a section, which have so many bytes at least
abbrev pub entries_at : List ℕ → ℕ → SectionHeader → Result (List (List ℕ)) ElfError
entries_at file smallest header =
    if nat_lt header.entry_size smallest then Err (EntrySize header.entry_size)
    else (section_bytes file header >>= λ bytes. Ok (entries header.entry_size bytes))

-- Elf32_Sym, Elf64_Sym
abbrev pub symbol_size : Class → ℕ
symbol_size Elf32 = 16
symbol_size Elf64 = 24

-- the offsets of st_value and st_shndx
abbrev pub value_offset : Class → ℕ
value_offset Elf32 = 4
value_offset Elf64 = 8

abbrev pub section_offset : Class → ℕ
section_offset Elf32 = 14
section_offset Elf64 = 6

-- the symbol that bytes begin with
abbrev pub symbol : Layout → List ℕ → Symbol
symbol layout bytes = record {
  value = number_at layout (address_size layout.class) (value_offset layout.class) bytes;
  section = number_at layout 2 (section_offset layout.class) bytes;
}

-- the entries of a symbol table
abbrev pub symbols_in : Layout → List ℕ → Option SectionHeader → Result (List (List ℕ)) ElfError
symbols_in layout file None = Err NoSymbols
symbols_in layout file (Some header) =
    if nat_eq header.kind SHT_SYMTAB then entries_at file (symbol_size layout.class) header
    else Err NoSymbols

-- the symbol of an index
abbrev pub symbol_or : Layout → ℕ → Option (List ℕ) → Result Symbol ElfError
symbol_or layout index (Some entry) = Ok (symbol layout entry)
symbol_or layout index None = Err (SymbolOutside index)

abbrev pub symbol_at : Layout → List (List ℕ) → ℕ → Result Symbol ElfError
symbol_at layout symbols index = symbol_or layout index (slice_get symbols index)
