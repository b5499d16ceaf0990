-- The symbols of a program, by which its code has names (System V ABI, chapter 4, "Symbol Table").
use Rattle.std.specs.Prelude.{ℕ, ◌%◌, List, take, drop, slice_index, nat_eq, Bool, if◌then◌else◌}
use Rattle.std.specs.Prelude.{Option}
use Rattle.std.specs.List.{position}
use Rattle.std.specs.Option.{option_map}
use Rattle.gimli_core.specs.declared.endianity.RunTimeEndian.TheVariants.{Little, Big}
use Rattle.elf_sections.specs.Layout.{address_size, number_at}
use Rattle.elf_sections.specs.Entries.{value_offset, section_offset}
use Rattle.elf_sections.specs.declared.layout.Class.{Class}
use Rattle.elf_sections.specs.declared.layout.Class.TheVariants.{Elf32, Elf64}
use Rattle.elf_sections.specs.declared.layout.Layout.{Layout}
use Rattle.elf_sections.specs.declared.symbols.CodeSymbol.{CodeSymbol}

-- how the numbers of a file are noted, by its order of bytes and the bytes of an address
abbrev pub layout_of : Bool → ℕ → Layout
layout_of is_big size = record {
  class = if nat_eq size 4 then Elf32 else Elf64;
  order = if is_big then Big else Little;
}

-- the offsets of st_info and st_size
abbrev pub info_offset : Class → ℕ
info_offset Elf32 = 12
info_offset Elf64 = 4

abbrev pub size_offset : Class → ℕ
size_offset Elf32 = 8
size_offset Elf64 = 16

-- the symbol that bytes begin with: its type is in the lower four bits of st_info
abbrev pub code_symbol : Layout → List ℕ → CodeSymbol
code_symbol layout bytes = record {
  name = number_at layout 4 0 bytes;
  kind = slice_index bytes (info_offset layout.class) % 16;
  section = number_at layout 2 (section_offset layout.class) bytes;
  address = number_at layout (address_size layout.class) (value_offset layout.class) bytes;
  size = number_at layout (address_size layout.class) (size_offset layout.class) bytes;
}

-- the name at an offset, up to the zero byte that ends it
abbrev pub name_at : List ℕ → ℕ → Option (List ℕ)
name_at names offset =
    option_map (λ end. take end (drop offset names))
    (position (λ b. nat_eq b 0) (drop offset names))
