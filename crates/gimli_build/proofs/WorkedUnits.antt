-- Units that are built, and the bytes that they are written as, worked out by hand.
use Rattle.std.specs.Prelude.{◌≡◌, ◌-◌, ◌^◌, ◌∷◌, ◌++◌}
use Rattle.gimli_build.proofs.Common
use Common.{ℕ, Bool, true, false, List, [], Some, None, Ok, refl, negsuc, pos, ℤ, Encoding, LineEncoding, Format}
use Common.{Dwarf32, Dwarf64, Placement, plain, placed, Constant, Symbol, IncompatibleLineProgramEncoding}
use Common.{UnsupportedVersion, NeedVersion, LineStringFormMismatch, ValueTooLarge, InvalidAddress, texts_in, no_texts}
use Common.{LineText, Inline, InLineStrings, File, no_details, Built, empty_built, initial_row, texts_after, unit_bytes}
use Common.{first_cause, BuiltItem, SetAddress, Row, End}
use Rattle.gimli_bytes.specs.Number.{uleb}
use Rattle.gimli_build.specs
use specs.Unit.{base_byte}
use specs.Linked.{placed_item, placed_program}

-- ---- what is built

abbrev encoding : ℕ → Format → ℕ → Encoding
encoding version format address_size = record { address_size = address_size; format = format; version = version }

-- an instruction length, operations, a line base and a line range; a row is a statement unless it is said
abbrev lines : ℕ → ℕ → ℤ → ℕ → LineEncoding
lines length operations base range = record {
  minimum_instruction_length = length;
  maximum_operations_per_instruction = operations;
  default_is_stmt = true;
  line_base = base;
  line_range = range;
}

abbrev usual : LineEncoding
usual = lines 1 1 (negsuc 4) 14

abbrev built : Encoding → LineEncoding → List File → List BuiltItem → Built
built e l files items = record (empty_built false e l (Inline (0x2f ∷ 0x77 ∷ []) ∷ []) files) { items = items }

-- the file a.c in the working directory
abbrev a_c : File
a_c = ((Inline (0x61 ∷ 0x2e ∷ 0x63 ∷ []), 0), no_details)

abbrev row_at : ℕ → ℕ → ℕ → ℕ → BuiltItem
row_at version offset op_index line =
    Row (record (initial_row version true) { address_offset = offset; op_index = op_index; line = line })

abbrev demo : Built
demo =
    built (encoding 4 Dwarf32 4) usual (a_c ∷ [])
    (SetAddress (Constant 0x1000) ∷ row_at 4 0 0 1 ∷ row_at 4 4 0 3 ∷ End 8 0 ∷ [])

-- a unit of version 2 to 4 without a row: a program for the causes
abbrev bare_program : ℕ → ℕ → List BuiltItem → Built
bare_program version operations items = built (encoding version Dwarf32 4) (lines 1 operations (negsuc 4) 14) [] items

-- ---- bytes

demo_unit : unit_bytes plain false (encoding 4 Dwarf32 4) demo no_texts
    ≡ Ok (0x2f ∷ 0x00 ∷ 0x00 ∷ 0x00 ∷ 0x04 ∷ 0x00 ∷ 0x1b ∷ 0x00 ∷ 0x00 ∷ 0x00 ∷ 0x01 ∷ 0x01 ∷ 0x01 ∷ 0xfb ∷ 0x0e ∷ 0x0d
    ∷ 0x00 ∷ 0x01 ∷ 0x01 ∷ 0x01 ∷ 0x01 ∷ 0x00 ∷ 0x00 ∷ 0x00 ∷ 0x01 ∷ 0x00 ∷ 0x00 ∷ 0x01 ∷ 0x00 ∷ 0x61 ∷ 0x2e ∷ 0x63
    ∷ 0x00 ∷ 0x00 ∷ 0x00 ∷ 0x00 ∷ 0x00 ∷ 0x00 ∷ 0x05 ∷ 0x02 ∷ 0x00 ∷ 0x10 ∷ 0x00 ∷ 0x00 ∷ 0x01 ∷ 0x4c ∷ 0x02 ∷ 0x04
    ∷ 0x00 ∷ 0x01 ∷ 0x01 ∷ [])
unfolding uleb base_byte
demo_unit = refl

big_endian_dwarf64 : unit_bytes plain true (encoding 2 Dwarf64 8) (built (encoding 2 Dwarf64 8) usual [] []) no_texts
    ≡ Ok (0xff ∷ 0xff ∷ 0xff ∷ 0xff ∷ 0x00 ∷ 0x00 ∷ 0x00 ∷ 0x00 ∷ 0x00 ∷ 0x00 ∷ 0x00 ∷ 0x1d ∷ 0x00 ∷ 0x02
    ∷ 0x00 ∷ 0x00 ∷ 0x00 ∷ 0x00 ∷ 0x00 ∷ 0x00 ∷ 0x00 ∷ 0x13 ∷ 0x01 ∷ 0x01 ∷ 0xfb ∷ 0x0e ∷ 0x0d
    ∷ 0x00 ∷ 0x01 ∷ 0x01 ∷ 0x01 ∷ 0x01 ∷ 0x00 ∷ 0x00 ∷ 0x00 ∷ 0x01 ∷ 0x00 ∷ 0x00 ∷ 0x01 ∷ 0x00 ∷ 0x00 ∷ [])
unfolding uleb base_byte
big_endian_dwarf64 = refl

-- ---- bytes of version 5

abbrev encoding_5 : Encoding
encoding_5 = encoding 5 Dwarf32 8

-- a unit of version 5 with these directories and files, and whether sources are written
abbrev built_5 : List LineText → List File → Bool → List BuiltItem → Built
built_5 directories files has_source items = record (empty_built false encoding_5 usual directories files) {
  file_has_source = has_source;
  items = items;
}

abbrev in_program : Built
in_program = built_5 (Inline (0x2f ∷ 0x77 ∷ []) ∷ []) (a_c ∷ []) false []

version_5_unit : unit_bytes plain false encoding_5 in_program no_texts
    ≡ Ok (0x2c ∷ 0x00 ∷ 0x00 ∷ 0x00 ∷ 0x05 ∷ 0x00 ∷ 0x08 ∷ 0x00 ∷ 0x24 ∷ 0x00 ∷ 0x00 ∷ 0x00 ∷ 0x01 ∷ 0x01 ∷ 0x01 ∷ 0xfb
    ∷ 0x0e ∷ 0x0d
    ∷ 0x00 ∷ 0x01 ∷ 0x01 ∷ 0x01 ∷ 0x01 ∷ 0x00 ∷ 0x00 ∷ 0x00 ∷ 0x01 ∷ 0x00 ∷ 0x00 ∷ 0x01 ∷ 0x01 ∷ 0x01 ∷ 0x08 ∷ 0x01
    ∷ 0x2f ∷ 0x77 ∷ 0x00
    ∷ 0x02 ∷ 0x01 ∷ 0x08 ∷ 0x02 ∷ 0x0f ∷ 0x01 ∷ 0x61 ∷ 0x2e ∷ 0x63 ∷ 0x00 ∷ 0x00 ∷ [])
unfolding uleb base_byte
version_5_unit = refl

version_5_with_source : unit_bytes plain false encoding_5 (record in_program { file_has_source = true }) no_texts
    ≡ Ok (0x30 ∷ 0x00 ∷ 0x00 ∷ 0x00 ∷ 0x05 ∷ 0x00 ∷ 0x08 ∷ 0x00 ∷ 0x28 ∷ 0x00 ∷ 0x00 ∷ 0x00 ∷ 0x01 ∷ 0x01 ∷ 0x01 ∷ 0xfb
    ∷ 0x0e ∷ 0x0d
    ∷ 0x00 ∷ 0x01 ∷ 0x01 ∷ 0x01 ∷ 0x01 ∷ 0x00 ∷ 0x00 ∷ 0x00 ∷ 0x01 ∷ 0x00 ∷ 0x00 ∷ 0x01 ∷ 0x01 ∷ 0x01 ∷ 0x08 ∷ 0x01
    ∷ 0x2f ∷ 0x77 ∷ 0x00
    ∷ 0x03 ∷ 0x01 ∷ 0x08 ∷ 0x02 ∷ 0x0f ∷ 0x81 ∷ 0x40 ∷ 0x08 ∷ 0x01 ∷ 0x61 ∷ 0x2e ∷ 0x63 ∷ 0x00 ∷ 0x00 ∷ 0x00 ∷ [])
unfolding uleb base_byte
version_5_with_source = refl

-- the texts of these units
abbrev w : List ℕ
w = 0x2f ∷ 0x77 ∷ []

abbrev a : List ℕ
a = 0x61 ∷ 0x2e ∷ 0x63 ∷ []

abbrev by_reference : Built
by_reference = built_5 (InLineStrings 0 ∷ []) (((InLineStrings 1, 0), no_details) ∷ []) false []

version_5_by_reference : unit_bytes plain false encoding_5 by_reference (texts_in [] (w ∷ a ∷ []))
    ≡ Ok (0x2d ∷ 0x00 ∷ 0x00 ∷ 0x00 ∷ 0x05 ∷ 0x00 ∷ 0x08 ∷ 0x00 ∷ 0x25 ∷ 0x00 ∷ 0x00 ∷ 0x00 ∷ 0x01 ∷ 0x01 ∷ 0x01 ∷ 0xfb
    ∷ 0x0e ∷ 0x0d
    ∷ 0x00 ∷ 0x01 ∷ 0x01 ∷ 0x01 ∷ 0x01 ∷ 0x00 ∷ 0x00 ∷ 0x00 ∷ 0x01 ∷ 0x00 ∷ 0x00 ∷ 0x01 ∷ 0x01 ∷ 0x01 ∷ 0x1f ∷ 0x01
    ∷ 0x00 ∷ 0x00 ∷ 0x00 ∷ 0x00
    ∷ 0x02 ∷ 0x01 ∷ 0x1f ∷ 0x02 ∷ 0x0f ∷ 0x01 ∷ 0x03 ∷ 0x00 ∷ 0x00 ∷ 0x00 ∷ 0x00 ∷ [])
unfolding uleb base_byte
version_5_by_reference = refl

-- the sources of two files, the first of which is a text of the table
abbrev missing_source : List BuiltItem → Built
missing_source items =
    built_5 (InLineStrings 0 ∷ [])
    (((InLineStrings 1, 0), record no_details { source = Some (InLineStrings 2) }) ∷ ((InLineStrings 3, 0), no_details)
    ∷ [])
    true items

-- x, and b.c
abbrev four_texts : List (List ℕ)
four_texts = w ∷ a ∷ (0x78 ∷ []) ∷ (0x62 ∷ 0x2e ∷ 0x63 ∷ []) ∷ []

empty_text_is_added : texts_after (missing_source []) (texts_in [] four_texts) ≡ texts_in [] (four_texts ++ [] ∷ [])
empty_text_is_added = refl

-- the last source is the empty text, at offset 13
missing_source_by_reference : unit_bytes plain false encoding_5 (missing_source []) (texts_in [] four_texts)
    ≡ Ok (0x3d ∷ 0x00 ∷ 0x00 ∷ 0x00 ∷ 0x05 ∷ 0x00 ∷ 0x08 ∷ 0x00 ∷ 0x35 ∷ 0x00 ∷ 0x00 ∷ 0x00 ∷ 0x01 ∷ 0x01 ∷ 0x01 ∷ 0xfb
    ∷ 0x0e ∷ 0x0d
    ∷ 0x00 ∷ 0x01 ∷ 0x01 ∷ 0x01 ∷ 0x01 ∷ 0x00 ∷ 0x00 ∷ 0x00 ∷ 0x01 ∷ 0x00 ∷ 0x00 ∷ 0x01 ∷ 0x01 ∷ 0x01 ∷ 0x1f ∷ 0x01
    ∷ 0x00 ∷ 0x00 ∷ 0x00 ∷ 0x00
    ∷ 0x03 ∷ 0x01 ∷ 0x1f ∷ 0x02 ∷ 0x0f ∷ 0x81 ∷ 0x40 ∷ 0x1f ∷ 0x02 ∷ 0x03 ∷ 0x00 ∷ 0x00 ∷ 0x00 ∷ 0x00 ∷ 0x07 ∷ 0x00
    ∷ 0x00 ∷ 0x00
    ∷ 0x09 ∷ 0x00 ∷ 0x00 ∷ 0x00 ∷ 0x00 ∷ 0x0d ∷ 0x00 ∷ 0x00 ∷ 0x00 ∷ [])
unfolding uleb base_byte
missing_source_by_reference = refl

-- ---- once a linker has placed symbols and sections

-- symbol 0 at 0x401000; a linker that merges texts puts the second one at 0x20, the first at 0x23
abbrev there : Placement
there = record { symbol = λ n. 0x401000; section = λ s n. 0x23 - n }

-- a row at the symbol and 4, and an end 8 after it
abbrev by_symbol : Built
by_symbol = record by_reference { items = SetAddress (Symbol 0 (pos 4)) ∷ row_at 5 0 0 1 ∷ End 8 0 ∷ [] }

linked_unit : unit_bytes (placed there) false encoding_5 by_symbol (texts_in [] (w ∷ a ∷ []))
    ≡ Ok (0x3e ∷ 0x00 ∷ 0x00 ∷ 0x00 ∷ 0x05 ∷ 0x00 ∷ 0x08 ∷ 0x00 ∷ 0x25 ∷ 0x00 ∷ 0x00 ∷ 0x00 ∷ 0x01 ∷ 0x01 ∷ 0x01 ∷ 0xfb
    ∷ 0x0e ∷ 0x0d
    ∷ 0x00 ∷ 0x01 ∷ 0x01 ∷ 0x01 ∷ 0x01 ∷ 0x00 ∷ 0x00 ∷ 0x00 ∷ 0x01 ∷ 0x00 ∷ 0x00 ∷ 0x01 ∷ 0x01 ∷ 0x01 ∷ 0x1f ∷ 0x01
    ∷ 0x23 ∷ 0x00 ∷ 0x00 ∷ 0x00
    ∷ 0x02 ∷ 0x01 ∷ 0x1f ∷ 0x02 ∷ 0x0f ∷ 0x01 ∷ 0x20 ∷ 0x00 ∷ 0x00 ∷ 0x00 ∷ 0x00
    ∷ 0x00 ∷ 0x09 ∷ 0x02 ∷ 0x04 ∷ 0x10 ∷ 0x40 ∷ 0x00 ∷ 0x00 ∷ 0x00 ∷ 0x00 ∷ 0x00 ∷ 0x01 ∷ 0x02 ∷ 0x08 ∷ 0x00 ∷ 0x01
    ∷ 0x01 ∷ [])
unfolding uleb base_byte
linked_unit = refl

symbol_replaced : (placed_program there by_symbol).items
    ≡ SetAddress (Constant 0x401004) ∷ row_at 5 0 0 1 ∷ End 8 0 ∷ []
symbol_replaced = refl

negative_addend : placed_item there (SetAddress (Symbol 0 (negsuc 3))) ≡ SetAddress (Constant 0x400ffc)
negative_addend = refl

-- ---- causes

abbrev unit_4 : Encoding
unit_4 = encoding 4 Dwarf32 4

nothing_bars_demo : first_cause false unit_4 demo no_texts ≡ None
unfolding uleb base_byte
nothing_bars_demo = refl

other_address_size : first_cause false (encoding 4 Dwarf32 8) demo no_texts ≡ Some IncompatibleLineProgramEncoding
unfolding uleb base_byte
other_address_size = refl

version_1 : first_cause false unit_4 (bare_program 1 2 (SetAddress (Symbol 0 (pos 0)) ∷ [])) no_texts
    ≡ Some (UnsupportedVersion 1)
unfolding uleb base_byte
version_1 = refl

two_operations : first_cause false unit_4 (bare_program 3 2 (SetAddress (Symbol 0 (pos 0)) ∷ [])) no_texts
    ≡ Some (NeedVersion 4)
unfolding uleb base_byte
two_operations = refl

file_by_reference : first_cause false unit_4
    (built unit_4 usual (((InLineStrings 0, 0), no_details) ∷ []) (SetAddress (Symbol 0 (pos 0)) ∷ [])) no_texts
    ≡ Some LineStringFormMismatch
unfolding uleb base_byte
file_by_reference = refl

symbol_first : first_cause false unit_4
    (bare_program 4 1 (SetAddress (Symbol 0 (pos 0)) ∷ SetAddress (Constant (2 ^ 32)) ∷ [])) no_texts
    ≡ Some InvalidAddress
unfolding uleb base_byte
symbol_first = refl

wide_address_first : first_cause false unit_4
    (bare_program 4 1 (SetAddress (Constant (2 ^ 32)) ∷ SetAddress (Symbol 0 (pos 0)) ∷ [])) no_texts
    ≡ Some ValueTooLarge
unfolding uleb base_byte
wide_address_first = refl

mismatched_directories : first_cause false encoding_5 (built_5 (Inline w ∷ InLineStrings 0 ∷ []) (a_c ∷ []) false [])
    (texts_in [] (w ∷ []))
    ≡ Some LineStringFormMismatch
unfolding uleb base_byte
mismatched_directories = refl

version_6 : first_cause false encoding_5 (record in_program { encoding = encoding 6 Dwarf32 8 }) no_texts
    ≡ Some (UnsupportedVersion 6)
unfolding uleb base_byte
version_6 = refl

version_5_in_version_4 : first_cause false (encoding 4 Dwarf32 8) in_program no_texts
    ≡ Some IncompatibleLineProgramEncoding
unfolding uleb base_byte
version_5_in_version_4 = refl
