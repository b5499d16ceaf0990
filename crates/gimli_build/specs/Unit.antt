-- The bytes of a unit as it is written, or the first cause why it can't be (DWARF 5, section 6.2.4;
-- DWARF 4, section 6.2.4).
use Rattle.std.specs.Prelude.{◌∷◌, ◌&&◌, ◌||◌, if◌then◌else◌}
use Rattle.gimli_build.specs
use specs.Prelude
use Prelude.{ℕ, List, [], Bool, not, nat_eq, nat_le, nat_lt, Result, Ok, Err, ℤ, number_bytes}
use Prelude.{Encoding, LineEncoding, Format, Dwarf32, Dwarf64, length_word, Hand, Error}
use Prelude.{IncompatibleLineProgramEncoding, UnsupportedVersion, NeedVersion, StringTables}
use Rattle.std.specs.Int.{w8, cast_unsigned}
use specs.Joined.{format_word}
use specs.Joined.{result_append, after_length}
use specs.Version4Tables.{directories_bytes, files_bytes}
use specs.Version5Tables.{texts_after, directory_table_bytes, file_table_bytes}
use specs.Rows.{initial_row}
use specs.Encode.{built_opcode_base}
use specs.Items.{items_bytes}
use specs.Built.{Built}

-- ---- the fixed fields

-- the version, which is 2 to 5
abbrev pub version_bytes : Bool → ℕ → Result (List ℕ) Error
version_bytes is_big version =
    if nat_le 2 version && nat_le version 5 then Ok (number_bytes is_big 2 version)
    else Err (UnsupportedVersion version)

-- the version, and in version 5 the address size and a segment selector size of 0
abbrev pub opening_bytes : Bool → Encoding → Result (List ℕ) Error
opening_bytes is_big encoding =
    result_append (version_bytes is_big encoding.version)
    (Ok (if nat_le encoding.version 4 then [] else encoding.address_size ∷ 0 ∷ []))

-- how many operations an instruction of the machine has: before version 4 it is one, and no byte
-- says so
abbrev pub operations_bytes : ℕ → ℕ → Result (List ℕ) Error
operations_bytes version operations =
    if nat_le 4 version then Ok (operations ∷ [])
    else (if nat_eq operations 1 then Ok [] else Err (NeedVersion 4))

-- the byte of a flag
abbrev pub flag_byte : Bool → ℕ
flag_byte flag = if flag then 1 else 0

-- in two's complement
unfoldable pub base_byte : ℤ → ℕ
base_byte base = cast_unsigned w8 base

-- how lines and operations are encoded
abbrev pub line_encoding_bytes : ℕ → LineEncoding → Result (List ℕ) Error
line_encoding_bytes version e =
    result_append (Ok (e.minimum_instruction_length ∷ []))
    (result_append (operations_bytes version e.maximum_operations_per_instruction)
    (Ok (flag_byte e.default_is_stmt ∷ base_byte e.line_base ∷ e.line_range ∷ [])))

-- how many LEB128 operands the standard opcodes 1 to 12 have
abbrev pub operand_counts : List ℕ
operand_counts = 0 ∷ 1 ∷ 1 ∷ 1 ∷ 1 ∷ 0 ∷ 0 ∷ 0 ∷ 1 ∷ 0 ∷ 0 ∷ 1 ∷ []

-- the opcode base, and those
abbrev pub opcode_bytes : List ℕ
opcode_bytes = built_opcode_base ∷ operand_counts

-- ---- the unit

-- what tells the format, in front of the word of a length
abbrev pub escape_bytes : Bool → Format → List ℕ
escape_bytes is_big Dwarf32 = []
escape_bytes is_big Dwarf64 = number_bytes is_big 4 0xffff_ffff

-- by a hand, which writes addresses and the offsets of texts; `plain` writes them as numbers
module _ (hand : Hand) (is_big : Bool) where
  -- the directories and the files
  abbrev pub tables_bytes : Built → StringTables → Result (List ℕ) Error
  tables_bytes p texts =
      if nat_le p.encoding.version 4
      then result_append (directories_bytes p.directories) (files_bytes p.files)
      else result_append (directory_table_bytes hand is_big p.encoding.format texts p)
      (file_table_bytes hand is_big p.encoding.format texts p)

  -- what the header length counts
  abbrev pub fields_bytes : Built → StringTables → Result (List ℕ) Error
  fields_bytes p texts =
      result_append (line_encoding_bytes p.encoding.version p.line_encoding)
      (result_append (Ok opcode_bytes)
      (tables_bytes p texts))

  -- the header length, and what it counts
  abbrev pub header_bytes : Built → StringTables → Result (List ℕ) Error
  header_bytes p texts =
      after_length (λ n. format_word is_big p.encoding.format n) (fields_bytes p texts)

  -- the instructions
  abbrev pub program_bytes : Built → Result (List ℕ) Error
  program_bytes p =
      items_bytes hand is_big p.encoding p.line_encoding
      (initial_row p.encoding.version p.line_encoding.default_is_stmt) p.items

  -- what the unit length counts
  abbrev pub inside_bytes : Built → StringTables → Result (List ℕ) Error
  inside_bytes p texts =
      result_append (opening_bytes is_big p.encoding)
      (result_append (header_bytes p texts) (program_bytes p))

  -- the unit length, and what it counts
  abbrev pub whole_bytes : Built → StringTables → Result (List ℕ) Error
  whole_bytes p texts =
      after_length
      (λ n. result_append (Ok (escape_bytes is_big p.encoding.format))
      (length_word is_big p.encoding.format n))
      (inside_bytes p texts)

-- a unit of this encoding has no line program of that one: up to version 4 a file number is never
-- 0, and addresses have one size
abbrev pub is_incompatible : Encoding → Encoding → Bool
is_incompatible unit program =
    (nat_lt unit.version 5 && nat_le 5 program.version)
    || not (nat_eq unit.address_size program.address_size)

-- what is written of a program for a unit of this encoding, with these tables of strings and line
-- strings, which gain the empty text where it is needed
abbrev pub unit_bytes : Hand → Bool → Encoding → Built → StringTables → Result (List ℕ) Error
unit_bytes hand is_big unit p texts =
    if is_incompatible unit p.encoding then Err IncompatibleLineProgramEncoding
    else whole_bytes hand is_big p (texts_after p texts)
