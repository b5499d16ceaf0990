-- How the header of a unit is spelled, production by production, and which refusal comes where a
-- production isn't there (DWARF 5, section 6.2.4; DWARF 4, section 6.2.4).
use Rattle.std.specs.Prelude.{◌≡◌, ◌-◌, ◌≤◌, ◌∷◌, ◌++◌, ◌&&◌, if◌then◌else◌}
use Rattle.gimli_line.specs
use specs.Prelude
use Prelude.{ℕ, List, [], length, map, replicate, min, count_by, Bool, not, nat_eq, nat_le, Option}
use Prelude.{Some, None, option_map, Value, udata_value, Encoding, LineEncoding, Format, Block}
use Prelude.{String, Error, UnknownVersion, UnsupportedSegmentSize}
use Prelude.{MinimumInstructionLengthZero, MaximumOperationsPerInstructionZero, LineRangeZero}
use Prelude.{OpcodeBaseZero, MissingFileEntryFormatPath, OrderAndLimit}
use Rattle.std.specs.Int.{w8, cast_signed}
use Rattle.gimli_core.specs.Numbers.{SpellsUleb128}
use Rattle.gimli_core.specs.Production.{
  Production,
  ◌>>=◌,
  ◌>>◌,
  done,
  check,
  choose,
  times,
  list_to_zero,
  within,
  address_size,
  byte,
  number,
  some_bytes,
  unsigned,
  unsigned_16,
  offset_word,
  unit_length,
}
use Rattle.gimli_core.specs.Form.{form_production}
use specs.LineNumbers.{
  DW_LNCT_path,
  DW_LNCT_directory_index,
  DW_LNCT_timestamp,
  DW_LNCT_size,
  DW_LNCT_MD5,
  DW_LNCT_LLVM_source,
}
use specs.header.Parameters.{Parameters}
use specs.header.File.{File}
use specs.header.Header.{Header, UnitEntry, plain_file}
use specs.header.Productions.{path_text, positive}
use specs.declared.header.file_entry.FileEntryFormat.{FileEntryFormat}

-- ---- tables up to version 4 (DWARF 4, section 6.2.4, parts 11 and 12)

-- directories: texts that aren't empty, closed by a zero byte
abbrev pub paths_production : Production (List (List ℕ))
paths_production = list_to_zero path_text

-- after the path of a file: its directory, its timestamp and its size
unfoldable pub file_production : List ℕ → Production File
file_production path = do
  directory ← unsigned
  time ← unsigned
  size ← unsigned
  done (plain_file path directory time size)

-- a path that isn't empty, and what stands after it
abbrev pub named_file : Production File
named_file = path_text >>= file_production

-- files, closed by a zero byte
abbrev pub files_production : Production (List File)
files_production = list_to_zero named_file

-- ---- tables of version 5 (DWARF 5, section 6.2.4, parts 13 to 20)

-- one format: a content type, and a form. The standard's content types have 16 bits. Reading a
-- larger one as ffff is our rule, and gimli's, so that a table with an unknown one can still be
-- read
unfoldable pub format_production : Production FileEntryFormat
format_production = do
  content ← unsigned
  form ← unsigned_16
  done (record { content_type = record { 0 = min content 0xffff }; form = record { 0 = form } })

-- whether a format is of this content type
abbrev pub is_content : ℕ → FileEntryFormat → Bool
is_content content format = nat_eq format.content_type.0 content

-- a count and so many formats, exactly one of which is a path
unfoldable pub formats_production : Production (List FileEntryFormat)
formats_production = do
  count ← byte
  formats ← times count format_production
  check (nat_eq (count_by (is_content DW_LNCT_path) formats) 1) MissingFileEntryFormatPath
  done formats

-- the values of an entry, each beside its content type
abbrev pub TableEntry : Type 0
TableEntry = List (ℕ × Value)

module _ (layout : OrderAndLimit) (format : Format) where
  -- an entry: a value for each format
  unfoldable pub entry_production : List FileEntryFormat → Production TableEntry
  entry_production [] = done []
  entry_production (f ∷ formats) = do
    value ← form_production layout format f.form.0
    values ← entry_production formats
    done ((f.content_type.0, value) ∷ values)

  -- a count and so many entries
  unfoldable pub entries_production : List FileEntryFormat → Production (List TableEntry)
  entries_production formats = do
    count ← unsigned
    times count (entry_production formats)

  -- a table: its formats and its entries
  unfoldable pub table_production : Production (List FileEntryFormat × List TableEntry)
  table_production = do
    formats ← formats_production
    entries ← entries_production formats
    done (formats, entries)

-- the last value of a content type that is of use, else what stands at first
abbrev pub last_value : {A : Type 0} → ℕ → (Value → Option A) → A → TableEntry → A
last_value content pick first [] = first
last_value content pick first (v ∷ entry) =
    elim (if nat_eq v.0 content then pick v.1 else None)
    [ Some x ↦ last_value content pick x entry | None ↦ last_value content pick first entry ]

-- the bytes of an MD5 digest: a block of exactly sixteen bytes
abbrev pub digest : Value → Option (List ℕ)
digest (Block bytes) = if nat_eq (length bytes) 16 then Some bytes else None
digest v = None

-- the path of an entry; empty where no format has one
abbrev pub path_of : TableEntry → Value
path_of entry = last_value DW_LNCT_path Some (String []) entry

-- the file of an entry. The standard names no value for a part that no format has, and says nothing
-- of two formats of one content type: that such a part is 0 or empty, and that the later of two
-- counts, is our rule, and gimli's
abbrev pub file_of_entry : TableEntry → File
file_of_entry entry = record {
  path_name = path_of entry;
  directory_index = last_value DW_LNCT_directory_index udata_value 0 entry;
  timestamp = last_value DW_LNCT_timestamp udata_value 0 entry;
  size = last_value DW_LNCT_size udata_value 0 entry;
  md5 = last_value DW_LNCT_MD5 digest (replicate 16 0) entry;
  source = last_value DW_LNCT_LLVM_source (λ v. Some (Some v)) None entry;
}

-- ---- the parts of a header

-- from version 2 to version 5
unfoldable pub version_production : Bool → Production ℕ
version_production is_big = do
  version ← number is_big 2
  check (nat_le 2 version && nat_le version 5) (UnknownVersion version)
  done version

-- up to version 4 the handed address size; in version 5 the unit's own, and after it a segment
-- selector size of 0
unfoldable pub address_size_production : ℕ → ℕ → Production ℕ
address_size_production version handed =
    choose (nat_le version 4) (done handed) (do
      size ← address_size
      selector ← byte
      check (nat_eq selector 0) (UnsupportedSegmentSize selector)
      done size)

-- the fields in front of the header length, and the bytes of that length
pub record HeaderOpening : Type 0 where
  pub encoding : Encoding
  pub header_length : ℕ
  pub fields : List ℕ

-- these fields, and the bytes after the header length
unfoldable pub opening_production : OrderAndLimit → ℕ → Format → Production HeaderOpening
opening_production layout handed format = do
  version ← version_production layout.is_big
  address_size ← address_size_production version handed
  header_length ← offset_word layout format
  fields ← some_bytes header_length
  done (record {
    encoding = record { address_size = address_size; format = format; version = version };
    header_length = header_length;
    fields = fields;
  })

-- up to version 3 an instruction of the machine is one operation
abbrev pub operations_production : ℕ → Production ℕ
operations_production version =
    choose (nat_le version 3) (done 1) (positive MaximumOperationsPerInstructionZero)

-- what rows are encoded by
unfoldable pub line_encoding_production : ℕ → Production LineEncoding
line_encoding_production version = do
  minimum ← positive MinimumInstructionLengthZero
  maximum ← operations_production version
  statement ← byte
  base ← byte
  range ← positive LineRangeZero
  done (record {
    minimum_instruction_length = minimum;
    maximum_operations_per_instruction = maximum;
    default_is_stmt = not (nat_eq statement 0);
    line_base = cast_signed w8 base;
    line_range = range;
  })

-- what the instructions are executed by
unfoldable pub parameters_production : Encoding → Production Parameters
parameters_production encoding = do
  line_encoding ← line_encoding_production encoding.version
  opcode_base ← positive OpcodeBaseZero
  done (record { encoding = encoding; line_encoding = line_encoding; opcode_base = opcode_base })

-- the items of a table, with their formats: up to version 4 plain ones without formats, in version
-- 5 what its entries say
unfoldable pub table_of : {B : Type 0} → Production (List B) → (TableEntry → B) → OrderAndLimit
    → Encoding → Production (List FileEntryFormat × List B)
table_of plain view layout encoding =
    choose (nat_le encoding.version 4)
    (do
      items ← plain
      done ([], items))
    (do
      table ← table_production layout encoding.format
      done (table.0, map view table.1))

-- the directories of a header, with the formats of version 5
abbrev pub directory_table : OrderAndLimit → Encoding
    → Production (List FileEntryFormat × List Value)
directory_table = table_of (paths_production >>= λ paths. done (map String paths)) path_of

-- its files, likewise
abbrev pub file_table : OrderAndLimit → Encoding → Production (List FileEntryFormat × List File)
file_table = table_of files_production file_of_entry

-- what was handed in, where the version takes it
abbrev pub handed_value : {A : Type 0} → Encoding → Option A → Option A
handed_value encoding handed = if nat_le encoding.version 4 then handed else None

-- the further fields of a header, whose program was found already
unfoldable pub fields_production : OrderAndLimit → UnitEntry → ℕ → HeaderOpening → List ℕ
    → Production Header
fields_production layout unit_entry unit opening program = do
  parameters ← parameters_production opening.encoding
  counts ← some_bytes (parameters.opcode_base - 1)
  directories ← directory_table layout opening.encoding
  files ← file_table layout opening.encoding
  done (record {
    parameters = parameters;
    unit_length = unit;
    header_length = opening.header_length;
    operand_counts = counts;
    directory_formats = directories.0;
    directories = directories.1;
    file_formats = files.0;
    files = files.1;
    program = program;
    comp_dir = handed_value opening.encoding unit_entry.directory;
    comp_file =
        handed_value opening.encoding (option_map (λ path. plain_file path 0 0 0) unit_entry.name);
  })

-- ---- the header

-- a unit: its length, and that many bytes. At their front stand the version and so on, up to the
-- fields that the header length counts, with slack after the last of these; after them stands the
-- program
unfoldable pub header_production : OrderAndLimit → UnitEntry → Production Header
header_production layout unit_entry = do
  unit ← unit_length layout
  inside ← some_bytes unit.0
  opened ← within inside (opening_production layout unit_entry.address_size unit.1)
  fields ← within opened.0.fields (fields_production layout unit_entry unit.0 opened.0 opened.1)
  done fields.0

-- the bytes begin with a unit that has this header, whatever follows
abbrev pub SpellsUnit : OrderAndLimit → UnitEntry → List ℕ → Header → Type 0
SpellsUnit layout unit_entry bytes h =
    (unit : List ℕ) × (after : List ℕ) × (bytes ≡ unit ++ after)
    × (header_production layout unit_entry).Spells unit h

-- the bytes begin with no unit, and this is the refusal
abbrev pub HasUnitFault : OrderAndLimit → UnitEntry → List ℕ → Error → Type 0
HasUnitFault layout unit_entry bytes e = (header_production layout unit_entry).Fault bytes e

-- ---- what spells a table

-- the bytes begin with a count, which spells n, and at least n bytes stand after it
abbrev pub HoldsCount : List ℕ → ℕ → Type 0
HoldsCount bytes n =
    (count : List ℕ) × (after : List ℕ) × (bytes ≡ count ++ after) × SpellsUleb128 64 count n
    × (n ≤ length after)

-- whatever entries of these formats bytes spell, the bytes hold their count
abbrev pub HaveCountedEntries : OrderAndLimit → Format → List FileEntryFormat → Type 0
HaveCountedEntries layout format formats =
    (bytes : List ℕ) (entries : List TableEntry)
    → (entries_production layout format formats).Spells bytes entries
    → HoldsCount bytes (length entries)
