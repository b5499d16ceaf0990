-- What is read of a unit that was built.
use Rattle.std.specs.Prelude.{◌≡◌, ◌-◌, ◌<◌, ◌≤◌, ◌++◌, if◌then◌else◌}
use Rattle.gimli_build.specs
use specs.Prelude
use Prelude.{ℕ, All, List, length, map, slice_get, Bool, false, None, option_map, nat_le}
use Prelude.{IfSome, option_to_list, OrderAndLimit, Value, Dwarf64, DebugStr, DebugLineStr, String}
use Prelude.{Header, UnitEntry, Decodes, Events, row, Placement, unplaced, offset_of}
use Prelude.{StringTables}
use Rattle.gimli_line.specs.declared.header.file_entry.FileEntryFormat.{FileEntryFormat}
use specs.Version5Tables.{directory_formats, file_formats}
use Rattle.gimli_line.specs.header.HeaderGrammar.{
  HeaderOpening,
  header_production,
  fields_production,
}
use Rattle.gimli_line.specs.header.File.{File as ReadFile}
use specs.LineText.{LineText, Inline, InStrings, InLineStrings, bytes_in}
use specs.Tables.{File}
use specs.Texts.{Sections, StandsAt, IsText, IsOptionalText, OneByOne}
use specs.Stored.{stored_details}
use specs.Items.{program_instructions, program_rows, HasFittingAddresses}
use specs.ReadRows.{built_rules}
use specs.Built.{Built}
use specs.Unit.{operand_counts}
use specs.Cause.{emitted_texts}

-- the bytes are a unit with this header and nothing after it, and between the tables and the
-- program there is nothing
pub record IsUnit (layout : OrderAndLimit) (unit_entry : UnitEntry) (unit : List ℕ) (h : Header)
    : Type 0 where
  pub spelled : (header_production layout unit_entry).Spells unit h
  -- the version, the header length and so on; its `fields` are the bytes that the header length
  -- counts
  pub opening : HeaderOpening
  pub before : List ℕ
  pub parts : unit ≡ before ++ opening.fields ++ h.program
  pub whole : length opening.fields ≡ h.header_length
  pub no_slack : (fields_production layout unit_entry h.unit_length opening h.program).Spells
      opening.fields h

-- the directories from index 0 on: up to version 4 the one that was handed is the first
abbrev pub directories_from_zero : Header → List Value
directories_from_zero h =
    if nat_le h.parameters.encoding.version 4
    then option_to_list (option_map String h.comp_dir) ++ h.directories else h.directories

-- a content type and a form as they are read
abbrev pub table_format : ℕ × ℕ → FileEntryFormat
table_format f = record { content_type = record { 0 = f.0 }; form = record { 0 = f.1 } }

-- in version 5 the formats tell which details are there, and the form of each text
pub record AreFormats (p : Built) (h : Header) : Type 0 where
  pub directories : h.directory_formats ≡ map table_format (directory_formats p)
  pub files : h.file_formats ≡ map table_format (file_formats p)

-- a read directory stands for a built one
abbrev pub IsDirectory : Sections → StringTables → Value → LineText → Type 0
IsDirectory sections texts read built = IsText sections read (bytes_in texts built)

-- a read file stands for a built one, with what was stored of it
pub record IsFile (sections : Sections) (p : Built) (texts : StringTables) (read : ReadFile)
    (built : File) : Type 0 where
  pub path : IsText sections read.path_name (bytes_in texts built.0.0)
  pub directory : read.directory_index ≡ built.0.1
  pub timestamp : read.timestamp ≡ (stored_details p texts built.1).timestamp
  pub size : read.size ≡ (stored_details p texts built.1).size
  pub md5 : read.md5 ≡ (stored_details p texts built.1).md5
  pub source : IsOptionalText sections read.source (stored_details p texts built.1).source

-- the program of a header is the instructions of a built program, and nothing else
abbrev pub DecodesAs : OrderAndLimit → Header → Built → Type 0
DecodesAs layout h p = Decodes layout h h.program (program_instructions p) None

-- the bytes are a unit, and what is read of it is what was built: the encodings, the directories
-- and the files with these tables and these sections, and the instructions of each item, up to the
-- end of the program. Where addresses hold the items, and none is a tombstone, its events are the
-- built rows and ends
pub record ReadsBack (layout : OrderAndLimit) (unit_entry : UnitEntry) (sections : Sections)
    (p : Built) (texts : StringTables) (unit : List ℕ) : Type 0 where
  pub header : Header
  pub is_unit : IsUnit layout unit_entry unit header
  pub parameters : header.parameters ≡ built_rules p.encoding p.line_encoding
  pub counts : header.operand_counts ≡ operand_counts
  pub formats : nat_le p.encoding.version 4 ≡ false → AreFormats p header
  pub directories : OneByOne (IsDirectory sections texts) (directories_from_zero header)
      p.directories
  pub files : OneByOne (IsFile sections p texts) header.files p.files
  pub decoding : DecodesAs layout header p
  pub rows : HasFittingAddresses p
      → Events layout header header.program (map row (program_rows p))

-- an offset of a reader is below this limit, and holds what the offset of a text becomes
abbrev pub IsOffsetHeld : ℕ → Placement → StringTables → LineText → Type 0
IsOffsetHeld limit at texts (Inline text) = Unit {0}
IsOffsetHeld limit at texts (InStrings i) = at.section DebugStr (offset_of texts.strings i) < limit
IsOffsetHeld limit at texts (InLineStrings i) =
    at.section DebugLineStr (offset_of texts.line_strings i) < limit

-- a text of a table stands in a section where its offset leads, once that is placed
abbrev pub IsTextFound : List ℕ → (ℕ → ℕ) → List (List ℕ) → ℕ → Type 0
IsTextFound section placed texts i =
    IfSome (slice_get texts i) (StandsAt section (placed (offset_of texts i)))

-- so does one of a program, if it is an offset
abbrev pub IsFound : Sections → Placement → StringTables → LineText → Type 0
IsFound sections at texts (Inline text) = Unit {0}
IsFound sections at texts (InStrings i) =
    IsTextFound sections.strings (at.section DebugStr) texts.strings i
IsFound sections at texts (InLineStrings i) =
    IsTextFound sections.line_strings (at.section DebugLineStr) texts.line_strings i

-- how such a unit has to be read: in the order in which it was written, with its address size, up
-- to version 4 with the working directory, and beside sections in which its offsets, as they are
-- placed, lead to its texts; by a reader whose offsets hold the numbers of the unit
pub record IsReadWell (at : Placement) (layout : OrderAndLimit) (unit_entry : UnitEntry)
    (sections : Sections) (is_big : Bool) (p : Built) (texts : StringTables) (unit : List ℕ)
    : Type 0 where
  pub order : layout.is_big ≡ is_big
  pub address_size : unit_entry.address_size ≡ p.encoding.address_size
  pub directory : p.encoding.version ≤ 4
      → unit_entry.directory ≡ option_map (bytes_in texts) (slice_get p.directories 0)
  pub texts_found : 5 ≤ p.encoding.version
      → All (λ t. IsFound sections at texts t.1) (emitted_texts p texts)
  -- an extended instruction has at most 11 bytes after its length
  pub instructions_held : 11 < layout.limit
  -- any offset holds a word of the 32-bit format; in the 64-bit format the unit length counts all
  -- but the first 12 bytes
  pub length_held : p.encoding.format ≡ Dwarf64 → length unit - 12 < layout.limit
  -- and from version 5 on, a text may be an offset
  pub texts_held : 5 ≤ p.encoding.version → p.encoding.format ≡ Dwarf64
      → All (λ t. IsOffsetHeld layout.limit at texts t.1) (emitted_texts p texts)

-- whoever reads these bytes well, with the offsets of texts so placed, reads the program back
abbrev pub ReadsBackAt : Placement → Bool → Built → StringTables → List ℕ → Type 0
ReadsBackAt at is_big p texts unit =
    (layout : OrderAndLimit) (unit_entry : UnitEntry) (sections : Sections)
    → IsReadWell at layout unit_entry sections is_big p texts unit
    → ReadsBack layout unit_entry sections p texts unit

-- or as they are written
abbrev pub ReadsBackAs : Bool → Built → StringTables → List ℕ → Type 0
ReadsBackAs = ReadsBackAt unplaced
