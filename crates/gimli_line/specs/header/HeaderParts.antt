-- The parts of a header, which `==` of headers compares, and how many entries its tables have.
use Rattle.std.specs.Prelude.{◌≡◌, ◌+◌}
use Rattle.gimli_line.specs
use specs.Prelude
use Prelude.{ℕ, Bool, List, length, map, Option, option_map, Decides, Value, value_by}
use Prelude.{AttributeValue, DebugLineOffset, Seen}
use Rattle.gimli_core.specs.Equality.{ComparesBy}
use specs.header.File.{File, FileOrders, file_by}
use specs.header.Header.{Header, SeenHeader}
use specs.header.Parameters.{Parameters}
use specs.declared.header.file_entry.FileEntry.{FileEntry}
use specs.declared.header.file_entry.FileEntryFormat.{FileEntryFormat}

-- all that a header holds, wherever in memory its lists stand: its readers, offsets, directories
-- and files are of these types
pub record HeaderParts (R Offset Directory File : Type 0) : Type 0 where
  pub parameters : Parameters
  pub offset : DebugLineOffset Offset
  pub unit_length : Offset
  pub header_length : Offset
  pub operand_counts : R
  pub directory_formats : List FileEntryFormat
  pub directories : List Directory
  pub file_formats : List FileEntryFormat
  pub files : List File
  pub program : R
  pub comp_dir : Option R
  pub comp_file : Option File

module _ {R Offset Endian : Type 0} where
  -- the parts as they are
  abbrev pub parts_of : SeenHeader R Offset Endian
      → HeaderParts R Offset (AttributeValue R Offset Endian) (FileEntry R Offset Endian)
  parts_of h = record {
    parameters = h.parameters;
    offset = h.offset;
    unit_length = h.unit_length;
    header_length = h.header_length;
    operand_counts = h.standard_opcode_lengths;
    directory_formats = h.directory_entry_format.items;
    directories = h.include_directories.items;
    file_formats = h.file_name_entry_format.items;
    files = h.file_names.items;
    program = h.program_buf;
    comp_dir = h.comp_dir;
    comp_file = h.comp_file;
  }

  -- an equality of headers holds exactly where the two agree in all their parts
  abbrev pub ComparesParts : (SeenHeader R Offset Endian → SeenHeader R Offset Endian → Bool)
      → Type 0
  ComparesParts eq = (x y : SeenHeader R Offset Endian) → Decides (eq x y) (parts_of x ≡ parts_of y)

module _ {R Offset Endian : Type 0} (seen : R → Seen) (number : Offset → ℕ) where
  -- the parts as they are seen: readers by bytes and order, offsets by number
  abbrev pub header_by : SeenHeader R Offset Endian
      → HeaderParts Seen ℕ (Value × Option Bool) (File × FileOrders)
  header_by h = record {
    parameters = h.parameters;
    offset = record { 0 = number h.offset.0 };
    unit_length = number h.unit_length;
    header_length = number h.header_length;
    operand_counts = seen h.standard_opcode_lengths;
    directory_formats = h.directory_entry_format.items;
    directories = map (value_by seen number) h.include_directories.items;
    file_formats = h.file_name_entry_format.items;
    files = map (file_by seen number) h.file_names.items;
    program = seen h.program_buf;
    comp_dir = option_map seen h.comp_dir;
    comp_file = option_map (file_by seen number) h.comp_file;
  }

  -- an equality of headers holds exactly where the two agree in all their parts as they are seen
  abbrev pub ComparesSeen : (SeenHeader R Offset Endian → SeenHeader R Offset Endian → Bool)
      → Type 0
  ComparesSeen = ComparesBy header_by

-- the entries of both tables together
abbrev pub entry_count : Header → ℕ
entry_count h = length h.directories + length h.files
