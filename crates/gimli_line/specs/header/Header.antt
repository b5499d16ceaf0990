-- A header: what it says, and how contracts see it.
use Rattle.std.specs.Prelude.{◌∷◌, ◌++◌, if◌then◌else◌}
use Rattle.gimli_line.specs
use specs.Prelude
use Prelude.{ℕ, zero, suc, Bool, List, [], Option, None, option_map, replicate, nat_le, nat_eq}
use Prelude.{slice_get, list_any, Vec, Global, Value, AttributeValue, String, DebugLineOffset}
use Prelude.{OrderAndLimit, Seen}
use specs.header.Parameters.{Parameters}
use specs.header.File.{File}
use specs.declared.header.file_entry.FileEntry.{FileEntry}
use specs.declared.header.file_entry.FileEntryFormat.{FileEntryFormat}

-- what a header says, with lists of bytes in place of readers
pub record Header : Type 0 where
  pub parameters : Parameters
  pub unit_length : ℕ
  pub header_length : ℕ
  -- how many LEB128 operands each standard opcode has, from opcode 1 on
  pub operand_counts : List ℕ
  pub directory_formats : List FileEntryFormat
  pub directories : List Value
  pub file_formats : List FileEntryFormat
  pub files : List File
  pub program : List ℕ
  -- the directory and the file at index 0 up to version 4
  pub comp_dir : Option (List ℕ)
  pub comp_file : Option File

-- what the caller of a parse hands in
pub record UnitEntry : Type 0 where
  pub address_size : ℕ
  pub directory : Option (List ℕ)
  pub name : Option (List ℕ)

-- what a caller hands in, its readers seen by bytes
abbrev pub unit_entry : {R : Type 0} → (R → Seen) → ℕ → Option R → Option R → UnitEntry
unit_entry seen address_size directory name = record {
  address_size = address_size;
  directory = option_map (λ r. (seen r).bytes) directory;
  name = option_map (λ r. (seen r).bytes) name;
}

-- a file of which the tables up to version 4 say nothing more
abbrev pub plain_file : List ℕ → ℕ → ℕ → ℕ → File
plain_file path directory time size = record {
  path_name = String path;
  directory_index = directory;
  timestamp = time;
  size = size;
  md5 = replicate 16 0;
  source = None;
}

-- ---- look-ups by index (DWARF 5, section 6.2.4, and DWARF 4, section 6.2.4)

-- the entry of an index in a table that begins at 1, after one that may stand at 0
abbrev pub from_one : {A : Type 0} → Option A → List A → ℕ → Option A
from_one first entries zero = first
from_one first entries (suc i) = slice_get entries i

-- the entry of an index in a table of this version: up to version 4 the table begins at 1, and what
-- was handed in stands at 0; in version 5 it begins at 0
abbrev pub entry_of : {A : Type 0} → ℕ → Option A → List A → ℕ → Option A
entry_of version handed entries i =
    if nat_le version 4 then from_one handed entries i else slice_get entries i

-- the directory of an index
abbrev pub directory_of : Header → ℕ → Option Value
directory_of h i =
    entry_of h.parameters.encoding.version (option_map String h.comp_dir) h.directories i

-- the file of an index
abbrev pub file_of : Header → ℕ → Option File
file_of h i = entry_of h.parameters.encoding.version h.comp_file h.files i

-- a format of this content type is there
abbrev pub has_content : ℕ → List FileEntryFormat → Bool
has_content content formats = list_any (λ f. nat_eq f.content_type.0 content) formats

-- ---- files that a program defines

-- a header with one more file, after the others
abbrev pub with_file : File → Header → Header
with_file f h = record h { files = h.files ++ f ∷ [] }

-- a header apart from its files, which alone change in a run
abbrev pub without_files : Header → Header
without_files h = record h { files = [] }

-- a file after the others; a list that is complete has it already
abbrev pub files_with : Bool → File → List File → List File
files_with appends f files = if appends then files ++ f ∷ [] else files

-- a header after a file is defined: the file stands after the others, or is there already
abbrev pub with_defined_file : Bool → File → Header → Header
with_defined_file appends f h = record h { files = files_with appends f h.files }

-- ---- how contracts see a header

-- what it says, the layout of its program, and its parts as they are
pub record SeenHeader (R Offset Endian : Type 0) : Type 0 where
  pub meaning : Header
  pub layout : OrderAndLimit
  pub parameters : Parameters
  pub offset : DebugLineOffset Offset
  pub unit_length : Offset
  pub header_length : Offset
  pub standard_opcode_lengths : R
  pub directory_entry_format : Vec FileEntryFormat Global
  pub include_directories : Vec (AttributeValue R Offset Endian) Global
  pub file_name_entry_format : Vec FileEntryFormat Global
  pub file_names : Vec (FileEntry R Offset Endian) Global
  pub program_buf : R
  pub comp_dir : Option R
  pub comp_file : Option (FileEntry R Offset Endian)

module _ {R Offset Endian : Type 0} where
  -- the directory of an index, with its readers as they are
  abbrev pub own_directory_of : SeenHeader R Offset Endian → ℕ
      → Option (AttributeValue R Offset Endian)
  own_directory_of h i =
      entry_of h.meaning.parameters.encoding.version (option_map String h.comp_dir)
      h.include_directories.items i

  -- the file of an index, likewise
  abbrev pub own_file_of : SeenHeader R Offset Endian → ℕ → Option (FileEntry R Offset Endian)
  own_file_of h i = entry_of h.meaning.parameters.encoding.version h.comp_file h.file_names.items i
