-- A line program as it was built.
use Rattle.std.specs.Prelude.{◌-◌, ◌∷◌}
use Rattle.gimli_build.specs
use specs.Prelude
use Prelude.{ℕ, Bool, false, true, List, [], length, slice_get, negsuc, option_map_or, Encoding}
use Prelude.{Dwarf32, LineEncoding, Address, Constant, Symbol}
use specs.LineText.{LineText}
use specs.Tables.{File}
use specs.Rows.{initial_row}
use specs.declared.built.row.LineRow.{LineRow}
use specs.declared.built.items.BuiltItem.{BuiltItem}
use specs.declared.built.items.BuiltItem.TheVariants.{SetAddress, Row, End}

-- a line program, as lists and flags
pub record Built : Type 0 where
  -- it was made to be no program
  pub is_none : Bool
  pub encoding : Encoding
  pub line_encoding : LineEncoding
  pub directories : List LineText
  pub files : List File
  pub file_has_timestamp : Bool
  pub file_has_size : Bool
  pub file_has_md5 : Bool
  pub file_has_source : Bool
  -- set addresses, rows and ends, in order
  pub items : List BuiltItem
  -- the row that is built next
  pub row : LineRow
  pub in_sequence : Bool

-- a program of these encodings with these tables, and nothing else yet
abbrev pub empty_built : Bool → Encoding → LineEncoding → List LineText → List File → Built
empty_built is_none encoding line_encoding directories files = record {
  is_none = is_none;
  encoding = encoding;
  line_encoding = line_encoding;
  directories = directories;
  files = files;
  file_has_timestamp = false;
  file_has_size = false;
  file_has_md5 = false;
  file_has_source = false;
  items = [];
  row = initial_row encoding.version line_encoding.default_is_stmt;
  in_sequence = false;
}

-- what stands for no program
abbrev pub no_program : Built
no_program =
    empty_built true (record { address_size = 0; format = Dwarf32; version = 2 })
    (record {
      minimum_instruction_length = 1;
      maximum_operations_per_instruction = 1;
      default_is_stmt = true;
      line_base = negsuc 4;
      line_range = 14;
    })
    [] []

-- ---- positions and addresses

-- the offset and the operation that an item leaves off at: the sequence begins, or counts anew,
-- after an end and a set address
abbrev pub position_after : BuiltItem → ℕ × ℕ
position_after (Row r) = (r.address_offset, r.op_index)
position_after (SetAddress a) = (0, 0)
position_after (End offset op_index) = (0, 0)

-- the position of the previous row, which the next one is after
abbrev pub previous_position : List BuiltItem → ℕ × ℕ
previous_position items = option_map_or position_after (slice_get items (length items - 1)) (0, 0)

-- a symbol counts as 0
abbrev pub address_value : Address → ℕ
address_value (Constant a) = a
address_value (Symbol symbol addend) = 0

-- the address that offsets count from after these items, the nearest first: the last that was set
-- in the sequence, else 0
abbrev pub base_of : List BuiltItem → ℕ
base_of [] = 0
base_of (SetAddress a ∷ past) = address_value a
base_of (End offset op_index ∷ past) = 0
base_of (Row r ∷ past) = base_of past
