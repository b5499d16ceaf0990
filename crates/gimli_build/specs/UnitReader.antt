-- How the instructions of a built program are spelled in a unit.
use Rattle.std.specs.Prelude.{◌≡◌, ◌<◌, ◌^◌}
use Rattle.gimli_build.specs
use specs.Prelude
use Prelude.{ℕ, List, Result, OrderAndLimit, plain, Constant, Error, Header, Ins, SpellsInstruction}
use Rattle.gimli_core.specs.Production.{Each}
use specs.declared.built.row.LineRow.{LineRow}
use specs.declared.built.items.BuiltItem.{BuiltItem}
use specs.Advance.{CanEncode}
use specs.Encode.{built_opcode_base}
use specs.Conditions.{AreBuilt}
use specs.InstructionBytes.{set_address_bytes, FitsInstructions}
use specs.Items.{items_bytes, AreFit}
use specs.Runs.{Run, Follows, position_of}

-- a reader at a unit: the header has the opcode base of what is built, and the reader's offsets
-- hold the length of the longest instruction
pub record UnitReader : Type 0 where
  pub layout : OrderAndLimit
  pub header : Header
  pub opcode_base : header.parameters.opcode_base ≡ built_opcode_base
  pub longest : 11 < layout.limit

-- the bytes are a spelling of the instruction there
abbrev pub Spells : UnitReader → List ℕ → Ins → Type 0
Spells u bytes i = SpellsInstruction u.layout u.header bytes i

-- the bytes are the spellings of these instructions there, one after the other
abbrev pub AreSpelled : UnitReader → List Ins → List ℕ → Type 0
AreSpelled u instructions bytes = Each (Spells u) bytes instructions

-- ---- what is written there

-- the bytes of a set address, or their refusal
abbrev pub bytes_of_address : UnitReader → ℕ → Result (List ℕ) Error
bytes_of_address u address =
    set_address_bytes plain u.layout.is_big (Constant address)
    u.header.parameters.encoding.address_size

-- the bytes of items, or the first refusal
abbrev pub bytes_of_items : UnitReader → Run → List BuiltItem → Result (List ℕ) Error
bytes_of_items u here items =
    items_bytes plain u.layout.is_big here.encoding here.line_encoding here.previous items

-- ---- what can be written

-- a row can be written next: rows can be encoded, it can follow, and 64 bits hold its numbers and
-- the line before
pub record IsWritableRow (here : Run) (r : LineRow) : Type 0 where
  pub encode : CanEncode here.line_encoding
  pub follows : Follows here r.address_offset r.op_index
  pub line_before : here.previous.line < 2 ^ 63
  pub fits : FitsInstructions here.encoding.version r

-- items can be written next, in a unit of the run's encoding: rows can be encoded, each item can be
-- built after the one before it, and 64 bits hold their numbers and the line before
pub record AreWritable (u : UnitReader) (here : Run) (items : List BuiltItem) : Type 0 where
  pub encoding : u.header.parameters.encoding ≡ here.encoding
  pub encode : CanEncode here.line_encoding
  pub built : AreBuilt here.line_encoding (position_of here) items
  pub line_before : here.previous.line < 2 ^ 63
  pub fit : AreFit here.encoding.version items
