-- A run of the instructions of a built program: where it stands between two items, what can come
-- next, and what it gives.
use Rattle.std.specs.Prelude.{◌≡◌, ◌^◌, ◌<◌, ◌≤◌, ◌∷◌, ◌++◌}
use Rattle.gimli_build.specs
use specs.Prelude
use Prelude.{ℕ, Bool, false, List, [], map, None, All, Encoding, LineEncoding, ReadRow, Parameters}
use Prelude.{Header, Ins, defines_file, Decodes, Event, row}
use Rattle.gimli_line.specs.header.Orders.{HeaderSource}
use Rattle.gimli_line.specs.run.Machine.{run, initial}
use Rattle.gimli_line.specs.run.Passing.{RunState}
use Rattle.gimli_line.specs.run.Rows.{start_of_run}
use Rattle.gimli_line.specs.run.Unread.{whole_program}
use specs.declared.built.row.LineRow.{LineRow}
use specs.declared.built.items.BuiltItem.{BuiltItem}
use specs.declared.built.items.BuiltItem.TheVariants.{SetAddress, Row, End}
use specs.Advance.{IsPosition, CanFollow}
use specs.Rows.{initial_row}
use specs.Encode.{row_instructions, end_instructions}
use specs.ReadRows.{built_rules, registers_after_row}
use specs.Items.{next_previous, items_instructions, items_rows, AddressesFit}
use specs.Items.{program_instructions, HasFittingAddresses}
use specs.Built.{Built, address_value}
use specs.Conditions.{Accepts, AreBuilt}

-- where a run stands
pub record Run : Type 0 where
  pub encoding : Encoding
  pub line_encoding : LineEncoding
  -- the address that was set, from which offsets count
  pub base : ℕ
  -- the row before
  pub previous : LineRow

-- ---- from item to item

-- at the start of a program
abbrev pub run_start : Encoding → LineEncoding → Run
run_start encoding e = record {
  encoding = encoding;
  line_encoding = e;
  base = 0;
  previous = initial_row encoding.version e.default_is_stmt;
}

-- the address that offsets count from after an item
abbrev pub next_base : ℕ → BuiltItem → ℕ
next_base base (SetAddress a) = address_value a
next_base base (Row r) = base
next_base base (End offset op_index) = 0

-- after items
abbrev pub after_items : List BuiltItem → Run → Run
after_items [] here = here
after_items (item ∷ items) here =
    after_items items
    (record here {
      base = next_base here.base item;
      previous =
          next_previous here.encoding.version here.line_encoding.default_is_stmt here.previous item;
    })

-- ---- what can come next

-- the position of the row before
abbrev pub position_of : Run → ℕ × ℕ
position_of here = (here.previous.address_offset, here.previous.op_index)

-- a row or an end at the offset o and the operation i can follow the row before
abbrev pub Follows : Run → ℕ → ℕ → Type 0
Follows here o i =
    CanFollow here.line_encoding here.previous.address_offset here.previous.op_index o i

-- items can be next: a program may have these encodings, the version is known, a row can stand
-- where the row before does, whose line fits a signed number; and each item can be built after the
-- one before it, addresses hold them, and none is a tombstone
pub record AreNext (here : Run) (items : List BuiltItem) : Type 0 where
  pub accepts : Accepts here.encoding here.line_encoding
  pub version : here.encoding.version ≤ 5
  pub position : IsPosition here.line_encoding here.previous.address_offset here.previous.op_index
  pub line_before : here.previous.line < 2 ^ 63
  pub built : AreBuilt here.line_encoding (position_of here) items
  pub addresses : AddressesFit here.encoding.address_size here.base (position_of here) items

-- ---- as it is written there, and as it is read

-- the instructions of a row
abbrev pub written_row : Run → LineRow → List Ins
written_row here r = row_instructions here.encoding.version here.line_encoding here.previous r

-- those of an end at the offset o and the operation i
abbrev pub written_end : Run → ℕ → ℕ → List Ins
written_end here o i = end_instructions here.line_encoding here.previous o i

-- those of items
abbrev pub written_items : Run → List BuiltItem → List Ins
written_items here items =
    items_instructions here.encoding.version here.line_encoding here.previous items

-- the rows that items are read as
abbrev pub given_items : Run → List BuiltItem → List ReadRow
given_items here items =
    items_rows here.encoding.version here.line_encoding here.base here.previous items

-- ---- the machine there

-- what instructions are executed by
abbrev pub rules : Run → Parameters
rules here = built_rules here.encoding here.line_encoding

-- the registers
abbrev pub registers : Run → ReadRow
registers here = registers_after_row here.encoding.version here.base here.previous

-- these instructions, run from there, give these rows and leave the registers of this place,
-- whatever instructions follow
abbrev pub Gives : Run → List Ins → List ReadRow → Run → Type 0
Gives here instructions rows left =
    (list : List Ins)
    → run (rules here) (registers here) (instructions ++ list)
    ≡ map row rows ++ run (rules here) (registers left) list

-- ---- no file is defined

-- what is left of the program is whole instructions, and none of them defines a file
pub record DefinesNoFile (a : RunState) : Type 0 where
  pub list : List Ins
  pub decoding : Decodes a.unread.layout a.fixed a.unread.bytes list None
  pub none : All (λ i. defines_file i ≡ false) list

-- rows at the start of the program of a header
abbrev pub program_started : Bool → Header → HeaderSource → RunState
program_started appends h source = start_of_run appends h source (whole_program h source.layout)

-- ---- whole programs

-- what its instructions give, run from the registers of a start
abbrev pub run_of_program : Built → List Event
run_of_program p =
    (let rules = built_rules p.encoding p.line_encoding in run rules (initial rules)
    (program_instructions p))

-- a program can be run: it may have these encodings, the version is known, each item can be built
-- after the one before it, addresses hold them, and none is a tombstone
pub record CanRun (p : Built) : Type 0 where
  pub accepts : Accepts p.encoding p.line_encoding
  pub version : p.encoding.version ≤ 5
  pub built : AreBuilt p.line_encoding (0, 0) p.items
  pub addresses : HasFittingAddresses p
