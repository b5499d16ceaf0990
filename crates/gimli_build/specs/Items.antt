-- The instructions of built items, and the rows that they are read as.
use Rattle.std.specs.Prelude.{◌+◌, ◌-◌, ◌*◌, ◌^◌, ◌<◌, ◌≤◌, ◌∷◌, ◌++◌}
use Rattle.gimli_build.specs
use specs.Prelude.{ℕ, Bool, List, [], Result, Ok, Encoding, LineEncoding, Hand, Error, ReadRow, Ins}
use Rattle.gimli_line.specs.declared.run.instruction.LineInstruction.TheVariants as read
use specs.declared.built.row.LineRow.{LineRow}
use specs.declared.built.items.BuiltItem.{BuiltItem}
use specs.declared.built.items.BuiltItem.TheVariants.{SetAddress, Row, End}
use specs.Built.{Built, address_value, position_after}
use specs.Rows.{initial_row}
use specs.Encode.{row_instructions, end_instructions}
use specs.InstructionBytes.{instructions_bytes, set_address_bytes, FitsInstructions}
use specs.ReadRows.{read_row, read_end}
use specs.Joined.{result_append}

-- the row that the next item follows: after a set address offsets count anew, after an end a
-- sequence starts
abbrev pub next_previous : ℕ → Bool → LineRow → BuiltItem → LineRow
next_previous version is_stmt previous (SetAddress a) = record previous {
  address_offset = 0;
  op_index = 0;
}
next_previous version is_stmt previous (Row r) = r
next_previous version is_stmt previous (End offset op_index) = initial_row version is_stmt

-- the instructions of an item, after this row
abbrev pub item_instructions : ℕ → LineEncoding → LineRow → BuiltItem → List Ins
item_instructions version e previous (SetAddress a) = read.SetAddress (address_value a) ∷ []
item_instructions version e previous (Row r) = row_instructions version e previous r
item_instructions version e previous (End offset op_index) =
    end_instructions e previous offset op_index

-- items one after the other, from the row before the first
abbrev pub items_instructions : ℕ → LineEncoding → LineRow → List BuiltItem → List Ins
items_instructions version e previous [] = []
items_instructions version e previous (item ∷ items) =
    item_instructions version e previous item
    ++ items_instructions version e (next_previous version e.default_is_stmt previous item) items

-- the rows that they are read as, where the address `base` was set before them
abbrev pub items_rows : ℕ → LineEncoding → ℕ → LineRow → List BuiltItem → List ReadRow
items_rows version e base previous [] = []
items_rows version e base previous (SetAddress a ∷ items) =
    items_rows version e (address_value a)
    (next_previous version e.default_is_stmt previous (SetAddress a)) items
items_rows version e base previous (Row r ∷ items) =
    read_row version base r ∷ items_rows version e base r items
items_rows version e base previous (End offset op_index ∷ items) =
    read_end version base previous offset op_index
    ∷ items_rows version e 0 (initial_row version e.default_is_stmt) items

-- addresses hold them, and none of them is a tombstone: each set address is at least the address
-- reached, and isn't one of the two greatest, which stand for nothing
abbrev pub AddressesFit : ℕ → ℕ → ℕ × ℕ → List BuiltItem → Type 0
AddressesFit size base position [] = Unit {0}
AddressesFit size base position (SetAddress a ∷ items) =
    (base + position.0 ≤ address_value a) × (address_value a < 2 ^ (8 * size) - 2)
    × AddressesFit size (address_value a) (position_after (SetAddress a)) items
AddressesFit size base position (Row r ∷ items) =
    (base + r.address_offset < 2 ^ (8 * size))
    × AddressesFit size base (position_after (Row r)) items
AddressesFit size base position (End offset op_index ∷ items) =
    (base + offset < 2 ^ (8 * size))
    × AddressesFit size 0 (position_after (End offset op_index)) items

-- ---- those of a program

-- its instructions
abbrev pub program_instructions : Built → List Ins
program_instructions p =
    items_instructions p.encoding.version p.line_encoding
    (initial_row p.encoding.version p.line_encoding.default_is_stmt) p.items

-- the rows that they are read as
abbrev pub program_rows : Built → List ReadRow
program_rows p =
    items_rows p.encoding.version p.line_encoding 0
    (initial_row p.encoding.version p.line_encoding.default_is_stmt) p.items

-- addresses hold its items, and none of them is a tombstone
abbrev pub HasFittingAddresses : Built → Type 0
HasFittingAddresses p = AddressesFit p.encoding.address_size 0 (0, 0) p.items

-- ---- their bytes

-- the bytes of an item, after this row, or the refusal of its address
abbrev pub item_bytes : Hand → Bool → Encoding → LineEncoding → LineRow → BuiltItem
    → Result (List ℕ) Error
item_bytes hand is_big encoding e previous (SetAddress a) =
    set_address_bytes hand is_big a encoding.address_size
item_bytes hand is_big encoding e previous (Row r) =
    Ok (instructions_bytes (row_instructions encoding.version e previous r))
item_bytes hand is_big encoding e previous (End offset op_index) =
    Ok (instructions_bytes (end_instructions e previous offset op_index))

-- items, from the row before the first, or the refusal of the first set address that has one
abbrev pub items_bytes : Hand → Bool → Encoding → LineEncoding → LineRow → List BuiltItem
    → Result (List ℕ) Error
items_bytes hand is_big encoding e previous [] = Ok []
items_bytes hand is_big encoding e previous (item ∷ items) =
    result_append (item_bytes hand is_big encoding e previous item)
    (items_bytes hand is_big encoding e
    (next_previous encoding.version e.default_is_stmt previous item) items)

-- 64 bits hold the numbers of the rows, as they do in any program
abbrev pub FitsItem : ℕ → BuiltItem → Type 0
FitsItem version (Row r) = FitsInstructions version r
FitsItem version item = Unit {0}

-- they hold those of each of these items
abbrev pub AreFit : ℕ → List BuiltItem → Type 0
AreFit version [] = Unit {0}
AreFit version (item ∷ items) = FitsItem version item × AreFit version items
