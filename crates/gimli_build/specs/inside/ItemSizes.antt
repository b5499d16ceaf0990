-- How many bytes items take, without writing them.
use Rattle.std.specs.Prelude.{◌+◌, ◌∷◌}
use Rattle.gimli_build.specs
use specs.Prelude.{ℕ, List, [], length, Encoding, LineEncoding}
use specs.declared.built.row.LineRow.{LineRow}
use specs.declared.built.items.BuiltItem.{BuiltItem}
use specs.declared.built.items.BuiltItem.TheVariants.{SetAddress, Row, End}
use specs.Encode.{row_instructions, end_instructions}
use specs.InstructionBytes.{instructions_bytes}
use specs.Items.{next_previous}

-- an item, from the row before it; the length of a set address is one byte
abbrev pub item_size : Encoding → LineEncoding → LineRow → BuiltItem → ℕ
item_size encoding e previous (SetAddress a) = 3 + encoding.address_size
item_size encoding e previous (Row r) =
    length (instructions_bytes (row_instructions encoding.version e previous r))
item_size encoding e previous (End offset op_index) =
    length (instructions_bytes (end_instructions e previous offset op_index))

-- items one after the other
abbrev pub items_size : Encoding → LineEncoding → LineRow → List BuiltItem → ℕ
items_size encoding e previous [] = 0
items_size encoding e previous (item ∷ items) =
    item_size encoding e previous item
    + items_size encoding e (next_previous encoding.version e.default_is_stmt previous item) items
