-- The orders of bytes of the readers that a header takes from its section.
use Rattle.std.specs.Prelude.{◌≡◌}
use Rattle.gimli_line.specs
use specs.Prelude.{ℕ, Bool, List, map, Option, option_map, All, OrderAndLimit, Seen, value_order}
use specs.Prelude.{IsOrder}
use specs.header.File.{FileOrders, file_orders, AreFileOrders}
use specs.header.Header.{SeenHeader}

-- those of the directory and of the name that a caller handed in, where there are any: such readers
-- keep their own order
abbrev pub HandedOrders : Type 0
HandedOrders = Option Bool × Option FileOrders

-- those of the operand counts, of each directory and of each file, where it has a text or a block;
-- and those that were handed in
pub record HeaderOrders : Type 0 where
  pub operand_counts : Bool
  pub directories : List (Option Bool)
  pub files : List FileOrders
  pub handed : HandedOrders

module _ {R Offset Endian : Type 0} (seen : R → Seen) where
  abbrev pub header_orders : SeenHeader R Offset Endian → HeaderOrders
  header_orders h = record {
    operand_counts = (seen h.standard_opcode_lengths).is_big;
    directories = map (value_order seen) h.include_directories.items;
    files = map (file_orders seen) h.file_names.items;
    handed =
        (option_map (λ r. (seen r).is_big) h.comp_dir, option_map (file_orders seen) h.comp_file);
  }

-- all that were taken from the section have this order
pub record AreOneOrder (order : Bool) (o : HeaderOrders) : Type 0 where
  pub operand_counts : o.operand_counts ≡ order
  pub directories : All (IsOrder order) o.directories
  pub files : All (AreFileOrders order) o.files

-- ---- the source of a header

-- the layout of its program, where it stands in its section, and the orders of its readers
pub record HeaderSource : Type 0 where
  pub layout : OrderAndLimit
  pub offset : ℕ
  pub orders : HeaderOrders

module _ {R Offset Endian : Type 0} (seen : R → Seen) where
  abbrev pub source_of : (Offset → ℕ) → SeenHeader R Offset Endian → HeaderSource
  source_of number h = record {
    layout = h.layout;
    offset = number h.offset.0;
    orders = header_orders seen h;
  }

  -- the readers that were taken from the section, in the operand counts and both tables, have the
  -- order of the program
  abbrev pub HasOneOrder : SeenHeader R Offset Endian → Type 0
  HasOneOrder h = AreOneOrder h.layout.is_big (header_orders seen h)

-- it is still the same source: readers that were handed in keep their order, and those that were
-- taken from the section have one order as before, if what is added fits it
pub record KeepsSource (Fits : Bool → Type 0) (old new : HeaderSource) : Type 0 where
  pub layout : new.layout ≡ old.layout
  pub offset : new.offset ≡ old.offset
  pub handed : new.orders.handed ≡ old.orders.handed
  pub order : (order : Bool) → Fits order → AreOneOrder order old.orders
      → AreOneOrder order new.orders
