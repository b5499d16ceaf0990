-- A file, with lists of bytes in place of readers and numbers in place of offsets.
use Rattle.gimli_line.specs
use specs.Prelude.{ℕ, Bool, List, Option, option_map, IfSome, value_seen, IsOrder, Seen}
use specs.Prelude.{value_order}
use specs.declared.header.file_entry.FileEntry.{FileEntry}

-- a file of a table, as it stands in a section
abbrev pub File : Type 0
File = FileEntry (List ℕ) ℕ (Unit {0})

module _ {R Offset Endian : Type 0} (seen : R → Seen) (number : Offset → ℕ) where
  -- a file of readers, its readers seen by bytes and its offsets by number
  abbrev pub file_seen : FileEntry R Offset Endian → File
  file_seen f = record {
    path_name = value_seen seen number f.path_name;
    directory_index = f.directory_index;
    timestamp = f.timestamp;
    size = f.size;
    md5 = f.md5;
    source = option_map (value_seen seen number) f.source;
  }

-- the orders of bytes of a file's readers: of its path, and of its source
abbrev pub FileOrders : Type 0
FileOrders = Option Bool × Option (Option Bool)

module _ {R Offset Endian : Type 0} (seen : R → Seen) where
  abbrev pub file_orders : FileEntry R Offset Endian → FileOrders
  file_orders f = (value_order seen f.path_name, option_map (value_order seen) f.source)

-- the readers of a file, in its path and its source, have this order
abbrev pub AreFileOrders : Bool → FileOrders → Type 0
AreFileOrders order o = IsOrder order o.0 × IfSome o.1 (IsOrder order)

module _ {R Offset Endian : Type 0} (seen : R → Seen) (order : Bool) where
  abbrev pub FileHasOrder : FileEntry R Offset Endian → Type 0
  FileHasOrder f = AreFileOrders order (file_orders seen f)

module _ {R Offset Endian : Type 0} (seen : R → Seen) (number : Offset → ℕ) where
  -- a file, its readers seen by bytes and order, and its offsets by number
  abbrev pub file_by : FileEntry R Offset Endian → File × FileOrders
  file_by f = (file_seen seen number f, file_orders seen f)
