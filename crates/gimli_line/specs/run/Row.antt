-- A row: its column, and how a list of rows keeps it.
use Rattle.gimli_line.specs.Prelude.{ℕ}
use Rattle.std.specs.Int.NonZero.{non_zero_u64_get}
use Rattle.gimli_line.specs.declared.run.row.ColumnType.{ColumnType}
use Rattle.gimli_line.specs.declared.run.row.ColumnType.TheVariants.{LeftEdge, Column}
use Rattle.gimli_line.specs.declared.run.row.LineRow.{LineRow}
use Rattle.gimli_line.specs.declared.run.row_list.NarrowRow.{NarrowRow}
use Rattle.gimli_line.specs.declared.run.row_list.StoredRow.{StoredRow}
use Rattle.gimli_line.specs.declared.run.row_list.StoredRow.TheVariants.{Narrow, Wide}

-- the left edge stands for 0, a column for its number
abbrev pub column_number : ColumnType → ℕ
column_number LeftEdge = 0
column_number (Column column) = non_zero_u64_get column

-- the row that has these numbers
abbrev pub row_of_narrow : NarrowRow → LineRow
row_of_narrow narrow = record {
  tombstone = narrow.tombstone;
  address = narrow.address;
  op_index = narrow.op_index;
  file = narrow.file;
  line = narrow.line;
  column = narrow.column;
  is_stmt = narrow.is_stmt;
  basic_block = narrow.basic_block;
  end_sequence = narrow.end_sequence;
  prologue_end = narrow.prologue_end;
  epilogue_begin = narrow.epilogue_begin;
  isa = narrow.isa;
  discriminator = narrow.discriminator;
}

-- the row that is kept
abbrev pub row_of_stored : StoredRow → LineRow
row_of_stored (Narrow narrow) = row_of_narrow narrow
row_of_stored (Wide row) = row.value
