-- Rows as they are built.
use Rattle.std.specs.Prelude.{if◌then◌else◌}
use Rattle.gimli_build.specs
use specs.Prelude.{ℕ, Bool, false}
use specs.FileNumber.{initial_file}
use specs.declared.built.row.LineRow.{LineRow}

-- the row that each sequence starts with (DWARF 5, section 6.2.2)
abbrev pub initial_row : ℕ → Bool → LineRow
initial_row version is_stmt = record {
  address_offset = 0;
  op_index = 0;
  file = initial_file version;
  line = 1;
  column = 0;
  discriminator = 0;
  is_statement = is_stmt;
  basic_block = false;
  prologue_end = false;
  epilogue_begin = false;
  isa = 0;
}

-- the row once it was built: what stands for one row alone goes
abbrev pub without_marks : LineRow → LineRow
without_marks r = record r {
  discriminator = 0;
  basic_block = false;
  prologue_end = false;
  epilogue_begin = false;
}

-- the row at another offset and op_index
abbrev pub at_position : ℕ × ℕ → LineRow → LineRow
at_position position r = record r { address_offset = position.0; op_index = position.1 }

-- the row where an address was set: in a sequence its position is now told from there
abbrev pub row_after_address : Bool → LineRow → LineRow
row_after_address in_sequence r =
    if in_sequence then record r { address_offset = 0; op_index = 0 } else r
