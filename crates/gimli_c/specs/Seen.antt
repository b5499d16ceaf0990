-- What C sees of a row.
use Rattle.std.specs.Prelude.{ℕ, ◌+◌, Bool, if◌then◌else◌}
use Rattle.gimli_line.specs.declared.run.row.LineRow.{LineRow}
use Rattle.gimli_c.specs.declared.row.GimliRow.{GimliRow}

-- a flag, where it holds
abbrev pub flag : Bool → ℕ → ℕ
flag holds bit = if holds then bit else 0

-- the flags of a row, each a bit of its own
abbrev pub flags_of : LineRow → ℕ
flags_of r =
    flag r.is_stmt 1 + flag r.basic_block 2 + flag r.end_sequence 4 + flag r.prologue_end 8
    + flag r.epilogue_begin 16

-- a row, as C sees it
abbrev pub row_seen : LineRow → GimliRow
row_seen r = record {
  address = r.address;
  op_index = r.op_index;
  file = r.file;
  line = r.line;
  column = r.column;
  isa = r.isa;
  discriminator = r.discriminator;
  flags = flags_of r;
}
