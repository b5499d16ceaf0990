-- A built row or end as the reading half has it (DWARF 5, section 6.2.2).
use Rattle.std.specs.Prelude.{◌+◌}
use Rattle.gimli_build.specs
use specs.Prelude.{ℕ, true, false, Encoding, LineEncoding, ReadRow, Parameters}
use specs.declared.built.row.LineRow.{LineRow}
use specs.FileNumber.{file_number}
use specs.Encode.{built_opcode_base}

-- what the instructions of a built program are executed by
abbrev pub built_rules : Encoding → LineEncoding → Parameters
built_rules encoding e = record {
  encoding = encoding;
  line_encoding = e;
  opcode_base = built_opcode_base;
}

-- a row, where the address `base` was set before it
abbrev pub read_row : ℕ → ℕ → LineRow → ReadRow
read_row version base row = record {
  tombstone = false;
  address = base + row.address_offset;
  op_index = row.op_index;
  file = file_number version row.file;
  line = row.line;
  column = row.column;
  is_stmt = row.is_statement;
  basic_block = row.basic_block;
  end_sequence = false;
  prologue_end = row.prologue_end;
  epilogue_begin = row.epilogue_begin;
  isa = row.isa;
  discriminator = row.discriminator;
}

-- the registers after it
abbrev pub registers_after_row : ℕ → ℕ → LineRow → ReadRow
registers_after_row version base row = record (read_row version base row) {
  basic_block = false;
  prologue_end = false;
  epilogue_begin = false;
  discriminator = 0;
}

-- an end at an offset and an operation, after a row
abbrev pub read_end : ℕ → ℕ → LineRow → ℕ → ℕ → ReadRow
read_end version base previous offset op_index =
    record (registers_after_row version base previous) {
      address = base + offset;
      op_index = op_index;
      end_sequence = true;
    }
