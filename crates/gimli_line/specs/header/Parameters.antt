-- What the instructions of a unit are executed by.
use Rattle.std.specs.Prelude.{◌<◌}
use Rattle.gimli_line.specs.Prelude.{ℕ, Encoding, LineEncoding}

-- what the instructions of a unit are executed by
pub record Parameters : Type 0 where
  pub encoding : Encoding
  pub line_encoding : LineEncoding
  -- the number of the first special opcode
  pub opcode_base : ℕ

-- no number that operations or lines are divided by or counted in is 0
pub record IsLineEncoding (e : LineEncoding) : Type 0 where
  pub instruction_length : 0 < e.minimum_instruction_length
  pub operations : 0 < e.maximum_operations_per_instruction
  pub range : 0 < e.line_range
