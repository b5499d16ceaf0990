-- Positions of rows, and how far one is past another (DWARF 5, sections 6.2.2 and 6.2.5.1). A
-- position is an offset in bytes, and which operation of the machine instruction there.
use Rattle.std.specs.Prelude.{◌≡◌, ◌+◌, ◌-◌, ◌*◌, ◌/◌, ◌%◌, ◌^◌, ◌<◌, ◌≤◌, ◌+ℤ◌, ◌≤ℤ◌, ◌<ℤ◌}
use Rattle.gimli_build.specs.Prelude.{ℕ, pos, LineEncoding}

-- rows can be written by this encoding: there is a special opcode that advances no line, a byte
-- holds it, and nothing that is divided by is 0
pub record CanEncode (e : LineEncoding) : Type 0 where
  pub instruction_length : 1 ≤ e.minimum_instruction_length
  pub operations : 1 ≤ e.maximum_operations_per_instruction
  pub base : e.line_base ≤ℤ pos 0
  pub above : pos 0 <ℤ (e.line_base +ℤ pos e.line_range)
  pub range : e.line_range ≤ 127

-- a row can stand here: at a whole machine instruction, and at one of its operations
pub record IsPosition (e : LineEncoding) (offset op_index : ℕ) : Type 0 where
  pub divides : offset % e.minimum_instruction_length ≡ 0
  pub within : op_index < e.maximum_operations_per_instruction

-- a row or an end at the offset o and the operation i can follow a row at p and j
pub record CanFollow (e : LineEncoding) (p j o i : ℕ) : Type 0 where
  pub position : IsPosition e o i
  pub after : p ≤ o
  pub later : o ≡ p → j ≤ i
  pub fits : (o - p) / e.minimum_instruction_length * e.maximum_operations_per_instruction + i
      < 2 ^ 64

-- how many operations it is after that row
abbrev pub operations : LineEncoding → ℕ → ℕ → ℕ → ℕ → ℕ
operations e p j o i =
    (o - p) / e.minimum_instruction_length * e.maximum_operations_per_instruction + i - j
