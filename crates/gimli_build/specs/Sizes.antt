-- What a row needs few bytes for (DWARF 5, section 6.2.5.1).
use Rattle.std.specs.Prelude.{◌≡◌, ◌-◌, ◌≤◌, ◌-ℤ◌}
use Rattle.gimli_build.specs
use specs.Prelude.{ℕ, false, Some, ℤ, pos, length, Parameters}
use Rattle.gimli_line.specs.declared.run.instruction.LineInstruction.TheVariants.{
  Special,
  ConstAddPc,
}
use Rattle.gimli_line.specs.run.Registers.{line_advance}
use Rattle.gimli_line.specs.run.OperationPointer.{operation_advance}
use specs.declared.built.row.LineRow.{LineRow}
use specs.Advance.{CanEncode, operations}
use specs.InstructionBytes.{instructions_bytes}
use specs.Runs.{Run, rules, written_row}

-- a special opcode advances the line so, and so many operations
pub record HasSpecial (parameters : Parameters) (d : ℤ) (n : ℕ) : Type 0 where
  pub opcode : ℕ
  pub least : parameters.opcode_base ≤ opcode
  pub greatest : opcode ≤ 255
  pub line : line_advance parameters (Special opcode) ≡ Some d
  pub operations : operation_advance parameters (Special opcode) ≡ Some n

-- a row differs from the row before it in its position and its line alone, and nothing stands for
-- it alone
pub record OnlyMoves (previous built : LineRow) : Type 0 where
  pub file : built.file ≡ previous.file
  pub column : built.column ≡ previous.column
  pub is_statement : built.is_statement ≡ previous.is_statement
  pub isa : built.isa ≡ previous.isa
  pub discriminator : built.discriminator ≡ 0
  pub basic_block : built.basic_block ≡ false
  pub prologue_end : built.prologue_end ≡ false
  pub epilogue_begin : built.epilogue_begin ≡ false

-- ---- in a run

-- rows can be encoded, and this one only moves
pub record IsMove (here : Run) (r : LineRow) : Type 0 where
  pub encode : CanEncode here.line_encoding
  pub only : OnlyMoves here.previous r

-- how many lines, and how many operations, a row is after the row before
abbrev pub lines_to : Run → LineRow → ℤ
lines_to here r = pos r.line -ℤ pos here.previous.line

-- those operations
abbrev pub operations_to : Run → LineRow → ℕ
operations_to here r =
    operations here.line_encoding here.previous.address_offset here.previous.op_index
    r.address_offset r.op_index

-- a special opcode has both advances of the row
abbrev pub SpecialSuffices : Run → LineRow → Type 0
SpecialSuffices here r = HasSpecial (rules here) (lines_to here r) (operations_to here r)

-- a special opcode has both with the advance of const_add_pc taken off
pub record SpecialAndConstantSuffice (here : Run) (r : LineRow) : Type 0 where
  pub constant : ℕ
  pub is : operation_advance (rules here) ConstAddPc ≡ Some constant
  pub special : HasSpecial (rules here) (lines_to here r) (operations_to here r - constant)

-- how many bytes the row is written as
abbrev pub row_size : Run → LineRow → ℕ
row_size here r = length (instructions_bytes (written_row here r))
