-- The instructions that a built row or end is written as, from the row before it (DWARF 5, section
-- 6.2.5).
use Rattle.std.specs.Prelude.{◌+◌, ◌-◌, ◌*◌, ◌/◌, ◌&&◌, if◌then◌else◌, ◌∷◌, ◌++◌, ◌+ℤ◌, ◌-ℤ◌}
use Rattle.gimli_build.specs
use specs.Prelude
use Prelude.{ℕ, Bool, true, false, not, nat_eq, nat_le, List, [], ℤ, pos, unsigned_abs, int_le}
use Prelude.{int_lt, LineEncoding, Ins}
use Rattle.gimli_line.specs.declared.run.instruction.LineInstruction.TheVariants.{
  Special,
  Copy,
  AdvancePc,
  AdvanceLine,
  SetFile,
  SetColumn,
  NegateStatement,
  SetBasicBlock,
  ConstAddPc,
  SetPrologueEnd,
  SetEpilogueBegin,
  SetIsa,
  EndSequence,
  SetDiscriminator,
}
use specs.declared.built.row.LineRow.{LineRow}
use specs.Joined.{when}
use specs.FileNumber.{file_number}
use specs.Advance.{operations}

-- the opcode base of each program that is built: the first special opcode, after the twelve
-- standard ones
abbrev pub built_opcode_base : ℕ
built_opcode_base = 13

-- ---- registers that are said outright

-- what stands for one row alone, where it is set
abbrev pub marks : LineRow → List Ins
marks row =
    when (not (nat_eq row.discriminator 0)) (SetDiscriminator row.discriminator)
    ++ when row.basic_block SetBasicBlock
    ++ when row.prologue_end SetPrologueEnd
    ++ when row.epilogue_begin SetEpilogueBegin

-- two flags aren't the same
abbrev pub differ : Bool → Bool → Bool
differ true b = not b
differ false b = b

-- what lasts from row to row, where it differs from the row before
abbrev pub changes : ℕ → LineRow → LineRow → List Ins
changes version previous row =
    when (differ row.is_statement previous.is_statement) NegateStatement
    ++ when (not (nat_eq row.file previous.file)) (SetFile (file_number version row.file))
    ++ when (not (nat_eq row.column previous.column)) (SetColumn row.column)
    ++ when (not (nat_eq row.isa previous.isa)) (SetIsa row.isa)

-- ---- the line

-- the special opcode that advances nothing
abbrev pub still_opcode : LineEncoding → ℕ
still_opcode e = built_opcode_base + unsigned_abs e.line_base

-- special opcodes have this line advance
abbrev pub is_special_advance : LineEncoding → ℤ → Bool
is_special_advance e d = int_le e.line_base d && int_lt d (e.line_base +ℤ pos e.line_range)

-- the special opcode that is due for a line advance: that advance, where special opcodes have it,
-- and no operation
abbrev pub line_opcode : LineEncoding → ℤ → ℕ
line_opcode e d =
    if is_special_advance e d then built_opcode_base + unsigned_abs (d -ℤ e.line_base)
    else still_opcode e

-- what comes before it
abbrev pub line_part : LineEncoding → ℤ → List Ins
line_part e d = if is_special_advance e d then [] else AdvanceLine d ∷ []

-- ---- the operations

-- the advance of const_add_pc, that of special opcode 255
abbrev pub constant_advance : LineEncoding → ℕ
constant_advance e = 242 / e.line_range

-- a row by this special opcode, or by copy where that advances nothing
abbrev pub row_maker : LineEncoding → ℕ → Ins
row_maker e s = if nat_eq s (still_opcode e) then Copy else Special s

-- n operations, and a row, where this special opcode is due for the line: by one special opcode, by
-- const_add_pc and another one, or by advance_pc
abbrev pub operation_part : LineEncoding → ℕ → ℕ → List Ins
operation_part e s n =
    if nat_le (s + n * e.line_range) 255 then row_maker e (s + n * e.line_range) ∷ []
    else (if nat_le (s + (n - constant_advance e) * e.line_range) 255
    then ConstAddPc ∷ row_maker e (s + (n - constant_advance e) * e.line_range) ∷ []
    else AdvancePc n ∷ row_maker e s ∷ [])

-- ---- rows and ends

-- a row of a program of this version
abbrev pub row_instructions : ℕ → LineEncoding → LineRow → LineRow → List Ins
row_instructions version e previous row =
    let d = pos row.line -ℤ pos previous.line in
    let n =
    operations e previous.address_offset previous.op_index row.address_offset row.op_index in
    marks row ++ changes version previous row ++ line_part e d
    ++ operation_part e (line_opcode e d) n

-- an end at an offset and an operation
abbrev pub end_instructions : LineEncoding → LineRow → ℕ → ℕ → List Ins
end_instructions e previous o i =
    let n = operations e previous.address_offset previous.op_index o i in
    when (not (nat_eq n 0)) (AdvancePc n) ++ EndSequence ∷ []
