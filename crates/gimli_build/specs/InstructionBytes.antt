-- The bytes of instructions as they are written (DWARF 5, sections 6.2.5.2 and 6.2.5.3).
use Rattle.std.specs.Prelude.{◌+◌, ◌^◌, ◌<◌, ◌≤◌, ◌∷◌, ◌++◌}
use Rattle.gimli_build.specs
use specs.Prelude
use Prelude.{ℕ, Bool, List, [], length, flat_map, Result, FitsSigned, uleb, sleb, Hand, Address}
use Prelude.{Error, Ins}
use Rattle.std.specs.Int.{w64}
use Rattle.gimli_core.specs.Reading.{result_map}
use Rattle.gimli_line.specs.declared.run.instruction.LineInstruction.TheVariants.{
  Special,
  Copy,
  AdvancePc,
  AdvanceLine,
  SetFile,
  SetColumn,
  NegateStatement,
  SetBasicBlock,
  ConstAddPc,
  SetPrologueEnd,
  SetEpilogueBegin,
  SetIsa,
  EndSequence,
  SetDiscriminator,
}
use specs.declared.built.row.LineRow.{LineRow}
use Rattle.gimli_line.specs.LineNumbers.{
  DW_LNE_end_sequence,
  DW_LNE_set_address,
  DW_LNE_set_discriminator,
  DW_LNS_advance_line,
  DW_LNS_advance_pc,
  DW_LNS_const_add_pc,
  DW_LNS_copy,
  DW_LNS_negate_stmt,
  DW_LNS_set_basic_block,
  DW_LNS_set_column,
  DW_LNS_set_epilogue_begin,
  DW_LNS_set_file,
  DW_LNS_set_isa,
  DW_LNS_set_prologue_end,
}
use specs.FileNumber.{file_number}
use specs.Encode.{built_opcode_base}

-- an instruction of a row or an end; no other is written but set addresses
abbrev pub instruction_bytes : Ins → List ℕ
instruction_bytes (Special o) = o ∷ []
instruction_bytes Copy = DW_LNS_copy ∷ []
instruction_bytes (AdvancePc n) = DW_LNS_advance_pc ∷ uleb n
instruction_bytes (AdvanceLine z) = DW_LNS_advance_line ∷ sleb z
instruction_bytes (SetFile n) = DW_LNS_set_file ∷ uleb n
instruction_bytes (SetColumn n) = DW_LNS_set_column ∷ uleb n
instruction_bytes NegateStatement = DW_LNS_negate_stmt ∷ []
instruction_bytes SetBasicBlock = DW_LNS_set_basic_block ∷ []
instruction_bytes ConstAddPc = DW_LNS_const_add_pc ∷ []
instruction_bytes SetPrologueEnd = DW_LNS_set_prologue_end ∷ []
instruction_bytes SetEpilogueBegin = DW_LNS_set_epilogue_begin ∷ []
instruction_bytes (SetIsa n) = DW_LNS_set_isa ∷ uleb n
instruction_bytes EndSequence = 0 ∷ 1 ∷ DW_LNE_end_sequence ∷ []
instruction_bytes (SetDiscriminator n) =
    0 ∷ uleb (length (uleb n) + 1) ++ DW_LNE_set_discriminator ∷ uleb n
instruction_bytes i = []

-- instructions one after the other
abbrev pub instructions_bytes : List Ins → List ℕ
instructions_bytes list = flat_map instruction_bytes list

-- a set address, by a hand
abbrev pub set_address_bytes : Hand → Bool → Address → ℕ → Result (List ℕ) Error
set_address_bytes hand is_big address size =
    result_map (λ operand. 0 ∷ uleb (size + 1) ++ DW_LNE_set_address ∷ operand)
    (hand.address is_big address size)

-- an instruction that rows and ends are written with, whose operand 64 bits hold
abbrev pub IsWritten : Ins → Type 0
IsWritten (Special o) = (built_opcode_base ≤ o) × (o ≤ 255)
IsWritten Copy = Unit {0}
IsWritten (AdvancePc n) = n < 2 ^ 64
IsWritten (AdvanceLine z) = FitsSigned w64 z
IsWritten (SetFile n) = n < 2 ^ 64
IsWritten (SetColumn n) = n < 2 ^ 64
IsWritten NegateStatement = Unit {0}
IsWritten SetBasicBlock = Unit {0}
IsWritten ConstAddPc = Unit {0}
IsWritten SetPrologueEnd = Unit {0}
IsWritten SetEpilogueBegin = Unit {0}
IsWritten (SetIsa n) = n < 2 ^ 64
IsWritten EndSequence = Unit {0}
IsWritten (SetDiscriminator n) = n < 2 ^ 64
IsWritten i = ⊥

-- 64 bits hold the numbers of a row, as they do in any program
pub record FitsInstructions (version : ℕ) (row : LineRow) : Type 0 where
  pub file : file_number version row.file < 2 ^ 64
  pub line : row.line < 2 ^ 63
  pub column : row.column < 2 ^ 64
  pub discriminator : row.discriminator < 2 ^ 64
  pub isa : row.isa < 2 ^ 64
