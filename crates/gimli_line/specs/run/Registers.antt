-- What the registers are at a point of a program, each looked up by itself from the point backwards
-- (DWARF 5, sections 6.2.2 and 6.2.5). The past of a point is the list of the instructions before
-- it, the nearest first.
use Rattle.std.specs.Prelude.{◌+◌, ◌-◌, ◌%◌, ◌^◌, if◌then◌else◌, ◌∷◌, ◌+ℤ◌}
use Rattle.gimli_line.specs
use specs.Prelude.{ℕ, suc, Bool, true, false, not, List, [], Option, Some, None, ℤ, pos, negsuc}
use specs.declared.run.instruction.LineInstruction.TheVariants.{
  Special,
  AdvanceLine,
  SetFile,
  SetColumn,
  NegateStatement,
  SetBasicBlock,
  SetPrologueEnd,
  SetEpilogueBegin,
  SetIsa,
  SetDiscriminator,
}
use specs.header.Parameters.{Parameters}
use specs.run.Instruction.{Ins, is_end}

-- the sequence of a point: the instructions after the last end
abbrev pub sequence : List Ins → List Ins
sequence [] = []
sequence (i ∷ past) = if is_end i then [] else i ∷ sequence past

-- ---- ways to look back

-- the operand of the nearest instruction that has one of this kind
abbrev pub nearest : (Ins → Option ℕ) → ℕ → List Ins → ℕ
nearest operand default [] = default
nearest operand default (i ∷ past) =
    elim (operand i) [ Some n ↦ n | None ↦ nearest operand default past ]

-- whether their number is odd
abbrev pub is_odd : (Ins → Bool) → List Ins → Bool
is_odd test [] = false
is_odd test (i ∷ past) = if test i then not (is_odd test past) else is_odd test past

-- the file that an instruction sets
abbrev pub file_operand : Ins → Option ℕ
file_operand (SetFile n) = Some n
file_operand i = None

-- the column that it sets
abbrev pub column_operand : Ins → Option ℕ
column_operand (SetColumn n) = Some n
column_operand i = None

-- the instruction set that it sets
abbrev pub isa_operand : Ins → Option ℕ
isa_operand (SetIsa n) = Some n
isa_operand i = None

-- the discriminator that it sets
abbrev pub discriminator_operand : Ins → Option ℕ
discriminator_operand (SetDiscriminator n) = Some n
discriminator_operand i = None

-- it negates is_stmt
abbrev pub negates_statement : Ins → Bool
negates_statement NegateStatement = true
negates_statement i = false

-- it sets basic_block
abbrev pub sets_basic_block : Ins → Bool
sets_basic_block SetBasicBlock = true
sets_basic_block i = false

-- it sets prologue_end
abbrev pub sets_prologue_end : Ins → Bool
sets_prologue_end SetPrologueEnd = true
sets_prologue_end i = false

-- it sets epilogue_begin
abbrev pub sets_epilogue_begin : Ins → Bool
sets_epilogue_begin SetEpilogueBegin = true
sets_epilogue_begin i = false

-- ---- registers that keep what was set in the sequence

-- the file
abbrev pub file_at : List Ins → ℕ
file_at past = nearest file_operand 1 (sequence past)

-- the column
abbrev pub column_at : List Ins → ℕ
column_at past = nearest column_operand 0 (sequence past)

-- the instruction set
abbrev pub isa_at : List Ins → ℕ
isa_at past = nearest isa_operand 0 (sequence past)

-- is_stmt: the default, turned where it was negated an odd number of times
abbrev pub is_stmt_at : Parameters → List Ins → Bool
is_stmt_at parameters past =
    if is_odd negates_statement (sequence past) then not parameters.line_encoding.default_is_stmt
    else parameters.line_encoding.default_is_stmt

-- ---- the line

-- how far an instruction moves the line
abbrev pub line_advance : Parameters → Ins → Option ℤ
line_advance parameters (AdvanceLine v) = Some v
line_advance parameters (Special o) =
    Some (parameters.line_encoding.line_base
    +ℤ pos ((o - parameters.opcode_base) % parameters.line_encoding.line_range))
line_advance parameters i = None

-- the line v further on, modulo 2 ^ 64; one that would go below 0 stops there. The standard says
-- nothing of such a line. That it stops is our rule, and gimli's, since line 0 stands for no line
abbrev pub advanced_line : ℤ → ℕ → ℕ
advanced_line (pos v) line = (line + v) % 2 ^ 64
advanced_line (negsuc v) line = line - suc v

-- 1, and the advances of these instructions, the nearest last
abbrev pub line_after : Parameters → List Ins → ℕ
line_after parameters [] = 1
line_after parameters (i ∷ past) =
    elim (line_advance parameters i)
    [ Some v ↦ advanced_line v (line_after parameters past) | None ↦ line_after parameters past ]

-- the line at a point with this instruction, whose own advance counts
abbrev pub line_at : Parameters → List Ins → Ins → ℕ
line_at parameters past i = line_after parameters (i ∷ sequence past)
