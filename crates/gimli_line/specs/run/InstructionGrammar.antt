-- How instructions are spelled, and how a program is decoded into them (DWARF 5, sections 6.2.3 and
-- 6.2.5).
use Rattle.std.specs.Prelude.{◌≡◌, ◌≢◌, ◌<◌, ◌^◌, ◌-◌, ◌∷◌, ◌++◌, if◌then◌else◌}
use Rattle.std.specs.Map.{lookup}
use Rattle.gimli_line.specs.Prelude.{ℕ, zero, suc, List, [], length, nat_eq, nat_le, Option, Some}
use Rattle.gimli_line.specs.Prelude.{None, Ok, Err, ℤ, slice_index, Error, UnexpectedEof}
use Rattle.gimli_line.specs.Prelude.{BadUnsignedLeb128, BadSignedLeb128, UnsupportedOffset}
use Rattle.gimli_line.specs.Prelude.{OrderAndLimit, Read}
use Rattle.gimli_core.specs.Production.{Production, ◌>>=◌, done, choose, times, within, byte}
use Rattle.gimli_core.specs.Production.{number, some_bytes, text, unsigned, signed, below_limit}
use Rattle.gimli_core.specs.Production.{Each}
use Rattle.gimli_line.specs.declared.run.instruction.LineInstruction.TheVariants.{Special, Copy}
use Rattle.gimli_line.specs.declared.run.instruction.LineInstruction.TheVariants.{AdvancePc}
use Rattle.gimli_line.specs.declared.run.instruction.LineInstruction.TheVariants.{AdvanceLine}
use Rattle.gimli_line.specs.declared.run.instruction.LineInstruction.TheVariants.{SetFile}
use Rattle.gimli_line.specs.declared.run.instruction.LineInstruction.TheVariants.{SetColumn}
use Rattle.gimli_line.specs.declared.run.instruction.LineInstruction.TheVariants.{NegateStatement}
use Rattle.gimli_line.specs.declared.run.instruction.LineInstruction.TheVariants.{SetBasicBlock}
use Rattle.gimli_line.specs.declared.run.instruction.LineInstruction.TheVariants.{ConstAddPc}
use Rattle.gimli_line.specs.declared.run.instruction.LineInstruction.TheVariants.{FixedAddPc}
use Rattle.gimli_line.specs.declared.run.instruction.LineInstruction.TheVariants.{SetPrologueEnd}
use Rattle.gimli_line.specs.declared.run.instruction.LineInstruction.TheVariants.{SetEpilogueBegin}
use Rattle.gimli_line.specs.declared.run.instruction.LineInstruction.TheVariants.{SetIsa}
use Rattle.gimli_line.specs.declared.run.instruction.LineInstruction.TheVariants.{UnknownStandard0}
use Rattle.gimli_line.specs.declared.run.instruction.LineInstruction.TheVariants.{UnknownStandard1}
use Rattle.gimli_line.specs.declared.run.instruction.LineInstruction.TheVariants.{UnknownStandardN}
use Rattle.gimli_line.specs.declared.run.instruction.LineInstruction.TheVariants.{EndSequence}
use Rattle.gimli_line.specs.declared.run.instruction.LineInstruction.TheVariants.{SetAddress}
use Rattle.gimli_line.specs.declared.run.instruction.LineInstruction.TheVariants.{DefineFile}
use Rattle.gimli_line.specs.declared.run.instruction.LineInstruction.TheVariants.{SetDiscriminator}
use Rattle.gimli_line.specs.declared.run.instruction.LineInstruction.TheVariants.{UnknownExtended}
use Rattle.gimli_line.specs.LineNumbers.{DW_LNS_copy, DW_LNS_advance_pc, DW_LNS_advance_line}
use Rattle.gimli_line.specs.LineNumbers.{DW_LNS_set_file, DW_LNS_set_column, DW_LNS_negate_stmt}
use Rattle.gimli_line.specs.LineNumbers.{DW_LNS_set_basic_block, DW_LNS_const_add_pc}
use Rattle.gimli_line.specs.LineNumbers.{DW_LNS_fixed_advance_pc, DW_LNS_set_prologue_end}
use Rattle.gimli_line.specs.LineNumbers.{DW_LNS_set_epilogue_begin, DW_LNS_set_isa}
use Rattle.gimli_line.specs.LineNumbers.{DW_LNE_end_sequence, DW_LNE_set_address}
use Rattle.gimli_line.specs.LineNumbers.{DW_LNE_define_file, DW_LNE_set_discriminator}
use Rattle.gimli_line.specs.run.Instruction.{Ins}
use Rattle.gimli_line.specs.header.File.{File}
use Rattle.gimli_line.specs.header.Header.{Header}
use Rattle.gimli_line.specs.header.HeaderGrammar.{file_production}
use Rattle.gimli_line.specs.header.Productions.{bytes_of}
use Rattle.gimli_line.specs.run.Unread.{Unread}

-- ---- opcodes and their operands

-- what stands after an opcode, and which instruction it is
pub data Operand : Type 0 where
  -- nothing
  none : Ins → Operand
  -- an unsigned LEB128 number, and a signed one
  uleb : (ℕ → Ins) → Operand
  sleb : (ℤ → Ins) → Operand
  -- a number of two bytes
  uhalf : (ℕ → Ins) → Operand
  -- an address of the header's size
  address : (ℕ → Ins) → Operand
  -- a text, which may be empty, and three numbers
  file : (File → Ins) → Operand

-- the standard opcodes (DWARF 5, section 6.2.5.2)
abbrev pub standard_opcodes : List (ℕ × Operand)
standard_opcodes =
    (DW_LNS_copy, none Copy) ∷ (DW_LNS_advance_pc, uleb AdvancePc)
    ∷ (DW_LNS_advance_line, sleb AdvanceLine) ∷ (DW_LNS_set_file, uleb SetFile)
    ∷ (DW_LNS_set_column, uleb SetColumn) ∷ (DW_LNS_negate_stmt, none NegateStatement)
    ∷ (DW_LNS_set_basic_block, none SetBasicBlock) ∷ (DW_LNS_const_add_pc, none ConstAddPc)
    ∷ (DW_LNS_fixed_advance_pc, uhalf FixedAddPc) ∷ (DW_LNS_set_prologue_end, none SetPrologueEnd)
    ∷ (DW_LNS_set_epilogue_begin, none SetEpilogueBegin) ∷ (DW_LNS_set_isa, uleb SetIsa) ∷ []

-- the extended opcodes (DWARF 5, section 6.2.5.3; DWARF 4, section 6.2.5.3); files are defined up
-- to version 4
abbrev pub extended_opcodes : ℕ → List (ℕ × Operand)
extended_opcodes version =
    (DW_LNE_end_sequence, none EndSequence) ∷ (DW_LNE_set_address, address SetAddress)
    ∷ (DW_LNE_set_discriminator, uleb SetDiscriminator)
    ∷ (if nat_le version 4 then (DW_LNE_define_file, file DefineFile) ∷ [] else [])

module _ (layout : OrderAndLimit) (h : Header) where
  -- what comes after the number of an opcode, and the instruction that it makes
  abbrev pub operand_production : Operand → Production Ins
  operand_production (none i) = done i
  operand_production (uleb make) = do
    n ← unsigned
    done (make n)
  operand_production (sleb make) = do
    z ← signed
    done (make z)
  operand_production (uhalf make) = do
    n ← number layout.is_big 2
    done (make n)
  operand_production (address make) = do
    a ← number layout.is_big h.parameters.encoding.address_size
    done (make a)
  operand_production (file make) = do
    path ← text
    f ← file_production path
    done (make f)

  -- after a standard opcode without a meaning here: as many LEB128 numbers as the header counts
  unfoldable pub unknown_production : ℕ → ℕ → Production Ins
  unknown_production opcode zero = done (UnknownStandard0 (record { 0 = opcode }))
  unknown_production opcode (suc zero) = do
    n ← unsigned
    done (UnknownStandard1 (record { 0 = opcode }) n)
  unknown_production opcode (suc (suc more)) = do
    operands ← bytes_of (times (suc (suc more)) unsigned)
    done (UnknownStandardN (record { 0 = opcode }) operands)

  -- after an opcode below the opcode base
  unfoldable pub standard_production : ℕ → Production Ins
  standard_production opcode = elim (lookup (nat_eq opcode) standard_opcodes) [
    | Some operand ↦ operand_production operand
    | None ↦ unknown_production opcode (slice_index h.operand_counts (opcode - 1))
  ]

  -- an extended opcode, and the bytes after it within its instruction; surplus ones are skipped
  unfoldable pub extended_operands : ℕ → List ℕ → Production Ins
  extended_operands opcode operands =
      elim (lookup (nat_eq opcode) (extended_opcodes h.parameters.encoding.version)) [
        | Some operand ↦ within operands (operand_production operand) >>= λ read. done read.0
        | None ↦ done (UnknownExtended (record { 0 = opcode }) operands)
      ]

  -- after a zero byte: a length, and that many bytes, of which the first is the opcode
  unfoldable pub extended_production : Production Ins
  extended_production = do
    size ← below_limit layout unsigned
    inside ← some_bytes size
    opened ← within inside byte
    extended_operands opened.0 opened.1

  -- an instruction: a zero byte opens an extended one, a byte from the opcode base on is a special
  -- opcode, and any other a standard opcode
  abbrev pub instruction_production : Production Ins
  instruction_production = do
    opcode ← byte
    choose (nat_eq opcode 0) extended_production
        (choose (nat_le h.parameters.opcode_base opcode) (done (Special opcode))
        (standard_production opcode))

  -- the bytes are a spelling of the instruction
  abbrev pub SpellsInstruction : List ℕ → Ins → Type 0
  SpellsInstruction = instruction_production.Spells

  -- ---- a program

  -- what is left after the last instruction: nothing, or bytes that begin with none, and this is
  -- the refusal
  abbrev pub IsEnd : List ℕ → Option Error → Type 0
  IsEnd rest None = rest ≡ []
  IsEnd rest (Some e) = (rest ≢ []) × instruction_production.Fault rest e

  -- the bytes are the spellings of these instructions one after the other, and then comes the end
  pub record Decodes (bytes : List ℕ) (list : List Ins) (end : Option Error) : Type 0 where
    pub front : List ℕ
    pub rest : List ℕ
    pub parts : bytes ≡ front ++ rest
    pub spelled : Each SpellsInstruction front list
    pub ended : IsEnd rest end

  -- an instruction that was read, and after it what is decoded of the rest
  abbrev pub decoded_after : (List ℕ → List Ins × Option Error) → Read Ins → List Ins × Option Error
  decoded_after decoding (Ok i, rest) = (i ∷ (decoding rest).0, (decoding rest).1)
  decoded_after decoding (Err e, rest) = ([], Some e)

  -- at most so many instructions, and the end
  unfoldable pub decoded_upto : ℕ → List ℕ → List Ins × Option Error
  decoded_upto zero bytes = ([], None)
  decoded_upto (suc more) [] = ([], None)
  decoded_upto (suc more) (b ∷ bytes) =
      decoded_after (decoded_upto more) (instruction_production.read (b ∷ bytes))

  -- the instructions of a program and its end; they aren't more than its bytes
  abbrev pub decoded_at : List ℕ → List Ins × Option Error
  decoded_at bytes = decoded_upto (length bytes) bytes

  -- the bytes are decoded in one way at most
  abbrev pub AreDecodedOnce : List ℕ → Type 0
  AreDecodedOnce bytes =
      (list other : List Ins) (end finish : Option Error) → Decodes bytes list end
      → Decodes bytes other finish → (list ≡ other) × (end ≡ finish)

-- ---- refusals

-- the refusals that an instruction may have: bytes are missing, a LEB128 number is none of 64 bits,
-- or a length is too large for the reader's offsets, where these have less than 64 bits
abbrev pub IsInstructionRefusal : OrderAndLimit → Error → Type 0
IsInstructionRefusal layout (UnexpectedEof point) = Unit {0}
IsInstructionRefusal layout BadUnsignedLeb128 = Unit {0}
IsInstructionRefusal layout BadSignedLeb128 = Unit {0}
IsInstructionRefusal layout UnsupportedOffset = layout.limit < 2 ^ 64
IsInstructionRefusal layout e = ⊥

-- a spelling of the instruction is taken from the front; or there is none, since no bytes are left
abbrev pub TakesNext : Header → Unread → Unread → Option Ins → Type 0
TakesNext h old new None = (old.bytes ≡ []) × (new.bytes ≡ [])
TakesNext h old new (Some i) =
    (front : List ℕ) × (old.bytes ≡ front ++ new.bytes) × SpellsInstruction old.layout h front i

-- bytes are left that begin with no instruction, and this is the refusal; after it none are left
abbrev pub EndsByFault : Header → Unread → Unread → Error → Type 0
EndsByFault h old new e =
    (old.bytes ≢ []) × (new.bytes ≡ []) × (instruction_production old.layout h).Fault old.bytes e
