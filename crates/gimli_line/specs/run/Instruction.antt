-- Instructions, with lists of bytes in place of readers and numbers in place of offsets.
use Rattle.std.specs.Prelude.{◌≡◌}
use Rattle.gimli_line.specs
use specs.Prelude.{ℕ, List, Bool, true, false, Some, None, Seen}
use specs.header.File.{File, file_seen, FileHasOrder, FileOrders, file_orders}
use specs.header.Header.{Header, files_with}
use specs.declared.run.instruction.LineInstruction.{LineInstruction}
use specs.declared.run.instruction.LineInstruction.TheVariants.{
  Special,
  Copy,
  AdvancePc,
  AdvanceLine,
  SetFile,
  SetColumn,
  NegateStatement,
  SetBasicBlock,
  ConstAddPc,
  FixedAddPc,
  SetPrologueEnd,
  SetEpilogueBegin,
  SetIsa,
  UnknownStandard0,
  UnknownStandard1,
  UnknownStandardN,
  EndSequence,
  SetAddress,
  DefineFile,
  SetDiscriminator,
  UnknownExtended,
}

-- an instruction, as it stands in a program
abbrev pub Ins : Type 0
Ins = LineInstruction (List ℕ) ℕ (Unit {0})

-- ---- instructions of readers

module _ {R Offset Endian : Type 0} (seen : R → Seen) (number : Offset → ℕ) where
  -- an instruction, its readers seen by bytes and its offsets by number
  abbrev pub ins_seen : LineInstruction R Offset Endian → Ins
  ins_seen (Special o) = Special o
  ins_seen Copy = Copy
  ins_seen (AdvancePc n) = AdvancePc n
  ins_seen (AdvanceLine z) = AdvanceLine z
  ins_seen (SetFile n) = SetFile n
  ins_seen (SetColumn n) = SetColumn n
  ins_seen NegateStatement = NegateStatement
  ins_seen SetBasicBlock = SetBasicBlock
  ins_seen ConstAddPc = ConstAddPc
  ins_seen (FixedAddPc n) = FixedAddPc n
  ins_seen SetPrologueEnd = SetPrologueEnd
  ins_seen SetEpilogueBegin = SetEpilogueBegin
  ins_seen (SetIsa n) = SetIsa n
  ins_seen (UnknownStandard0 o) = UnknownStandard0 o
  ins_seen (UnknownStandard1 o n) = UnknownStandard1 o n
  ins_seen (UnknownStandardN o r) = UnknownStandardN o (seen r).bytes
  ins_seen EndSequence = EndSequence
  ins_seen (SetAddress a) = SetAddress a
  ins_seen (DefineFile f) = DefineFile (file_seen seen number f)
  ins_seen (SetDiscriminator n) = SetDiscriminator n
  ins_seen (UnknownExtended o r) = UnknownExtended o (seen r).bytes

module _ {R Offset Endian : Type 0} (seen : R → Seen) (order : Bool) where
  -- the readers of an instruction, in its operands or its file, have this order of bytes
  abbrev pub InsHasOrder : LineInstruction R Offset Endian → Type 0
  InsHasOrder (UnknownStandardN o r) = (seen r).is_big ≡ order
  InsHasOrder (UnknownExtended o r) = (seen r).is_big ≡ order
  InsHasOrder (DefineFile f) = FileHasOrder seen order f
  InsHasOrder i = Unit {0}

module _ {R Offset Endian : Type 0} (seen : R → Seen) where
  -- the orders of bytes of an instruction's readers: of its operands or its file's path, and of
  -- its file's source
  abbrev pub ins_orders : LineInstruction R Offset Endian → FileOrders
  ins_orders (UnknownStandardN o r) = (Some (seen r).is_big, None)
  ins_orders (UnknownExtended o r) = (Some (seen r).is_big, None)
  ins_orders (DefineFile f) = file_orders seen f
  ins_orders i = (None, None)

module _ {R Offset Endian : Type 0} (seen : R → Seen) (number : Offset → ℕ) where
  -- an instruction, its readers seen by bytes and order, and its offsets by number
  abbrev pub ins_by : LineInstruction R Offset Endian → Ins × FileOrders
  ins_by i = (ins_seen seen number i, ins_orders seen i)

-- ---- kinds of instructions

-- the end of a sequence
abbrev pub is_end : Ins → Bool
is_end EndSequence = true
is_end i = false

-- a point with such an instruction makes a row
abbrev pub makes_row : Ins → Bool
makes_row (Special o) = true
makes_row Copy = true
makes_row EndSequence = true
makes_row i = false

-- a file is added to the header's files
abbrev pub defines_file : Ins → Bool
defines_file (DefineFile f) = true
defines_file i = false

-- the files after an instruction
abbrev pub files_after : Bool → Ins → List File → List File
files_after appends (DefineFile f) files = files_with appends f files
files_after appends i files = files

-- the header after an instruction, which may have one more file
abbrev pub header_after : Bool → Ins → Header → Header
header_after appends i h = record h { files = files_after appends i h.files }
