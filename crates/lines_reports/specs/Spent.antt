-- What bytes of a section are spent on: which of it an instruction is (DWARF 5, sections 6.2.5.1 to
-- 6.2.5.3).
use Rattle.std.specs.Prelude.{ℕ}
use Rattle.gimli_line.specs.declared.run.instruction.LineInstruction.TheVariants as ins
use Rattle.gimli_line.specs.run.Instruction.{Ins}
use Rattle.lines_reports.specs.declared.spent.Spent.{Spent}
use Rattle.lines_reports.specs.declared.spent.Spent.TheVariants as spent

-- the opcode of an instruction
abbrev pub spent_on : Ins → Spent
spent_on (ins.Special o) = spent.Special
spent_on ins.Copy = spent.Copy
spent_on (ins.AdvancePc n) = spent.AdvancePc
spent_on (ins.AdvanceLine z) = spent.AdvanceLine
spent_on (ins.SetFile n) = spent.SetFile
spent_on (ins.SetColumn n) = spent.SetColumn
spent_on ins.NegateStatement = spent.NegateStatement
spent_on ins.SetBasicBlock = spent.SetBasicBlock
spent_on ins.ConstAddPc = spent.ConstAddPc
spent_on (ins.FixedAddPc n) = spent.FixedAddPc
spent_on ins.SetPrologueEnd = spent.SetPrologueEnd
spent_on ins.SetEpilogueBegin = spent.SetEpilogueBegin
spent_on (ins.SetIsa n) = spent.SetIsa
spent_on (ins.UnknownStandard0 o) = spent.UnknownStandard
spent_on (ins.UnknownStandard1 o n) = spent.UnknownStandard
spent_on (ins.UnknownStandardN o operands) = spent.UnknownStandard
spent_on ins.EndSequence = spent.EndSequence
spent_on (ins.SetAddress a) = spent.SetAddress
spent_on (ins.DefineFile f) = spent.DefineFile
spent_on (ins.SetDiscriminator n) = spent.SetDiscriminator
spent_on (ins.UnknownExtended o operands) = spent.UnknownExtended

-- the place of each among all
abbrev pub number : Spent → ℕ
number spent.Header = 0
number spent.Tables = 1
number spent.Special = 2
number spent.Copy = 3
number spent.AdvancePc = 4
number spent.AdvanceLine = 5
number spent.SetFile = 6
number spent.SetColumn = 7
number spent.NegateStatement = 8
number spent.SetBasicBlock = 9
number spent.ConstAddPc = 10
number spent.FixedAddPc = 11
number spent.SetPrologueEnd = 12
number spent.SetEpilogueBegin = 13
number spent.SetIsa = 14
number spent.UnknownStandard = 15
number spent.EndSequence = 16
number spent.SetAddress = 17
number spent.DefineFile = 18
number spent.SetDiscriminator = 19
number spent.UnknownExtended = 20
number spent.Unread = 21
