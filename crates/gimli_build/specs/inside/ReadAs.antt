-- The instructions of the encoder, as the reading half has them.
use Rattle.gimli_line.specs.declared.run.instruction.LineInstruction.TheVariants as read
use Rattle.gimli_build.specs
use specs.Prelude.{Ins}
use specs.declared.rows.instruction.LineInstruction.{LineInstruction}
use specs.declared.rows.instruction.LineInstruction.TheVariants.{
  Special,
  Copy,
  AdvancePc,
  AdvanceLine,
  SetFile,
  SetColumn,
  NegateStatement,
  SetBasicBlock,
  ConstAddPc,
  SetPrologueEnd,
  SetEpilogueBegin,
  SetIsa,
  EndSequence,
  SetDiscriminator,
}

-- the same instruction there
abbrev pub read_as : LineInstruction → Ins
read_as (Special o) = read.Special o
read_as Copy = read.Copy
read_as (AdvancePc n) = read.AdvancePc n
read_as (AdvanceLine z) = read.AdvanceLine z
read_as (SetFile n) = read.SetFile n
read_as (SetColumn n) = read.SetColumn n
read_as NegateStatement = read.NegateStatement
read_as SetBasicBlock = read.SetBasicBlock
read_as ConstAddPc = read.ConstAddPc
read_as SetPrologueEnd = read.SetPrologueEnd
read_as SetEpilogueBegin = read.SetEpilogueBegin
read_as (SetIsa n) = read.SetIsa n
read_as EndSequence = read.EndSequence
read_as (SetDiscriminator n) = read.SetDiscriminator n
