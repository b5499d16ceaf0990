use Rattle.gimli_build.proofs
use proofs.writing.Writes.{writes}
use proofs.rows.instruction.write_instruction.Goals as goal

pub returns-in-Special : goal.returns-in-Special
returns-in-Special g c = rw c.in-Special.is c.write_byte.ensures

pub returns-in-Copy : goal.returns-in-Copy
returns-in-Copy g c = rw c.in-Copy.is c.write_byte-in-Copy.ensures

pub returns-in-AdvancePc : goal.returns-in-AdvancePc
returns-in-AdvancePc g c = rw c.in-AdvancePc.is c.write_unsigned.ensures

pub returns-in-SetFile : goal.returns-in-SetFile
returns-in-SetFile g c = rw c.in-SetFile.is c.write_unsigned-in-SetFile.ensures

pub returns-in-SetColumn : goal.returns-in-SetColumn
returns-in-SetColumn g c = rw c.in-SetColumn.is c.write_unsigned-in-SetColumn.ensures

pub returns-in-NegateStatement : goal.returns-in-NegateStatement
returns-in-NegateStatement g c = rw c.in-NegateStatement.is c.write_byte-in-NegateStatement.ensures

pub returns-in-SetBasicBlock : goal.returns-in-SetBasicBlock
returns-in-SetBasicBlock g c = rw c.in-SetBasicBlock.is c.write_byte-in-SetBasicBlock.ensures

pub returns-in-ConstAddPc : goal.returns-in-ConstAddPc
returns-in-ConstAddPc g c = rw c.in-ConstAddPc.is c.write_byte-in-ConstAddPc.ensures

pub returns-in-SetPrologueEnd : goal.returns-in-SetPrologueEnd
returns-in-SetPrologueEnd g c = rw c.in-SetPrologueEnd.is c.write_byte-in-SetPrologueEnd.ensures

pub returns-in-SetEpilogueBegin : goal.returns-in-SetEpilogueBegin
returns-in-SetEpilogueBegin g c = rw c.in-SetEpilogueBegin.is c.write_byte-in-SetEpilogueBegin.ensures

pub returns-in-SetIsa : goal.returns-in-SetIsa
returns-in-SetIsa g c = rw c.in-SetIsa.is c.write_unsigned-in-SetIsa.ensures

pub returns-in-EndSequence : goal.returns-in-EndSequence
returns-in-EndSequence g c =
    let put = c.write.ensures in
    rw c.in-EndSequence.is (writes _ put)

pub returns-in-SetDiscriminator : goal.returns-in-SetDiscriminator
returns-in-SetDiscriminator g c = rw c.in-SetDiscriminator.is c.write_discriminator.ensures
