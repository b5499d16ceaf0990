use Rattle.gimli_build.proofs
use proofs.Common.{uleb_one}
use proofs.writing.Writes.{writes}
use proofs.rows.instruction.write_unsigned.Goals as goal

pub returns-then-operand-lt128 : goal.returns-then-operand-lt128
returns-then-operand-lt128 g c =
    let put = c.write.ensures in
    rw (uleb_one _ c.if-operand-lt128.true) (writes _ put)
