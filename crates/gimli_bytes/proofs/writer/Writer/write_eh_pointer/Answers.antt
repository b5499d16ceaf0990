use Rattle.std.specs.Prelude.{◌≢◌}
use Rattle.gimli_bytes.proofs
use proofs.Common.{arith}
use proofs.WrittenAs.{refused_at_once, absolute_pointer, relative_pointer, other_pointer}
use proofs.writer.Writer.write_eh_pointer.Goals as goal

pub returns-in-DW_EH_PE_absptr : goal.returns-in-DW_EH_PE_absptr
returns-in-DW_EH_PE_absptr g c = grind (arith, absolute_pointer)

pub returns-in-DW_EH_PE_pcrel : goal.returns-in-DW_EH_PE_pcrel
returns-in-DW_EH_PE_pcrel g c = grind (arith, relative_pointer)

pub returns-in_default : goal.returns-in_default
returns-in_default g c =
    let not_absolute : c.application.result.0 ≢ 0 = omega arith in
    let not_relative : c.application.result.0 ≢ 0x10 = omega arith in
    refused_at_once _ (other_pointer _ _ _ _
    _ _ c.in-Constant.is
    (rw (← c.application.ensures) not_absolute) (rw (← c.application.ensures) not_relative))
