use Rattle.gimli_build.proofs
use proofs.writing.Writes.{joins, writes}
use proofs.bytes.write_text.Goals as goal

pub returns : goal.returns
returns g c = joins (writes _ c.in_ok-write.ensures) c.write_byte.ensures
