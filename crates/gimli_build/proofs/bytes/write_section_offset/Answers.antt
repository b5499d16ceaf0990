use Rattle.gimli_build.proofs
use proofs.writing.Writes.{writes}
use proofs.bytes.write_section_offset.Goals as goal

pub returns : goal.returns
returns g c = rw c.word_size.ensures at (writes _ c.write_offset.ensures)
