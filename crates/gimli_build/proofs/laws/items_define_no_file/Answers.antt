use Rattle.gimli_build.proofs
use proofs.reading.NoFiles.{items-none}
use proofs.laws.items_define_no_file.Goals as goal

pub returns : goal.returns
returns c = λ here items. items-none here.encoding.version here.line_encoding here.previous items
