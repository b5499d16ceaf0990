use Rattle.gimli_build.proofs
use proofs.sizes.RowSizes.{row_short}
use proofs.laws.rows_are_short.Goals as goal

pub returns : goal.returns
returns c = λ here r. row_short _ here.line_encoding here.previous r
