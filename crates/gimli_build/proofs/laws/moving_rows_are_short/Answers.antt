use Rattle.gimli_build.proofs
use proofs.sizes.RowSizes.{one_byte, two_bytes}
use proofs.laws.moving_rows_are_short.Goals as goal

pub returns : goal.returns
returns c = record {
  one = λ here r move has. one_byte _ _ here.previous r move.encode move.only has;
  two = λ here r move has. two_bytes _ _ here.previous r move.encode move.only _ has.is has.special;
}
