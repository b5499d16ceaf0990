use Rattle.gimli_line.proofs.RowBounds.{events_bounded, with_files_bounded, left_bounded}
use Rattle.gimli_line.proofs.laws.rows_are_bounded.Goals as goal

pub returns : goal.returns
returns c = record {
  events = λ layout h bytes events given. events_bounded layout h bytes events given;
  files = λ layout appends h bytes events given. with_files_bounded layout h appends bytes events given;
  left = left_bounded;
}
