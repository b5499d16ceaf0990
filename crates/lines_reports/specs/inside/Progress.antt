-- How far the instructions of a program are counted.
use Rattle.std.specs.Prelude.{ℕ, List, ◌++◌}
use Rattle.gimli_core.specs.Layout.{OrderAndLimit}
use Rattle.gimli_line.specs.header.Header.{Header}
use Rattle.lines_reports.specs.Pieces.{ArePieces, Piece}
use Rattle.lines_reports.specs.Tally.{Counts}
use Rattle.lines_reports.specs.declared.tally.Tally.{Tally}

-- the pieces before a rest of a program were counted
pub record AreCounted (layout : OrderAndLimit) (h : Header) (program : List ℕ) (old : Tally)
    (rest : List ℕ) (new : Tally) : Type 0 where
  pub pieces : List Piece
  pub counts : Counts old pieces new
  pub before : (others : List Piece) → ArePieces layout h rest others
      → ArePieces layout h program (pieces ++ others)
