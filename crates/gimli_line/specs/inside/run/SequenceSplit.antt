-- Splitting a program into sequences, row by row.
use Rattle.std.specs.Prelude.{if◌then◌else◌, ◌∷◌, ◌++◌}
use Rattle.gimli_line.specs
use specs.Prelude.{ℕ, List, [], Option, Some, None}
use Rattle.std.specs.Option.{unwrap_or}
use specs.declared.run.row.LineRow.{LineRow}
use specs.run.Unread.{Unread}
use specs.inside.run.Rows.{front_of}
use specs.run.Sequences.{Sequence}

-- the sequences so far; and of the one that is open, the instructions from its start on and the
-- address of its first row
pub record SequenceSplit : Type 0 where
  pub parts : List Sequence
  pub unread : Unread
  pub start : Option ℕ

-- a row more, after which the rest is left
abbrev pub with_row : LineRow → Unread → SequenceSplit → SequenceSplit
with_row r rest k =
    if r.end_sequence
    then record {
      parts =
          k.parts
          ++ record {
            start = unwrap_or k.start 0;
            end = r.address;
            unread = front_of k.unread rest;
          }
          ∷ [];
      unread = rest;
      start = None;
    }
    else record k { start = Some (unwrap_or k.start r.address) }

-- the rows of each sequence so far, and those of the one that is open
pub record RowSplit : Type 0 where
  pub closed : List (List LineRow)
  pub unended : List LineRow

-- a row more
abbrev pub with_kept_row : LineRow → RowSplit → RowSplit
with_kept_row r k =
    if r.end_sequence
    then record { closed = k.closed ++ (k.unended ++ r ∷ []) ∷ []; unended = [] }
    else record k { unended = k.unended ++ r ∷ [] }
