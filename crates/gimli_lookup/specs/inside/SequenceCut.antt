-- The rows of a unit, taken in one after the other, up to the first fault of its run.
use Rattle.std.specs.Prelude.{ℕ, if◌then◌else◌, List, [], ◌∷◌, ◌++◌, length, ◌≡◌, map, Option, Some}
use Rattle.std.specs.Prelude.{None}
use Rattle.std.specs.List.{filter}
use Rattle.gimli_line.specs.declared.run.row.LineRow.{LineRow}
use Rattle.gimli_lookup.specs.UnitRun.{has_rows, stands}
use Rattle.gimli_core.specs.declared.error.Error.{Error}
use Rattle.gimli_line.specs.run.Events.{row, fault}
use Rattle.gimli_line.specs.run.EventsWithFiles.{EventWithFiles}
use Rattle.gimli_line.specs.run.Passing.{RunState}
use Rattle.gimli_line.specs.run.Rows.{made_left, files_at_end, event_of, KeepsHeader}
use Rattle.gimli_line.specs.run.Sequences.{events_of}

-- the parts of the sequences that have ended and then those of the open one, how many of them are
-- of ended ones, and the rows of the part that is open
pub record SequenceCut : Type 0 where
  pub lowest : ℕ
  pub parts : List (List LineRow)
  pub ended : ℕ
  pub rows : List LineRow

-- before the first row
abbrev pub no_rows : ℕ → SequenceCut
no_rows lowest = record { lowest = lowest; parts = []; ended = 0; rows = [] }

-- the open part has ended, where it has rows
abbrev pub with_part : SequenceCut → SequenceCut
with_part a = record a { parts = a.parts ++ filter has_rows (a.rows ∷ []); rows = [] }

-- the open sequence has ended
abbrev pub with_end : SequenceCut → SequenceCut
with_end a = let b = with_part a in record b { ended = length b.parts }

-- a row goes to the open part
abbrev pub with_open : LineRow → SequenceCut → SequenceCut
with_open r a = record a { rows = a.rows ++ r ∷ [] }

-- a row goes to the open part, or ends it
abbrev pub with_place : LineRow → SequenceCut → SequenceCut
with_place r a = if stands a.lowest r then with_open r a else with_part a

-- the next row is taken in
abbrev pub with_row : LineRow → SequenceCut → SequenceCut
with_row r a = if r.end_sequence then with_end (with_place r a) else with_place r a

-- these rows are taken in, in order
abbrev pub with_rows : List LineRow → SequenceCut → SequenceCut
with_rows [] a = a
with_rows (r ∷ rows) a = with_rows rows (with_row r a)

-- what comes after these events: nothing, or the first fault
abbrev pub StopsAt : RunState → RunState → List EventWithFiles → Option Error → Type 0
StopsAt old new front None = (made_left old ≡ front) × (new.files ≡ files_at_end old)
StopsAt old new front (Some e) =
    (rest : List EventWithFiles) × (made_left old ≡ front ++ event_of (fault e) new ∷ rest)

-- the rows up to the first fault were taken in
pub record AreTaken (old new : RunState) (e : Option Error) (from to : SequenceCut) : Type 0 where
  pub rows : List LineRow
  pub front : List EventWithFiles
  pub rows_are : events_of front ≡ map row rows
  pub stops : StopsAt old new front e
  pub taken : to ≡ with_rows rows from
  pub keeps : KeepsHeader old new
