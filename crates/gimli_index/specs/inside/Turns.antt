-- The sequences of a lookup, one after the other, and the starts that an index has of them.
use Rattle.std.specs.Prelude.{◌≡◌, ◌+◌, ◌*◌, ◌^◌, ◌<◌, ◌≤◌, ℕ, List, [], ◌∷◌, map, IfSome}
use Rattle.std.specs.Prelude.{flat_map, if◌then◌else◌, slice_get, slice_index_or, All, Some, None}
use Rattle.std.specs.Option.{option_map_or}
use Rattle.std.specs.List.Sorted.{IsPermutation}
use Rattle.gimli_index.specs.Contents.{HasColumn}
use Rattle.gimli_index.specs.Found.{row_place}
use Rattle.gimli_lookup.specs.ProgramPaths.{Texts}
use Rattle.gimli_index.specs.Made.{EntriesAscend}
use Rattle.gimli_index.specs.Meaning.{Start, place_at}
use Rattle.gimli_index.specs.Short.{IsShort}
use Rattle.gimli_index.specs.declared.contents.Entry.{Entry}
use Rattle.gimli_index.specs.declared.turns.Turn.{Turn}
use Rattle.gimli_index.specs.inside.Table.{AreSources, IsInside, Table, starts_in}
use Rattle.gimli_line.specs.declared.run.row.LineRow.{LineRow}
use Rattle.gimli_lookup.specs.Covering.{range}
use Rattle.gimli_lookup.specs.Section.{KeptUnit, ListedUnit}
use Rattle.gimli_lookup.specs.Section.{rows_of}

-- the rows of a sequence, and its unit
pub record UnitRows : Type 0 where
  pub unit : ListedUnit
  pub rows : List LineRow

-- the sequences of a unit
abbrev pub rows_in : KeptUnit → List UnitRows
rows_in u = map (λ rows. record { unit = u.unit; rows = rows }) u.sequences

-- those of all units
abbrev pub rows_of_units : List KeptUnit → List UnitRows
rows_of_units units = flat_map rows_in units

-- what a turn stands for, where its unit is there
abbrev pub turn_rows : List KeptUnit → KeptUnit → Turn → UnitRows
turn_rows units d turn =
    record { unit = (slice_index_or units turn.unit d).unit; rows = rows_of turn.rows }

-- the first address of rows, and below it the last one; 0 where there are none
abbrev pub key_of : List LineRow → ℕ
key_of rows = option_map_or (λ ends. ends.0 * 2 ^ 64 + ends.1) (range rows) 0

-- the rows of a turn are a sequence of its unit, and its key is theirs
pub record IsTurn (units : List KeptUnit) (turn : Turn) : Type 0 where
  pub unit : KeptUnit
  pub there : slice_get units turn.unit ≡ Some unit
  pub sequence : ℕ
  pub is_sequence : slice_get unit.sequences sequence ≡ Some (rows_of turn.rows)
  pub key : turn.key ≡ key_of (rows_of turn.rows)
  pub few : IfSome (range (rows_of turn.rows)) (λ ends. ends.1 < 2 ^ 64)

-- these are the sequences of all units
pub record AreTurns (units : List KeptUnit) (turns : List Turn) : Type 0 where
  pub each : All (IsTurn units) turns
  pub all : (d : KeptUnit) → IsPermutation (rows_of_units units) (map (turn_rows units d) turns)

-- the rows of turns, one after the other
abbrev pub rows_of_turns : List Turn → List LineRow
rows_of_turns turns = flat_map (λ turn. rows_of turn.rows) turns

-- the address of the last row; where there are none, that which came before
abbrev pub end_after : ℕ → List LineRow → ℕ
end_after end [] = end
end_after end (r ∷ rows) = end_after r.address rows

-- the start that a row has
abbrev pub row_start : Texts → ListedUnit → LineRow → Start
row_start t u r = record { address = r.address; place = Some (row_place t u r) }

-- the start at which nothing holds any more
abbrev pub end_start : ℕ → Start
end_start a = record { address = a; place = None }

-- a start for each row of a sequence but an end row, and one at the last address for its end
abbrev pub starts_of_rows : Texts → ListedUnit → List LineRow → List Start
starts_of_rows t u [] = []
starts_of_rows t u (r ∷ []) =
    if r.end_sequence then end_start r.address ∷ []
    else row_start t u r ∷ end_start r.address ∷ []
starts_of_rows t u (r ∷ next ∷ rows) = row_start t u r ∷ starts_of_rows t u (next ∷ rows)

-- the starts of a sequence of a unit
abbrev pub starts_of_turn : Texts → UnitRows → List Start
starts_of_turn t s = starts_of_rows t s.unit s.rows

-- starts that say what others say, of which those are left out that say nothing more
abbrev pub Agree : List Start → List Start → Type 0
Agree starts said = (a : ℕ) → place_at a starts ≡ place_at a said

-- entries say what some starts say, up to an address
pub record Walked (t : Texts) (units : List KeptUnit) (limit : ℕ) (table : Table)
    (entries : List Entry) (said : List Start) (end : ℕ) : Type 0 where
  pub are : AreSources t units limit table
  pub inside : (k : ℕ) (e : Entry) → slice_get entries k ≡ Some e → IsInside table e.place
  pub below : (k : ℕ) (e : Entry) → slice_get entries k ≡ Some e → e.address ≤ end
  pub ascending : EntriesAscend entries
  pub columns : All (λ e. HasColumn e.place) entries
  pub short : IsShort (starts_in table entries)
  pub agree : Agree (starts_in table entries) said
