-- What a lookup keeps of a section: its units, and the sequences of each, which are the parts of
-- those of its program that stand (`UnitRun.antt`).
use Rattle.gimli_line.specs.header.Header.{Header}
use Rattle.gimli_line.specs.run.Passing.{RunState}
use Rattle.std.specs.Prelude.{List, ◌≡◌, ◌≤◌, ◌+◌, ◌-◌, ℕ, [], ◌∷◌, take, drop, Option, None}
use Rattle.gimli_line.specs.declared.run.row.LineRow.{LineRow}
use Rattle.gimli_lookup.specs.declared.sequence_rows.SequenceRows.{SequenceRows}
use Rattle.std.specs.List.{flat_map}
use Rattle.std.specs.Option.{option_map, option_or}
use Rattle.gimli_core.specs.Layout.{OrderAndLimit}
use Rattle.gimli_core.specs.declared.error.Error.{Error}
use Rattle.gimli_lookup.specs.FirstPair.{first_pair_of}
use Rattle.gimli_lookup.specs.declared.section_lookup.CoveringRows.{CoveringRows}

-- the header of a run, with the files that were defined so far
abbrev pub header_of : RunState → Header
header_of a = record a.fixed { files = a.files }

-- the rows of a sequence, as a lookup lends them
abbrev pub rows_of : SequenceRows → List LineRow
rows_of s = s.rows.now

-- a header, with the files that are defined before the first fault, and the layout of its program
pub record KeptHeader : Type 0 where
  pub meaning : Header
  pub layout : OrderAndLimit

-- the header of a run, as it is now
abbrev pub header_at : RunState → KeptHeader
header_at a = record { meaning = header_of a; layout = a.source.layout }

-- a unit as it is listed
pub record ListedUnit : Type 0 where
  -- its offset in the section
  pub offset : ℕ
  -- None where the unit was refused
  pub header : Option KeptHeader
  -- why it was refused, or the first fault of its run
  pub fault : Option Error
  -- the index of its first sequence among those of all units, and the index after its last one
  pub first : ℕ
  pub end : ℕ

-- a unit without its header
abbrev pub without_header : ListedUnit → ListedUnit
without_header u = record u { header = None }

-- a unit with its sequences
pub record KeptUnit : Type 0 where
  pub unit : ListedUnit
  pub sequences : List (List LineRow)

-- the sequences of all units, in order
abbrev pub all_sequences : List KeptUnit → List (List LineRow)
all_sequences units = flat_map (λ u. u.sequences) units

-- a unit, with its part of the sequences of all units
abbrev pub with_sequences : List (List LineRow) → ListedUnit → KeptUnit
with_sequences sequences u = record {
  unit = u;
  sequences = take (u.end - u.first) (drop u.first sequences);
}

-- a unit without its header, with the same sequences
abbrev pub unit_without_header : KeptUnit → KeptUnit
unit_without_header u = record u { unit = without_header u.unit }

-- the units have the sequences of these indices, one unit after the other
abbrev pub AreAdjacent : ℕ → List ListedUnit → ℕ → Type 0
AreAdjacent from [] end = from ≡ end
AreAdjacent from (u ∷ units) end =
    (u.first ≡ from) × (u.first ≤ u.end) × AreAdjacent u.end units end

-- what is found at an address in the first unit whose sequences have rows round it, where the first
-- of these units has the index `first`
abbrev pub found_from : ℕ → ℕ → List KeptUnit → Option CoveringRows
found_from a first [] = None
found_from a first (u ∷ units) =
    option_or
    (option_map (λ pair. record { unit = first; row = pair.0; next = pair.1 })
    (first_pair_of a u.sequences))
    (found_from a (first + 1) units)

-- what is found at an address in units: the first rows that cover it, with the index of their unit
abbrev pub found_at : ℕ → List KeptUnit → Option CoveringRows
found_at a units = found_from a 0 units
