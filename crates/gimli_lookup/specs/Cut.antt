-- Rows cut into sequences: a sequence is the rows up to and with an end row (DWARF 5, section
-- 6.2.5.3).
use Rattle.std.specs.Prelude.{◌≡◌, true, false, List, [], ◌∷◌, ◌++◌, flat_map}
use Rattle.std.specs.List.{AllByRecursion}
use Rattle.gimli_line.specs.declared.run.row.LineRow.{LineRow}

-- no row of these ends a sequence
abbrev pub HaveNoEnd : List LineRow → Type 0
HaveNoEnd rows = AllByRecursion (λ r. r.end_sequence ≡ false) rows

-- the rows of one sequence: one end row, which is the last
pub record EndOnce (rows : List LineRow) : Type 0 where
  pub front : List LineRow
  pub last : LineRow
  pub parts : rows ≡ front ++ last ∷ []
  pub unended : HaveNoEnd front
  pub ended : last.end_sequence ≡ true

-- the rows are those of the sequences, one after the other, and then rows that no end follows,
-- which are in no sequence
pub record AreCutAtEnds (rows : List LineRow) (sequences : List (List LineRow)) : Type 0 where
  pub unended : List LineRow
  pub joined : rows ≡ flat_map (λ sequence. sequence) sequences ++ unended
  pub each : AllByRecursion EndOnce sequences
  pub no_end : HaveNoEnd unended
