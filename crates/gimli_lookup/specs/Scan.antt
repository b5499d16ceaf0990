-- Sequences whose addresses go down, which a lookup over one program may have: they are searched
-- row by row. A lookup over a section has none (`laws::kept_rows_never_go_down`).
use Rattle.std.specs.Prelude.{◌≡◌, ◌⊎◌, ◌+◌, ℕ, false, if◌then◌else◌, List, [], ◌∷◌, length}
use Rattle.gimli_line.specs.declared.run.row.LineRow.{LineRow}
use Rattle.gimli_lookup.specs.declared.scan.ScanTable.{ScanTable}
use Rattle.gimli_lookup.specs.Covering.{CoversSome}
use Rattle.gimli_lookup.specs.Probes.{never_go_down, binary_digits}
use Rattle.gimli_lookup.specs.Steps.{IsStepTableOf}

-- the most probes in a sequence: it is searched by halves where its addresses never go down, else
-- row by row
abbrev pub most_probes : List LineRow → ℕ
most_probes rows = if never_go_down rows then binary_digits (length rows) else length rows

-- the most probes row by row: the rows of a sequence whose addresses go down
abbrev pub scan_probes : List LineRow → ℕ
scan_probes rows = if never_go_down rows then 0 else length rows

-- the rows cover some address, or go down
abbrev pub IsLookedInto : List LineRow → Type 0
IsLookedInto rows = CoversSome rows ⊎ (never_go_down rows ≡ false)

-- the indices of the sequences whose addresses go down, the first of these sequences having the
-- index `first`
abbrev pub indexes_out_of_order : ℕ → List (List LineRow) → List ℕ
indexes_out_of_order first [] = []
indexes_out_of_order first (rows ∷ later) =
    if never_go_down rows then indexes_out_of_order (first + 1) later
    else first ∷ indexes_out_of_order (first + 1) later

-- the table of steps of these sequences, and next to it the sequences that are searched row by row
pub record IsScanTableOf (table : ScanTable) (sequences : List (List LineRow)) : Type 0 where
  pub steps : IsStepTableOf table.table sequences
  pub unordered : table.unordered.items ≡ indexes_out_of_order 0 sequences
