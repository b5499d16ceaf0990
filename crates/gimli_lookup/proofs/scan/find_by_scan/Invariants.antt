use Rattle.std.proofs.Common.{◌≡◌, ◌≤◌, ◌<◌, ◌+◌, ℕ, true, false}
use Rattle.std.specs.Prelude.{slice_index_or}
use Rattle.gimli_line.specs.declared.run.row.LineRow.{LineRow}
use Rattle.gimli_lookup.specs.inside.FirstPair.{IsPairAt}
use Rattle.gimli_lookup.proofs.scan.find_by_scan.Given as goal

abbrev pub invariant-loop-index : goal.invariant-loop-index
invariant-loop-index l = record {
  count : l.probes ≡ l.initial.probes + l.index;
  from : l.is_from ≡ true
      → (0 < l.index) × ((k : ℕ) (d : LineRow) → k + 1 ≡ l.index → (slice_index_or l.rows k d).address ≤ l.a);
  above : l.is_from ≡ false → (k : ℕ) (d : LineRow) → k + 1 ≡ l.index → l.a < (slice_index_or l.rows k d).address;
  none : (k : ℕ) (x y : LineRow) → k + 1 < l.index → IsPairAt l.a l.rows k x y → ⊥;
}
