use Rattle.std.proofs.Common.{◌≡◌, ◌≤◌, ◌<◌, ◌+◌, ◌-◌, ℕ, length}
use Rattle.std.specs.Prelude.{slice_index_or}
use Rattle.gimli_lookup.specs.Section.{ListedUnit}
use Rattle.gimli_lookup.proofs.section_lookup.unit_of.Given as goal

abbrev pub invariant-halves : goal.invariant-halves
invariant-halves g l = record {
  some : l.low < l.high;
  within : l.high ≤ length l.units;
  first : (d : ListedUnit) → (slice_index_or l.units l.low d).first ≤ l.sequence;
  end : (k : ℕ) (d : ListedUnit) → k + 1 ≡ l.high → l.sequence < (slice_index_or l.units k d).end;
}

abbrev pub decreases-halves : goal.decreases-halves
decreases-halves g l = l.high - l.low
