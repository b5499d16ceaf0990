use Rattle.std.proofs.Common.{ℕ, length}
use Rattle.gimli_line.specs.run.Rows.{made_left}
use Rattle.gimli_lookup.specs.inside.SequenceCut.{SequenceCut}
use Rattle.gimli_lookup.specs.inside.UnitSearch.{Sees}
use Rattle.gimli_lookup.proofs.RowsTaken.{TakesIn}
use Rattle.gimli_lookup.proofs.unit_search.search_rows.Given as goal

abbrev pub invariant-rows : goal.invariant-rows
invariant-rows g l = (unit : ℕ) (from : SequenceCut) → Sees unit l.addresses from l.initial.search
    → (to : SequenceCut) × TakesIn l.initial.run l.run from to × Sees unit l.addresses to l.search

abbrev pub decreases-rows : goal.decreases-rows
decreases-rows g l = length (made_left l.run)
