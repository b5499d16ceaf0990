-- Changes that are being collected.
use Rattle.std.specs.Prelude.{◌≡◌, ◌⊎◌, ℕ, Bool, List, Option, None, Some, if◌then◌else◌}
use Rattle.std.specs.BTreeMap.{BTreeMap, get}
use Rattle.lines_reports.specs.Coverage.{change_at, place_order}
use Rattle.lines_reports.specs.declared.coverage.Change.{Change}
use Rattle.lines_reports.specs.declared.coverage.LinePlace.{LinePlace}

-- what stands for a place after the change of one was kept, where that has one: its own where it is
-- the same place
abbrev pub with_change : Option Change → Bool → Option Change → Option Change
with_change None is_same before = before
with_change (Some change) is_same before = if is_same then Some change else before

module _ (old new : List (LinePlace × ℕ)) where
  -- each place has its change, or none yet
  abbrev pub IsPart : BTreeMap LinePlace Change → Type 0
  IsPart changes = (place : LinePlace) →
      (get place_order changes place ≡ None)
      ⊎ (get place_order changes place ≡ change_at old new place)

  -- a place that has its change keeps it
  abbrev pub Keeps : BTreeMap LinePlace Change → BTreeMap LinePlace Change → Type 0
  Keeps before after = (place : LinePlace)
      → get place_order before place ≡ change_at old new place
      → get place_order after place ≡ change_at old new place
