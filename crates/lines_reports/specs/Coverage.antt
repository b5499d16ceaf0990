-- How many bytes of code places have, as a finite map, and how a new program differs from an old
-- one.
use Rattle.std.specs.Prelude.{◌≡◌, ◌+◌, ◌-◌, ◌^◌, ℕ, List, Option, None, Some, min}
use Rattle.std.specs.Prelude.{false, nat_eq, if◌then◌else◌}
use Rattle.std.specs.BTreeMap.{is_at}
use Rattle.std.specs.Map.{lookup}
use Rattle.std.specs.declared.cmp.Ordering.{Ordering}
use Rattle.lines_reports.specs.contracts.coverage.LinePlaceOrd.TheImpl as place_ord
use Rattle.lines_reports.specs.declared.coverage.Change.{Change}
use Rattle.lines_reports.specs.declared.coverage.LinePlace.{LinePlace}

-- the order of places: by path, and then by line
abbrev pub place_order : LinePlace → LinePlace → Ordering
place_order = (place_ord.ghosts).cmp

-- the bytes of a place; None where it has no row
abbrev pub bytes_at : List (LinePlace × ℕ) → LinePlace → Option ℕ
bytes_at coverage place = lookup (is_at (place_order place)) coverage

-- so many bytes more, where a number above 64 bits stays at the greatest
abbrev pub more_bytes : Option ℕ → ℕ → ℕ
more_bytes None bytes = bytes
more_bytes (Some before) bytes = min (before + bytes) (2 ^ 64 - 1)

-- a place has so many bytes more, and each other has what it had
abbrev pub AddsBytes : List (LinePlace × ℕ) → List (LinePlace × ℕ) → LinePlace → ℕ → Type 0
AddsBytes old new place bytes =
    (bytes_at new place ≡ Some (more_bytes (bytes_at old place) bytes))
    × ((other : LinePlace) → is_at (place_order place) other ≡ false
    → bytes_at new other ≡ bytes_at old other)

-- a place whose bytes differ, with both counts
abbrev pub changed : Option ℕ → Option ℕ → Option Change
changed None None = None
changed (Some old) None = Some (record { old = Some old; new = None })
changed None (Some new) = Some (record { old = None; new = Some new })
changed (Some old) (Some new) =
    if nat_eq old new then None else Some (record { old = Some old; new = Some new })

-- how a place differs
abbrev pub change_at : List (LinePlace × ℕ) → List (LinePlace × ℕ) → LinePlace → Option Change
change_at old new place = changed (bytes_at old place) (bytes_at new place)
