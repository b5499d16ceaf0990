-- From a line of a path to addresses, over the units of a section.
use Rattle.std.specs.Prelude.{ℕ, Bool, false, List, flat_map}
use Rattle.std.specs.Option.{option_map_or}
use Rattle.gimli_lookup.specs.PathFiles.{has_path}
use Rattle.gimli_lookup.specs.ProgramPaths.{Texts, unit_paths}
use Rattle.gimli_lookup.specs.Section.{ListedUnit, KeptUnit}
use Rattle.gimli_lookup.specs.Statements.{addresses_of}

-- whether the file of an index of a unit has a path; a refused unit has no files
abbrev pub unit_has_path : Texts → List ℕ → ListedUnit → ℕ → Bool
unit_has_path texts path u i =
    option_map_or (λ h. has_path (unit_paths texts u.offset h.meaning) path i) u.header false

-- the addresses of a line of a path in one unit
abbrev pub unit_addresses : Texts → List ℕ → KeptUnit → ℕ → List ℕ
unit_addresses texts path u line = addresses_of (unit_has_path texts path u.unit) u.sequences line

-- the addresses of a line of a path in units, in their order
abbrev pub addresses_of_path : Texts → List ℕ → List KeptUnit → ℕ → List ℕ
addresses_of_path texts path units line = flat_map (λ u. unit_addresses texts path u line) units
