-- A program: the units of its section of line programs, and what whole paths are made of.
use Rattle.std.specs.Prelude.{Bool, false, List, Option, map, slice_get}
use Rattle.std.specs.List.{list_any}
use Rattle.std.specs.Option.{option_and_then, option_map_or}
use Rattle.gimli_lookup.specs.PathFiles.{paths_of}
use Rattle.gimli_lookup.specs.Paths.{needs_directory}
use Rattle.gimli_lookup.specs.Section.{KeptHeader, KeptUnit, ListedUnit}
use Rattle.gimli_lookup.specs.Strings.{Strings}
use Rattle.gimli_lookup.specs.declared.section_lookup.CoveringRows.{CoveringRows}

-- units as they are listed
abbrev pub listed : List KeptUnit → List ListedUnit
listed units = map (λ u. u.unit) units

-- whether the paths of a unit need the directory of its compilation; a refused unit has no paths
abbrev pub unit_needs : Strings → ListedUnit → Bool
unit_needs texts u = option_map_or (λ h. needs_directory (paths_of texts h.meaning)) u.header false

-- whether those of some unit do
abbrev pub some_need : Strings → List KeptUnit → Bool
some_need texts units = list_any (unit_needs texts) (listed units)

-- whether the path of found rows needs the directory of its compilation: those of their unit do;
-- where there is no such unit, nothing does
abbrev pub found_needs : Strings → List ListedUnit → CoveringRows → Bool
found_needs texts units f = option_map_or (unit_needs texts) (slice_get units f.unit) false

-- whether the path of what is found at an address needs it; if no rows are found, nothing is needed
abbrev pub need_at : Strings → List ListedUnit → Option CoveringRows → Bool
need_at texts units found = option_map_or (found_needs texts units) found false

-- whether one of the paths of what is found at some addresses does
abbrev pub some_found_need : Strings → List ListedUnit → List (Option CoveringRows) → Bool
some_found_need texts units rows = list_any (need_at texts units) rows

-- the header of the unit that rows are found in, if it is known
abbrev pub header_of_found : List KeptUnit → CoveringRows → Option KeptHeader
header_of_found units f = option_and_then (λ u. u.header) (slice_get (listed units) f.unit)
