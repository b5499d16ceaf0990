-- What one run over the units of a section finds at some addresses.
use Rattle.std.specs.Prelude.{◌≡◌, ℕ, suc, Bool, false, ◌||◌, nat_eq, if◌then◌else◌, List, [], ◌∷◌}
use Rattle.std.specs.Prelude.{Option, Some, None, is_some, map}
use Rattle.std.specs.List.{list_any}
use Rattle.gimli_line.specs.header.Header.{UnitEntry}
use Rattle.gimli_line.specs.run.Unread.{Unread}
use Rattle.gimli_lookup.specs.Section.{ListedUnit, KeptUnit, found_at, without_header}
use Rattle.gimli_lookup.specs.SectionUnits.{AreUnitsOf}
use Rattle.gimli_lookup.specs.declared.section_lookup.CoveringRows.{CoveringRows}

-- whether what is found is in the unit at an index
abbrev pub is_of_unit : ℕ → Option CoveringRows → Bool
is_of_unit index None = false
is_of_unit index (Some found) = nat_eq found.unit index

-- a unit as it is listed: as it is if rows of it are found or its run has a fault, and else without
-- its header
abbrev pub listed_if : Bool → ListedUnit → ListedUnit
listed_if has_rows unit =
    if is_some unit.fault || has_rows then unit else without_header unit

-- units as they are listed, the first of which has an index
abbrev pub all_listed : List (Option CoveringRows) → ℕ → List KeptUnit → List ListedUnit
all_listed rows index [] = []
all_listed rows index (u ∷ units) =
    listed_if (list_any (is_of_unit index) rows) u.unit ∷ all_listed rows (suc index) units

-- at each address this is found among the units of a section
pub record AreFoundInSection (section : Unread) (entry : UnitEntry) (lowest : ℕ)
    (addresses : List ℕ) (listed : List ListedUnit) (rows : List (Option CoveringRows)) : Type 0
  where
    pub units : List KeptUnit
    pub are : AreUnitsOf section entry lowest units
    pub listed_are : listed ≡ all_listed rows 0 units
    pub found : rows ≡ map (λ a. found_at a units) addresses
