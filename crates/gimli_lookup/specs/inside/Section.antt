-- What a unit adds to the sequences of all units, and what is found in it at some addresses.
use Rattle.std.specs.Prelude.{◌≡◌, ℕ, List, [], ◌++◌, length, Some, None, Result, Ok, Err, Option}
use Rattle.std.specs.Prelude.{All}
use Rattle.gimli_core.specs.declared.error.Error.{Error}
use Rattle.gimli_line.specs.declared.run.row.LineRow.{LineRow}
use Rattle.gimli_line.specs.header.Header.{SeenHeader}
use Rattle.gimli_lookup.specs.UnitRun.{IsKept}
use Rattle.gimli_lookup.specs.Section.{KeptHeader, ListedUnit}
use Rattle.std.specs.Option.{option_or}
use Rattle.gimli_lookup.specs.SectionSearch.{listed_if}
use Rattle.gimli_lookup.specs.declared.section_lookup.CoveringRows.{CoveringRows}
use Rattle.gimli_lookup.specs.inside.UnitSearch.{first_covering, finds_more, IsFoundOf}

-- what is kept of a program, or of its refusal
abbrev pub IsOutcome : {R Offset Endian : Type 0} → ℕ → Result (SeenHeader R Offset Endian) Error
    → ListedUnit → List (List LineRow) → Type 0
IsOutcome lowest (Ok program) unit sequences =
    (h : KeptHeader) × (unit.header ≡ Some h) × (h.layout ≡ program.layout)
    × IsKept program.layout lowest program.meaning h.meaning unit.fault sequences
IsOutcome lowest (Err e) unit sequences =
    (unit.header ≡ None) × (unit.fault ≡ Some e) × (sequences ≡ [])

-- what is kept of a program, or of its refusal: the sequences are added after others
pub record IsAdded {R Offset Endian : Type 0} (lowest : ℕ)
    (program : Result (SeenHeader R Offset Endian) Error) (unit : ListedUnit)
    (old new : List (List LineRow)) : Type 0 where
  pub sequences : List (List LineRow)
  pub added : new ≡ old ++ sequences
  pub first : unit.first ≡ length old
  pub end : unit.end ≡ length new
  pub outcome : IsOutcome lowest program unit sequences

-- a unit that is listed without its header, and of which no sequences are kept
abbrev pub bare_unit : ℕ → Option Error → ListedUnit
bare_unit offset fault =
    record { offset = offset; header = None; fault = fault; first = 0; end = 0 }

-- this is found at an address in the parts of a unit, behind what was found before
abbrev pub IsFoundBehind : ℕ → List (List LineRow) → Option CoveringRows → ℕ
    → Option CoveringRows → Type 0
IsFoundBehind index parts before a found =
    (here : Option CoveringRows) × IsFoundOf index parts a here × (found ≡ option_or before here)

-- the program of a unit, or its refusal, was searched at some addresses: pairs were put behind
-- others. The unit is listed with its header if something more is found, or the run had a fault
pub record IsSearched {R Offset Endian : Type 0} (lowest index : ℕ) (addresses : List ℕ)
    (program : Result (SeenHeader R Offset Endian) Error) (listed : ListedUnit)
    (old new : List CoveringRows) : Type 0 where
  pub unit : ListedUnit
  pub parts : List (List LineRow)
  pub outcome : IsOutcome lowest program unit parts
  pub more : List CoveringRows
  pub added : new ≡ old ++ more
  pub found : All (λ a. IsFoundBehind index parts (first_covering a old) a (first_covering a new))
      addresses
  pub is_listed : listed ≡ listed_if (finds_more addresses old new) unit
