-- What the units of a section are that a lookup lists.
use Rattle.std.specs.Prelude.{◌≡◌, ◌⊎◌, ℕ, List, [], map, drop, Some, None, All}
use Rattle.gimli_core.specs.declared.error.Error.{Error}
use Rattle.gimli_line.specs.header.Header.{Header, UnitEntry}
use Rattle.gimli_line.specs.header.HeaderGrammar.{SpellsUnit}
use Rattle.gimli_line.specs.run.Unread.{Unread}
use Rattle.gimli_line.specs.Units.{HasUnitFaultAt}
use Rattle.gimli_line.specs.Units.{AreUnits}
use Rattle.gimli_lookup.specs.Section.{KeptHeader, KeptUnit}
use Rattle.gimli_lookup.specs.UnitRun.{IsKept}

-- the section has no unit there, for this reason; and no sequences are kept
pub record IsRefused (section : Unread) (entry : UnitEntry) (u : KeptUnit) : Type 0 where
  pub error : Error
  pub no_header : u.unit.header ≡ None
  pub is_fault : u.unit.fault ≡ Some error
  pub refusal : HasUnitFaultAt section u.unit.offset entry error
  pub no_sequences : u.sequences ≡ []

-- the section has a unit there, and this is kept of its run
pub record IsRun (section : Unread) (entry : UnitEntry) (lowest : ℕ) (u : KeptUnit) : Type 0 where
  pub read : Header
  pub unit : SpellsUnit section.layout entry (drop u.unit.offset section.bytes) read
  pub header : KeptHeader
  pub is_header : u.unit.header ≡ Some header
  pub layout : header.layout ≡ section.layout
  pub kept : IsKept section.layout lowest read header.meaning u.unit.fault u.sequences

-- the unit is what the section has at its offset
abbrev pub IsUnitOf : Unread → UnitEntry → ℕ → KeptUnit → Type 0
IsUnitOf section entry lowest u = IsRefused section entry u ⊎ IsRun section entry lowest u

-- these are the units that a section has, in order, and what is kept of each
pub record AreUnitsOf (section : Unread) (entry : UnitEntry) (lowest : ℕ) (units : List KeptUnit)
    : Type 0 where
  pub offsets : AreUnits section.layout 0 section.bytes (map (λ u. u.unit.offset) units)
  pub each : All (IsUnitOf section entry lowest) units
