-- Whether whole paths of a section need the directories of its compilations that its caller has.
use Rattle.std.specs.Prelude.{◌≡◌, ◌⊎◌, ℕ, Bool, true, false, List, [], ◌∷◌, drop}
use Rattle.gimli_core.specs.declared.error.Error.{Error}
use Rattle.gimli_line.specs.header.Header.{Header, UnitEntry}
use Rattle.gimli_line.specs.header.HeaderGrammar.{SpellsUnit}
use Rattle.gimli_line.specs.run.Unread.{Unread}
use Rattle.gimli_line.specs.Units.{HasUnitFaultAt}
use Rattle.gimli_lookup.specs.PathFiles.{paths_of}
use Rattle.gimli_lookup.specs.Paths.{needs_directory}
use Rattle.gimli_lookup.specs.Strings.{Strings}

-- the section has a unit at the offset, and this is whether its paths need the directory
pub record IsUnitNeed (section : Unread) (entry : UnitEntry) (texts : Strings) (offset : ℕ)
    (needs : Bool) : Type 0 where
  pub header : Header
  pub unit : SpellsUnit section.layout entry (drop offset section.bytes) header
  pub is_need : needs_directory (paths_of texts header) ≡ needs

-- as `IsUnitNeed` says, or the unit can't be read and needs none
abbrev pub IsNeedAt : Unread → UnitEntry → Strings → ℕ → Bool → Type 0
IsNeedAt section entry texts offset needs =
    IsUnitNeed section entry texts offset needs
    ⊎ ((e : Error) × HasUnitFaultAt section offset entry e × (needs ≡ false))

-- of the units at some offsets the first that needs it, or none does
abbrev pub IsNeedOfSome : Unread → UnitEntry → Strings → List ℕ → Bool → Type 0
IsNeedOfSome section entry texts [] needs = needs ≡ false
IsNeedOfSome section entry texts (offset ∷ offsets) needs =
    (IsUnitNeed section entry texts offset true × (needs ≡ true))
    ⊎ (IsNeedAt section entry texts offset false
    × IsNeedOfSome section entry texts offsets needs)
