-- The units of a section, one after the other (DWARF 5, sections 6.2.4 and 7.4).
use Rattle.std.specs.Prelude.{◌≡◌, ◌≢◌, ◌⊎◌, ◌+◌, ◌-◌, ◌∷◌, ◌++◌}
use Rattle.gimli_line.specs.Prelude.{ℕ, zero, suc, List, [], length, Ok, Err, OrderAndLimit, Read}
use Rattle.gimli_line.specs.Prelude.{Error, drop}
use Rattle.gimli_core.specs.Numbers.{initial_length_size}
use Rattle.gimli_core.specs.Production.{Production, ◌>>=◌, some_bytes, unit_length}
use Rattle.gimli_line.specs.header.Header.{Header, UnitEntry, SeenHeader}
use Rattle.gimli_line.specs.run.Unread.{Unread}
use Rattle.gimli_line.specs.header.HeaderGrammar.{SpellsUnit, HasUnitFault}

-- a unit, whatever its content is: a length that an offset of the reader holds, and as many bytes
-- as it says
unfoldable pub any_unit : OrderAndLimit → Production (List ℕ)
any_unit layout = do
  unit ← unit_length layout
  some_bytes unit.0

-- the bytes after a unit; none where there is no unit
abbrev pub after_unit : Read (List ℕ) → List ℕ
after_unit (Ok content, rest) = rest
after_unit (Err e, rest) = []

-- the offsets of at most so many units, in bytes that have this end
unfoldable pub offsets_upto : OrderAndLimit → ℕ → ℕ → List ℕ → List ℕ
offsets_upto layout end zero bytes = []
offsets_upto layout end (suc more) [] = []
offsets_upto layout end (suc more) (b ∷ bytes) =
    (end - length (b ∷ bytes))
    ∷ offsets_upto layout end more (after_unit ((any_unit layout).read (b ∷ bytes)))

-- the offsets of all units; they aren't more than the bytes
abbrev pub offsets_at : OrderAndLimit → ℕ → List ℕ → List ℕ
offsets_at layout end bytes = offsets_upto layout end (length bytes) bytes

-- the bytes begin with a unit, and units at these offsets follow it
pub record BeginsWithUnit (layout : OrderAndLimit) (bytes : List ℕ) (Follow : ℕ → List ℕ → Type 0)
    : Type 0 where
  pub unit : List ℕ
  pub content : List ℕ
  pub rest : List ℕ
  pub parts : bytes ≡ unit ++ rest
  pub spelled : (any_unit layout).Spells unit content
  pub follow : Follow (length unit) rest

-- bytes that begin with no unit: their length can't be read, or it says more bytes than there are
pub record BeginsWithNoUnit (layout : OrderAndLimit) (bytes : List ℕ) : Type 0 where
  pub some : bytes ≢ []
  pub error : Error
  pub fault : (any_unit layout).Fault bytes error

-- the bytes from an offset on are units, one after the other, and these are their offsets. Where a
-- rest is left at the end that begins with no unit, the last offset is that of the rest
abbrev pub AreUnits : OrderAndLimit → ℕ → List ℕ → List ℕ → Type 0
AreUnits layout offset bytes [] = bytes ≡ []
AreUnits layout offset bytes (o ∷ offsets) =
    (o ≡ offset)
    × (BeginsWithUnit layout bytes (λ size rest. AreUnits layout (offset + size) rest offsets)
    ⊎ (BeginsWithNoUnit layout bytes × (offsets ≡ [])))

-- the bytes have one such list of offsets at most
abbrev pub AreUnitsOnce : OrderAndLimit → ℕ → List ℕ → Type 0
AreUnitsOnce layout offset bytes =
    (offsets others : List ℕ) → AreUnits layout offset bytes offsets
    → AreUnits layout offset bytes others → offsets ≡ others

-- the offset after a unit: its own, the size of its length, and as many bytes as that says
abbrev pub offset_after : ℕ → Header → ℕ
offset_after offset h = offset + initial_length_size h.parameters.encoding.format + h.unit_length

-- a walk through the units of a section
pub record UnitWalk : Type 0 where
  -- the whole section
  pub section : Unread
  -- what is handed in with each unit
  pub entry : UnitEntry
  -- the offsets of the units that are still to come
  pub offsets : List ℕ

-- from the offset on the section begins with a unit, and this is its header
abbrev pub SpellsUnitAt : {R Offset Endian : Type 0} → Unread → ℕ → UnitEntry
    → SeenHeader R Offset Endian → Type 0
SpellsUnitAt section offset unit_entry header =
    SpellsUnit section.layout unit_entry (drop offset section.bytes) header.meaning

-- from the offset on the section begins with no unit, and this is the refusal of the first part of
-- the header that isn't met
abbrev pub HasUnitFaultAt : Unread → ℕ → UnitEntry → Error → Type 0
HasUnitFaultAt section offset unit_entry e =
    HasUnitFault section.layout unit_entry (drop offset section.bytes) e
