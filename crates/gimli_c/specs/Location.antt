-- Where a unit stands: a section, how its numbers are read, and an offset.
use Rattle.std.specs.Prelude.{◌≡◌, ◌^◌, ◌⊎◌, ℕ, Bool, true, false, List, None, drop}
use Rattle.gimli_core.specs.Layout.{OrderAndLimit, Seen, layout_of}
use Rattle.gimli_core.specs.Order.{is_big_endian}
use Rattle.gimli_core.specs.declared.endian_slice.EndianSlice.{EndianSlice}
use Rattle.gimli_core.specs.declared.endianity.RunTimeEndian.{RunTimeEndian}
use Rattle.gimli_core.specs.Numbers.{is_address_size}
use Rattle.gimli_core.specs.declared.error.Error.{Error}
use Rattle.gimli_line.specs.header.Header.{Header, UnitEntry}
use Rattle.gimli_line.specs.header.HeaderGrammar.{SpellsUnit, HasUnitFault}
use Rattle.gimli_c.specs.declared.status.TheConstants.{UNSUPPORTED_ADDRESS_SIZE}
use Rattle.gimli_c.specs.Status.{error_status}

-- a section of bytes, whether the most significant byte of a number comes first, the size of
-- addresses up to version 4, and the offset of a unit
pub record Location : Type 0 where
  pub section : List ℕ
  pub is_big : Bool
  pub address_size : ℕ
  pub offset : ℕ

-- the same as one record
abbrev pub location : List ℕ → Bool → ℕ → ℕ → Location
location section is_big address_size offset =
    record { section = section; is_big = is_big; address_size = address_size; offset = offset }

-- a slice, seen as a reader: its bytes and their order
abbrev pub slice_seen : EndianSlice RunTimeEndian → Seen
slice_seen s = record { bytes = s.slice.now; is_big = is_big_endian s.endian }

-- offsets have 64 bits
abbrev pub layout_at : Location → OrderAndLimit
layout_at p = layout_of p.is_big (2 ^ 64)

-- no directory and no name is handed in
abbrev pub unit_entry_at : Location → UnitEntry
unit_entry_at p = record { address_size = p.address_size; directory = None; name = None }

-- addresses can have the size that was handed in, whatever the version of the unit is, and the
-- bytes from the offset on begin with a unit of this header
abbrev pub HasUnit : Location → Header → Type 0
HasUnit p h =
    (is_address_size p.address_size ≡ true)
    × SpellsUnit (layout_at p) (unit_entry_at p) (drop p.offset p.section) h

-- addresses can have that size, and the bytes begin with no unit; this is the number of the refusal
abbrev pub HasBadHeader : Location → ℕ → Type 0
HasBadHeader p status =
    (is_address_size p.address_size ≡ true)
    × (e : Error) × HasUnitFault (layout_at p) (unit_entry_at p) (drop p.offset p.section) e
    × (status ≡ error_status e)

-- no unit can be read there, and this is the number of the refusal; the size that was handed in
-- comes first
abbrev pub HasNoUnit : Location → ℕ → Type 0
HasNoUnit p status =
    ((is_address_size p.address_size ≡ false) × (status ≡ UNSUPPORTED_ADDRESS_SIZE))
    ⊎ HasBadHeader p status
