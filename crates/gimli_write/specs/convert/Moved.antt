-- What a conversion makes of the rows of its source where its map moves addresses, and what is
-- asked of the map for it: that it keeps the order in which addresses follow one another inside
-- each sequence. The past of a point is the list of the instructions before it, the nearest first.
use Rattle.std.specs.Prelude.{◌≡◌, ◌+◌, ◌-◌, ◌*◌, ◌^◌, ◌<◌, ◌≤◌, ◌&&◌, if◌then◌else◌, ◌∷◌}
use Rattle.gimli_write.specs
use specs.Prelude
use Prelude.{ℕ, Bool, true, not, List, [], map, Option, Some, is_some, option_map, option_map_or}
use Prelude.{Address, address_value, Parameters, Ins, is_end, makes_row, is_under_tombstone, row_at}
use Prelude.{ReadRow, row, Events, decoded_at, OneByOne}
use Rattle.std.specs.List.{list_any}
use Rattle.gimli_bytes.specs.declared.address.Address.TheVariants.{Constant}
use Rattle.gimli_line.specs.run.Registers.{sequence, nearest}
use specs.convert.Items.{address_operand, base_at, pending_address}
use specs.convert.Mapped.{IsReadAs, NoSequenceEndsUnderTombstone}
use specs.convert.Preparation.{encoding_of}
use specs.convert.Sources.{ToConvert}

-- a point gives a row: it makes one, and isn't under a tombstone
abbrev pub gives_row : Parameters → List Ins → Ins → Bool
gives_row parameters past i = makes_row i && not (is_under_tombstone parameters past)

-- the rows that these instructions give after a past
abbrev pub source_rows : Parameters → List Ins → List Ins → List ReadRow
source_rows parameters past [] = []
source_rows parameters past (i ∷ list) =
    if gives_row parameters past i
    then row_at parameters past i ∷ source_rows parameters (i ∷ past) list
    else source_rows parameters (i ∷ past) list

-- the address that a map sets in the place of one of the source; 0 where that is a symbol's
abbrev pub moved : (ℕ → Option Address) → ℕ → ℕ
moved convert_address a = option_map_or address_value (convert_address a) 0

module _ (convert_address : ℕ → Option Address) (parameters : Parameters) where
  -- ---- where rows go

  -- the one that is set in the place of the address that was last set in the sequence of a point;
  -- else 0
  abbrev pub moved_base : List Ins → ℕ
  moved_base past =
      nearest (λ i. option_map (moved convert_address) (address_operand i)) 0 (sequence past)

  -- where the row of a point goes: as far after it as the row is after the address of the source
  abbrev pub moved_address : List Ins → Ins → ℕ
  moved_address past i = moved_base past + ((row_at parameters past i).address - base_at past)

  -- the row of a point at its new address
  abbrev pub moved_row : List Ins → Ins → ReadRow
  moved_row past i = record (row_at parameters past i) { address = moved_address past i }

  -- those rows, each at its new address
  abbrev pub moved_rows : List Ins → List Ins → List ReadRow
  moved_rows past [] = []
  moved_rows past (i ∷ list) =
      if gives_row parameters past i then moved_row past i ∷ moved_rows (i ∷ past) list
      else moved_rows (i ∷ past) list

  -- ---- order

  -- the new address of the last row that the sequence of a point gave; 0 where it gave none
  abbrev pub moved_to : List Ins → ℕ
  moved_to [] = 0
  moved_to (i ∷ past) =
      if is_end i then 0
      else (if gives_row parameters past i then moved_address past i else moved_to past)

  -- the row of a point has a new address of this size, and the address that was set before it, if
  -- one was, isn't moved below the row that it follows, nor to one of the two greatest addresses,
  -- which stand for nothing
  pub record IsInOrder (size : ℕ) (past : List Ins) (i : Ins) : Type 0 where
    pub ahead : (a : ℕ) → pending_address past ≡ Some a
        → (moved_to past ≤ moved convert_address a)
        × (moved convert_address a < 2 ^ (8 * size) - 2)
    pub fits : moved_address past i < 2 ^ (8 * size)

  -- so is each row that these instructions give after a past
  abbrev pub AreInOrder : ℕ → List Ins → List Ins → Type 0
  AreInOrder size past [] = Unit {0}
  AreInOrder size past (i ∷ list) =
      (gives_row parameters past i ≡ true → IsInOrder size past i) × AreInOrder size (i ∷ past) list

-- ---- a source

-- the instructions of its program
abbrev pub instructions_of : ToConvert → List Ins
instructions_of s = (decoded_at s.layout s.header s.header.program).0

-- what is asked of a source and of what is handed, so that a conversion moves its rows: the map
-- keeps the order of the addresses in each sequence
pub record CanBeMoved (convert_address : ℕ → Option Address) (s : ToConvert) : Type 0 where
  pub in_order : AreInOrder convert_address s.header.parameters
      (encoding_of s.header s.given).address_size [] (instructions_of s)
  pub no_end_under_tombstone : NoSequenceEndsUnderTombstone s.layout s.header s.header.program

-- the source gives rows and no fault, and rows that are read back in this version say what these
-- say at their new addresses, one by one: an end has its new address, and any other row also all
-- its other registers, with the number that its file has now
pub record AreMovedRows (convert_address : ℕ → Option Address) (s : ToConvert) (version : ℕ)
    (file_ids : List ℕ) (back : List ReadRow) : Type 0 where
  pub events : Events s.layout s.header s.header.program
      (map row (source_rows s.header.parameters [] (instructions_of s)))
  pub same : OneByOne (IsReadAs s.header.parameters.encoding.version version file_ids)
      (moved_rows convert_address s.header.parameters [] (instructions_of s)) back

-- ---- a map that adds a number

-- each address is mapped to the one so many bytes further on
abbrev pub AddsToEach : ℕ → (ℕ → Option Address) → Type 0
AddsToEach n convert_address = (a : ℕ) → convert_address a ≡ Some (Constant (a + n))

-- a row so many bytes further on
abbrev pub shifted : ℕ → ReadRow → ReadRow
shifted n r = record r { address = r.address + n }

-- the sequence of a point sets an address before it
abbrev pub sets_address : List Ins → Bool
sets_address past = list_any (λ i. is_some (address_operand i)) (sequence past)

-- each row that these instructions give after a past stands after a set address in its sequence,
-- and its address can be so many bytes further on: it is then of this size, and none of the two
-- greatest
abbrev pub HaveSpace : Parameters → ℕ → ℕ → List Ins → List Ins → Type 0
HaveSpace parameters n size past [] = Unit {0}
HaveSpace parameters n size past (i ∷ list) =
    (gives_row parameters past i ≡ true → (sets_address past ≡ true)
    × ((row_at parameters past i).address + n < 2 ^ (8 * size) - 2))
    × HaveSpace parameters n size (i ∷ past) list

-- what is asked of a source and of what is handed, so that a conversion moves all of its rows by so
-- many bytes
pub record CanBeShifted (n : ℕ) (convert_address : ℕ → Option Address) (s : ToConvert)
    : Type 0 where
  pub adds : AddsToEach n convert_address
  pub space : HaveSpace s.header.parameters n (encoding_of s.header s.given).address_size []
      (instructions_of s)
  pub no_end_under_tombstone : NoSequenceEndsUnderTombstone s.layout s.header s.header.program
