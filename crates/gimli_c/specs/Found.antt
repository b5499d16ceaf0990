-- What a look-up in a unit's program returns.
use Rattle.std.specs.Prelude.{◌≡◌, ◌≢◌, ◌⊎◌, ℕ, false, List, None, Some}
use Rattle.gimli_core.specs.Numbers.{is_address_size}
use Rattle.gimli_core.specs.declared.error.Error.{Error}
use Rattle.gimli_line.specs.declared.run.row.LineRow.{LineRow}
use Rattle.gimli_line.specs.header.Header.{Header}
use Rattle.gimli_line.specs.run.Sequences.{HasFirstFault}
use Rattle.gimli_lookup.specs.FirstPair.{first_pair_of}
use Rattle.gimli_lookup.specs.Run.{AreRowsOfSequences}
use Rattle.gimli_c.specs.declared.row.GimliRow.{GimliRow}
use Rattle.gimli_c.specs.declared.status.TheConstants.{NO_ROW, OK, OUT_OF_MEMORY}
use Rattle.gimli_c.specs.declared.status.TheConstants.{UNSUPPORTED_ADDRESS_SIZE}
use Rattle.gimli_c.specs.Location.{Location, layout_at, HasUnit, HasNoUnit}
use Rattle.gimli_c.specs.Seen.{row_seen}
use Rattle.gimli_c.specs.Status.{error_status}

-- the program of the unit at the location gives rows and no fault, and these are the rows of each
-- of its sequences
pub record HasSequences (p : Location) (rows : List (List LineRow)) : Type 0 where
  pub header : Header
  pub unit : HasUnit p header
  pub are : AreRowsOfSequences (layout_at p) header rows

-- the first two rows that cover the address
pub record GivesPair (p : Location) (address : ℕ) (first second : GimliRow) : Type 0 where
  pub rows : List (List LineRow)
  pub sequences : HasSequences p rows
  pub x : LineRow
  pub y : LineRow
  pub is_first : Some (x, y) ≡ first_pair_of address rows
  pub first_is : first ≡ row_seen x
  pub second_is : second ≡ row_seen y

-- no rows cover the address
pub record GivesNoPair (p : Location) (address : ℕ) : Type 0 where
  pub rows : List (List LineRow)
  pub sequences : HasSequences p rows
  pub none : None ≡ first_pair_of address rows

-- the run of the unit's program has a fault, and this is the number of the first
pub record HasFault (p : Location) (status : ℕ) : Type 0 where
  pub header : Header
  pub unit : HasUnit p header
  pub fault : Error
  pub first : HasFirstFault (layout_at p) header fault
  pub status_is : status ≡ error_status fault

-- nothing can be looked up at the location, since it has no unit, or the run of its program has a
-- fault; this is the number
abbrev pub HasNoSequences : Location → ℕ → Type 0
HasNoSequences p status = HasNoUnit p status ⊎ HasFault p status

-- what a look-up in the unit at a location answers, by its status: the two rows, or nothing was
-- written, since no rows cover the address, or nothing can be looked up there
pub record AnswersRow (p : Location) (address status : ℕ)
    (first_old first_new second_old second_new : GimliRow) : Type 0 where
  pub found : status ≡ OK → GivesPair p address first_new second_new
  pub none : status ≡ NO_ROW → GivesNoPair p address
  pub refused : status ≢ OK → status ≢ NO_ROW → status ≢ OUT_OF_MEMORY → HasNoSequences p status
  pub size : is_address_size p.address_size ≡ false → status ≡ UNSUPPORTED_ADDRESS_SIZE
  pub kept : status ≢ OK → (first_new ≡ first_old) × (second_new ≡ second_old)
