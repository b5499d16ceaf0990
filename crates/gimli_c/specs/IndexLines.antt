-- From a line of a path to addresses, by an index: the rule for breakpoints of DWARF 5, section
-- 6.2.2.
use Rattle.std.specs.Prelude.{◌≡◌, ◌≢◌, ◌⊎◌, ◌<◌, ℕ, List, length}
use Rattle.gimli_index.specs.Lines.{addresses_of}
use Rattle.gimli_index.specs.Meaning.{statements_of}
use Rattle.gimli_index.specs.Order.{IsOrdered}
use Rattle.gimli_index.specs.Parts.{Index}
use Rattle.gimli_lookup.specs.Statements.{HasNoLine, IsFirstLine}
use Rattle.gimli_c.specs.declared.status.TheConstants.{NO_CODE, NO_ROOM, OK}
use Rattle.gimli_c.specs.Indexed.{IsIndex, IsNoIndex}
use Rattle.gimli_c.specs.Written.{IsPut}

-- the addresses of the first line from the asked one on that has any, of the files that a path
-- names, where the statements of the index are in order
pub record GivesIndexAddresses (bytes path : List ℕ) (asked line : ℕ) (addresses : List ℕ)
    : Type 0 where
  pub index : Index
  pub is : IsIndex bytes index
  pub is_first : IsOrdered index → IsFirstLine (addresses_of path (statements_of index)) asked line
  pub addresses_are : IsOrdered index → addresses ≡ addresses_of path (statements_of index) line

-- those addresses at the front of an array of the caller, and how many there are
abbrev pub WritesIndexAddresses : List ℕ → List ℕ → ℕ → ℕ → List ℕ → List ℕ → ℕ → Type 0
WritesIndexAddresses bytes path asked line old new count =
    (addresses : List ℕ) × GivesIndexAddresses bytes path asked line addresses
    × IsPut addresses old new × (count ≡ length addresses)

-- they are more than the array has room for
abbrev pub NeedsAddressRoom : List ℕ → List ℕ → ℕ → List ℕ → ℕ → Type 0
NeedsAddressRoom bytes path asked old count =
    (line : ℕ) × (addresses : List ℕ) × GivesIndexAddresses bytes path asked line addresses
    × (length old < length addresses) × (count ≡ length addresses)

-- no line from the asked one on has an address in the files that a path names, where the statements
-- of the index are in order
pub record HasNoIndexAddress (bytes path : List ℕ) (asked : ℕ) : Type 0 where
  pub index : Index
  pub is : IsIndex bytes index
  pub none : IsOrdered index → HasNoLine (addresses_of path (statements_of index)) asked

-- why no addresses are told: there are none, or the bytes are no index
abbrev pub HasNoAddressesIn : List ℕ → List ℕ → ℕ → ℕ → Type 0
HasNoAddressesIn bytes path asked status =
    ((status ≡ NO_CODE) × HasNoIndexAddress bytes path asked) ⊎ IsNoIndex bytes status

-- what a call does that tells a line and copies its addresses to an array of the caller, by its
-- status
pub record CopiesAddresses (bytes path : List ℕ) (asked status line_old line_new : ℕ)
    (old new : List ℕ) (count_old count_new : ℕ) : Type 0 where
  pub found : status ≡ OK → WritesIndexAddresses bytes path asked line_new old new count_new
  pub larger : status ≡ NO_ROOM → NeedsAddressRoom bytes path asked old count_new
  pub refused : status ≢ OK → status ≢ NO_ROOM → HasNoAddressesIn bytes path asked status
  pub kept : status ≢ OK → (line_new ≡ line_old) × (new ≡ old)
  pub no_count : status ≢ OK → status ≢ NO_ROOM → count_new ≡ count_old
