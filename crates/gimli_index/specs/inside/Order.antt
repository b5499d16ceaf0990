-- Where the statements of a line stand in an index.
use Rattle.std.specs.Prelude.{◌≡◌, ◌<◌, ◌≤◌, ◌+◌, ◌*◌, ◌^◌, ℕ, List, true, false, nat_lt}
use Rattle.std.specs.Prelude.{if◌then◌else◌}
use Rattle.gimli_index.specs.Lines.{addresses_left, is_of}
use Rattle.gimli_index.specs.Meaning.{path_of, source_at, statement_at, statement_from}
use Rattle.gimli_index.specs.Header.{number_at}
use Rattle.gimli_index.specs.Order.{key_of, name_at, path_number}
use Rattle.gimli_index.specs.Parts.{Index}
use Rattle.gimli_index.specs.declared.addresses.Addresses.{Addresses}

-- at a place stands the first statement of a line of the files that a path names
pub record IsFirstPlace (index : Index) (path : List ℕ) (line place : ℕ) : Type 0 where
  pub within : place < index.statements
  pub is : is_of path line (statement_at index place) ≡ true
  pub before : (k : ℕ) → k < place → is_of path line (statement_at index k) ≡ false

-- ---- the order by the numbers that stand in the bytes

-- the number of the name of the source of a statement; 0 where there is no such source
abbrev pub statement_name : Index → ℕ → ℕ
statement_name index k =
    let source = number_at 4 0 (statement_from index k) in
    if nat_lt source index.sources then name_at index source else 0

-- the key of a statement, by the name that stands in the bytes
abbrev pub key_at : Index → ℕ → ℕ
key_at index k = key_of (statement_name index k) (statement_at index k).line

-- its rank, by that key
abbrev pub rank_at : Index → ℕ → ℕ
rank_at index k = key_at index k * 2 ^ 64 + (statement_at index k).address

-- the statements up to a number don't go down
abbrev pub RanksRise : Index → ℕ → Type 0
RanksRise index count = (j k : ℕ) → j < k → k < count → rank_at index j ≤ rank_at index k

-- ---- the numbers of names

-- a source has the number of its name
abbrev pub HasRightName : Index → ℕ → Type 0
HasRightName index k = name_at index k ≡ path_number (path_of index.path_bytes (source_at index k))

-- the first sources have
abbrev pub AreNamesRight : Index → ℕ → Type 0
AreNamesRight index count = (k : ℕ) → k < count → HasRightName index k

-- ---- an answer

-- the addresses that are left of an answer, from a statement on
abbrev pub left_from : Addresses → ℕ → List ℕ
left_from found number = addresses_left (record found { next = number })
