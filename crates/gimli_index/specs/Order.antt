-- The order of the statements of an index: by the names of their files, of one name by their lines,
-- and of one line by their addresses (docs/reference/INDEX.md, "Statements").
use Rattle.std.specs.Prelude.{◌≡◌, ◌<◌, ℕ, ◌+◌, ◌*◌, ◌%◌, ◌^◌, List, [], ◌∷◌, fold, min, Result}
use Rattle.std.specs.Prelude.{Ok, Err}
use Rattle.std.specs.List.Sorted.{IsNonDecreasingBy}
use Rattle.gimli_lookup.specs.Components.{components}
use Rattle.gimli_index.specs.Meaning.{Statement, path_of, source_at, statements_of}
use Rattle.gimli_index.specs.Header.{number_at}
use Rattle.gimli_index.specs.Parts.{Index}
use Rattle.gimli_index.specs.declared.place.NoPath.{NoPath}

-- the number of a name, in 31 bits
abbrev pub name_number : List ℕ → ℕ
name_number name = fold (λ n byte. (n * 31 + byte) % 2 ^ 31) 0 name

-- the number of the name of a file, which is the last component of its path; 0 where there is none
abbrev pub last_number : List (List ℕ) → ℕ
last_number [] = 0
last_number (name ∷ before) = name_number name

-- the number of the name of a path; 0 where there is no path
abbrev pub path_number : Result (List ℕ) NoPath → ℕ
path_number (Ok path) = last_number (components path)
path_number (Err e) = 0

-- a key: the number of a name, and below it a line in 32 bits
abbrev pub key_of : ℕ → ℕ → ℕ
key_of name line = name * 2 ^ 32 + min line 0xffff_ffff

-- where a statement comes among others: by its key, and below it by its address
abbrev pub rank_of : Statement → ℕ
rank_of s = key_of (path_number s.path) s.line * 2 ^ 64 + s.address

-- no statement comes before one that stands before it
abbrev pub AreOrdered : List Statement → Type 0
AreOrdered statements = IsNonDecreasingBy rank_of statements

-- the number of the name of a source, as it stands in its bytes
abbrev pub name_at : Index → ℕ → ℕ
name_at index k = number_at 4 20 (source_at index k)

-- each source has the number of its name, and the statements are in order
pub record IsOrdered (index : Index) : Type 0 where
  pub names : (k : ℕ) → k < index.sources
      → name_at index k ≡ path_number (path_of index.path_bytes (source_at index k))
  pub statements : AreOrdered (statements_of index)
