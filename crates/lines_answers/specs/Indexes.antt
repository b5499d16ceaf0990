-- Indexes of lines, and what names them.
use Rattle.std.specs.Prelude.{◌≡◌, ◌≢◌, ◌≤◌, ◌<◌, ◌-◌, ◌⊎◌, ℕ, List, Option, None}
use Rattle.std.specs.Prelude.{Some, Ok, Err, IsTrue, MatchOption}
use Rattle.std.specs.Option.{option_map_or}
use Rattle.sha2.specs.Sha256.{sha256}
use Rattle.gimli_index.specs.Meaning.{Place, place_at, starts_of}
use Rattle.gimli_index.specs.Parts.{Index, index_at}
use Rattle.gimli_index.specs.Sound.{IsFaultOf, IsSound}
use Rattle.lines_answers.specs.declared.opened_index.IndexFault.{IndexFault}
use Rattle.lines_answers.specs.declared.opened_index.IndexFault.TheVariants.{Index as Bytes, Stale}

-- what names a program in its index: its build id, or where it has none, the SHA-256 of its line
-- programs
abbrev pub identity : Option (List ℕ) → List ℕ → List ℕ
identity build_id lines = option_map_or (λ id. id) build_id (sha256 lines)

-- an index isn't that of the program with this identity, where one is known
abbrev pub IsStale : Index → Option (List ℕ) → Type 0
IsStale index own = MatchOption own ⊥ (λ id. index.identity ≢ id)

-- the index that bytes begin with, which is sound, and that of the program
pub record IsAsked (bytes : List ℕ) (own : Option (List ℕ)) (index : Index) : Type 0 where
  pub is_read : index_at bytes ≡ Ok index
  pub sound : IsSound index
  pub fresh : IsStale index own → ⊥

-- why these bytes aren't asked
abbrev pub IsRefused : List ℕ → Option (List ℕ) → IndexFault → Type 0
IsRefused bytes own (Bytes e) =
    (index_at bytes ≡ Err e) ⊎ ((index : Index) × (index_at bytes ≡ Ok index) × IsFaultOf index e)
IsRefused bytes own Stale =
    (index : Index) × (index_at bytes ≡ Ok index) × IsStale index own
