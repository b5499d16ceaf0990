-- The paths of an index in the making.
use Rattle.std.specs.Prelude.{◌≡◌, ◌≢◌, ◌⊎◌, ◌≤◌, ◌<◌, ◌^◌, ℕ, ◌+◌, ◌++◌, ◌∷◌, List, [], map}
use Rattle.std.specs.Prelude.{length, min, take}
use Rattle.std.specs.Prelude.{slice_get, Some, Result, Ok, Err, All, AllPairs}
use Rattle.gimli_index.specs.Short.{joined, IsSpanOf}
use Rattle.gimli_index.specs.declared.contents.Source.{Source}
use Rattle.gimli_index.specs.declared.error.MakeError.{MakeError}
use Rattle.gimli_index.specs.declared.error.MakeError.TheVariants.{NotAscending, TooManyEntries}
use Rattle.gimli_index.specs.declared.error.MakeError.TheVariants.{TooManyStatements}
use Rattle.gimli_index.specs.declared.error.MakeError.TheVariants.{TooManySources, PathsTooLarge}
use Rattle.gimli_index.specs.declared.error.MakeError.TheVariants.{IdentityTooLarge, LineTooLarge}
use Rattle.gimli_index.specs.declared.error.MakeError.TheVariants.{ColumnTooLarge, OutOfMemory}
use Rattle.gimli_index.specs.declared.place.NoPath.{NoPath}
use Rattle.gimli_index.specs.declared.place.NoPath.TheVariants.{Reason, Outside}
use Rattle.std.specs.declared.alloc.Global.{Global}
use Rattle.std.specs.declared.vec.Vec.{Vec}

-- a path as it was made, or the number of a reason
abbrev pub made_path : Result (Vec ℕ Global) ℕ → Result (List ℕ) NoPath
made_path (Ok path) = Ok path.items
made_path (Err reason) = Err (Reason reason)

-- the bytes of paths, these paths, and where each of them begins
pub record PathList : Type 0 where
  pub bytes : List ℕ
  pub known : List (List ℕ)
  pub firsts : List ℕ

-- before the first path
abbrev pub no_paths : PathList
no_paths = record { bytes = []; known = []; firsts = [] }

-- the bytes are those of the paths, each once, one after the other, and no more than a limit
pub record ArePaths (limit : ℕ) (p : PathList) : Type 0 where
  pub bytes : p.bytes ≡ joined p.known
  pub within : length p.bytes ≤ limit
  pub few : length p.bytes < 2 ^ 32
  pub count : length p.firsts ≡ length p.known
  pub firsts : (k first : ℕ) → slice_get p.firsts k ≡ Some first
      → first ≡ length (joined (take k p.known))
  pub distinct : AllPairs (λ x y. x ≢ y) p.known

-- a list goes on
abbrev pub GoesOn : {X : Type 0} → List X → List X → Type 0
GoesOn {X} old new = (more : List X) × (new ≡ old ++ more)

-- a path was there, or came last; it begins at an offset
pub record IsPlaced (limit : ℕ) (old new : PathList) (path : List ℕ) (first : ℕ) : Type 0 where
  pub are : ArePaths limit new
  pub bytes : GoesOn old.bytes new.bytes
  pub known : (new.known ≡ old.known) ⊎ (new.known ≡ old.known ++ path ∷ [])
  pub span : IsSpanOf new.known first path

-- why no path is placed: it isn't there, and the bytes of all paths would be too many
abbrev pub IsPathFault : ℕ → PathList → List ℕ → MakeError → Type 0
IsPathFault limit p path PathsTooLarge =
    All (λ x. x ≢ path) p.known × (min limit 0xffff_ffff < length p.bytes + length path + 1)
IsPathFault limit p path OutOfMemory = Unit {0}
IsPathFault limit p path NotAscending = ⊥
IsPathFault limit p path TooManyEntries = ⊥
IsPathFault limit p path TooManyStatements = ⊥
IsPathFault limit p path TooManySources = ⊥
IsPathFault limit p path IdentityTooLarge = ⊥
IsPathFault limit p path LineTooLarge = ⊥
IsPathFault limit p path ColumnTooLarge = ⊥

-- what was done with a path: it was placed for a source, or the source keeps a reason
abbrev pub IsKept : ℕ → PathList → PathList → Result (List ℕ) NoPath → Source → Type 0
IsKept limit old new (Ok path) s =
    (s.reason ≡ 0) × IsPlaced limit old new path s.first × (s.size ≡ length path)
IsKept limit old new (Err (Reason n)) s =
    (s.reason ≡ n) × (s.reason ≢ 0) × (s.first ≡ 0) × (s.size ≡ 0) × (new ≡ old)
IsKept limit old new (Err Outside) s = ⊥

-- why it wasn't
abbrev pub IsSourceFault : ℕ → PathList → Result (List ℕ) NoPath → MakeError → Type 0
IsSourceFault limit p (Ok path) e = IsPathFault limit p path e
IsSourceFault limit p (Err reason) e = ⊥
