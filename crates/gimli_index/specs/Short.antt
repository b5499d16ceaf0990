-- What keeps an index short: no two starts side by side say the same, and each path stands once.
use Rattle.std.specs.Prelude.{◌≡◌, ◌≢◌, ◌+◌, ◌++◌, ◌∷◌, [], ℕ, List, flat_map, length, take}
use Rattle.std.specs.Prelude.{slice_get}
use Rattle.std.specs.Prelude.{None, Some, AllPairs}
use Rattle.gimli_index.specs.Contents.{Contents}
use Rattle.gimli_index.specs.Meaning.{Start}
use Rattle.gimli_index.specs.declared.contents.Source.{Source}

-- the first start isn't a gap, and no start says what the one before it says
pub record IsShort (starts : List Start) : Type 0 where
  pub first : (s : Start) → slice_get starts 0 ≡ Some s → s.place ≢ None
  pub merged : (k : ℕ) (s t : Start) → slice_get starts k ≡ Some s
      → slice_get starts (k + 1) ≡ Some t → s.place ≢ t.place

-- paths, one after the other, each with a zero byte after it
abbrev pub joined : List (List ℕ) → List ℕ
joined paths = flat_map (λ path. path ++ 0 ∷ []) paths

-- a path is one of these, and begins at an offset among their bytes
abbrev pub IsSpanOf : List (List ℕ) → ℕ → List ℕ → Type 0
IsSpanOf paths first path =
    (k : ℕ) × (slice_get paths k ≡ Some path) × (first ≡ length (joined (take k paths)))

-- the bytes of paths are these paths, no two of which are the same, and each source names one
pub record HasPathsOnce (c : Contents) : Type 0 where
  pub paths : List (List ℕ)
  pub bytes : c.paths ≡ joined paths
  pub distinct : AllPairs (λ x y. x ≢ y) paths
  pub spans : (k : ℕ) (s : Source) → slice_get c.sources k ≡ Some s → s.reason ≡ 0
      → (path : List ℕ) × IsSpanOf paths s.first path × (s.size ≡ length path)
