-- An index that is sound: its starts ascend, its paths are inside, and its statements are in order.
use Rattle.std.specs.Prelude.{◌≡◌, ℕ, ◌<◌, Err}
use Rattle.gimli_index.specs.Parts.{Index}
use Rattle.gimli_index.specs.Meaning.{AreAscending, starts_of, path_of, source_at}
use Rattle.gimli_index.specs.Order.{IsOrdered}
use Rattle.gimli_index.specs.declared.error.IndexError.{IndexError}
use Rattle.gimli_index.specs.declared.error.IndexError.TheVariants.{NotAscending, NotInOrder}
use Rattle.gimli_index.specs.declared.error.IndexError.TheVariants.{PathOutside}
use Rattle.gimli_index.specs.declared.place.NoPath.TheVariants.{Outside}

-- the path of each source is in the bytes of paths, with a zero byte after it, or has a reason
abbrev pub ArePathsInside : Index → Type 0
ArePathsInside index =
    (k : ℕ) → k < index.sources → path_of index.path_bytes (source_at index k) ≡ Err Outside → ⊥

-- an index that is sound
pub record IsSound (index : Index) : Type 0 where
  pub ascending : AreAscending (starts_of index)
  pub inside : ArePathsInside index
  pub ordered : IsOrdered index

-- why an index isn't sound
abbrev pub IsFaultOf : Index → IndexError → Type 0
IsFaultOf index NotAscending = AreAscending (starts_of index) → ⊥
IsFaultOf index PathOutside = ArePathsInside index → ⊥
IsFaultOf index NotInOrder = IsOrdered index → ⊥
IsFaultOf index e = ⊥
