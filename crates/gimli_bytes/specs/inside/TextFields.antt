-- The fields of a string table.
use Rattle.std.specs.Prelude.{◌≡◌, ◌<◌, ℕ, List, length, map, get_or}
use Rattle.std.specs.declared.vec.Vec.{Vec}
use Rattle.std.specs.declared.alloc.Global.{Global}
use Rattle.gimli_bytes.specs.Texts.{AreTexts, byte_count, offset_of}

-- the texts, without where they lie
abbrev pub texts_of : List (Vec ℕ Global) → List (List ℕ)
texts_of keys = map (λ v. v.items) keys

-- what the fields of a table keep: its texts, where each begins, and the number of bytes that they
-- are written as
pub record IsInside (texts : List (List ℕ)) (offsets : List ℕ) (len : ℕ) : Type 0 where
  pub are_texts : AreTexts texts
  pub listed : length offsets ≡ length texts
  pub begins : (i d : ℕ) → i < length texts → get_or offsets i d ≡ offset_of texts i
  pub counted : len ≡ byte_count texts
