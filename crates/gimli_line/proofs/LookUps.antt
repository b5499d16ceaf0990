-- Looking up the entry of an index in a table that begins at 1.
use Rattle.std.specs.Prelude.{◌≡◌, ◌-◌, ◌<◌, ◌≤◌}
use Rattle.gimli_line.proofs.Common
use Common.{ℕ, zero, suc, List, Option, Some, None, refl, ap, le-leb, lt-leb, arith, map, slice_get, option_map, Bor}
use Common.{Header, entry_of, directory_of, file_of}
use Rattle.std.specs.Option.{option_copied}
use Rattle.std.proofs.lemmas.Option.{slice_get-map}

pub entry_above : {A : Type 0} (version : ℕ) (handed : Option A) (entries : List A) (i : ℕ) → version ≤ 4 → 0 < i
    → entry_of version handed entries i ≡ slice_get entries (i - 1)
entry_above version handed entries i old lt = grind (arith)

pub directory_above : (h : Header) (i : ℕ) → h.parameters.encoding.version ≤ 4 → 0 < i
    → directory_of h i ≡ slice_get h.directories (i - 1)
directory_above h i old lt = grind (arith)

pub file_above : (h : Header) (i : ℕ) → h.parameters.encoding.version ≤ 4 → 0 < i
    → file_of h i ≡ slice_get h.files (i - 1)
file_above h i old lt = grind (arith)

-- from version 5 on, every index; and index 0 up to version 4
pub entry_new : {A : Type 0} (version : ℕ) (handed : Option A) (entries : List A) (i : ℕ) → 4 < version
    → entry_of version handed entries i ≡ slice_get entries i
entry_new version handed entries i new = rw (lt-leb version 4 new) refl

pub entry_first : {A : Type 0} (version : ℕ) (handed : Option A) (entries : List A) (i : ℕ) → version ≤ 4 → i ≤ 0
    → entry_of version handed entries i ≡ handed
entry_first version handed entries zero old le = rw (le-leb version 4 old) refl
entry_first version handed entries (suc i) old le = absurd (omega arith)

pub copied_own : {A : Type 0} (found : Option (Bor A)) → option_copied found ≡ option_map (λ b. b.now) found
copied_own (Some b) = refl
copied_own None = refl

-- ---- an entry that was found, seen as a table's

module _ {A B : Type 0} (see : A → B) where
  pub lent_entry : (items : List A) (found : Option (Bor A)) (i : ℕ) → option_map (λ b. b.now) found ≡ slice_get items i
      → option_map (λ b. see b.now) found ≡ slice_get (map see items) i
  lent_entry items found i is = grind (arith, slice_get-map)

  pub copied_entry : (items : List A) (found : Option (Bor A)) (i : ℕ)
      → option_map (λ b. b.now) found ≡ slice_get items i
      → option_map see (option_copied found) ≡ slice_get (map see items) i
  copied_entry items found i is = grind (arith, slice_get-map)

  pub lent_whole : (found : Option (Bor A)) (whole : Option A) → option_copied found ≡ whole
      → option_map (λ b. see b.now) found ≡ option_map see whole
  lent_whole (Some b) whole is = ap (option_map see) is
  lent_whole None whole is = ap (option_map see) is
