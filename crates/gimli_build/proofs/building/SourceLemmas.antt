-- The first source of files, and whether one has none, looked for from the first file on.
use Rattle.std.specs.Prelude.{◌≡◌, ◌+◌, ◌||◌, ◌∷◌, ◌≤◌, ◌<◌}
use Rattle.gimli_build.proofs
use proofs.Common
use Common.{ℕ, Bool, true, false, List, [], drop, slice_get, refl, sym, ap, ◌∙◌, Option, Some, None, option_map, zero}
use Common.{suc, length, arith, is_none, list_any, LineText, File, text_form, first_form, path_texts, sources}
use Common.{needs_empty, texts_after, Contains, slice_index_or, StringTables, Built, CanWrite}
use proofs.writing.Joined.{next_at}
use proofs.reading.ReadyTexts.{within_after}

module _ {A : Type 0} (test : A → Bool) (xs : List A) (i : ℕ) where
  any_next : (x : A) → slice_get xs i ≡ Some x → list_any test (drop i xs) ≡ list_any test xs
      → list_any test xs ≡ (test x || list_any test (drop (i + 1) xs))
  any_next x at so = grind (arith, next_at)

  -- an element has it
  pub any_found : (x : A) → slice_get xs i ≡ Some x → list_any test (drop i xs) ≡ list_any test xs → test x ≡ true
      → list_any test xs ≡ true
  any_found x at so is = any_next x at so ∙ ap (λ b. b || list_any test (drop (i + 1) xs)) is

  -- an element hasn't
  pub any_passed : (x : A) → slice_get xs i ≡ Some x → list_any test (drop i xs) ≡ list_any test xs → test x ≡ false
      → list_any test (drop (i + 1) xs) ≡ list_any test xs
  any_passed x at so is = sym (any_next x at so ∙ ap (λ b. b || list_any test (drop (i + 1) xs)) is)

module _ (files : List File) (i : ℕ) where
  found : Option LineText → List LineText → List LineText
  found (Some t) rest = t ∷ rest
  found None rest = rest

  sources_next : (f : File) → slice_get files i ≡ Some f → sources (drop i files) ≡ sources files
      → sources files ≡ found f.1.source (sources (drop (i + 1) files))
  unfolding found
  sources_next f at so = grind (arith, next_at, found)

  -- the first source
  pub source_found : (f : File) (t : LineText) → slice_get files i ≡ Some f → sources (drop i files) ≡ sources files
      → f.1.source ≡ Some t
      → text_form t ≡ first_form (sources files)
  unfolding found
  source_found _ _ at so is = sym
      (ap first_form (sources_next _ at so ∙ ap (λ o. found o (sources (drop (i + 1) files))) is))

  -- a file without one
  pub source_passed : (f : File) → slice_get files i ≡ Some f → sources (drop i files) ≡ sources files
      → f.1.source ≡ None
      → sources (drop (i + 1) files) ≡ sources files
  unfolding found
  source_passed _ at so is = sym (sources_next _ at so ∙ ap (λ o. found o (sources (drop (i + 1) files))) is)

-- the first path
pub first_path : (files : List File) (f : File) → slice_get files 0 ≡ Some f
    → text_form f.0.0 ≡ first_form (path_texts files)
first_path [] f at = cc
first_path (g ∷ files) f at = grind arith

-- whether a text is none, seen by a function
pub none_seen : {A B : Type 0} (f : A → B) (o : Option A) → is_none (option_map f o) ≡ is_none o
none_seen f o = grind arith

-- ---- what is there stays

-- a program that could be written can be written then
pub can-write-after : (p : Built) (texts : StringTables) → CanWrite p texts → CanWrite p (texts_after p texts)
can-write-after _ _ can = grind (arith, within_after)

-- ---- where it is needed

any-at : {A : Type 0} (test : A → Bool) (xs : List A) (i : ℕ) (x : A) → i < length xs → slice_index_or xs i x ≡ x
    → test x ≡ true → list_any test xs ≡ true
any-at test [] i x lt at is = absurd (omega arith)
any-at test (y ∷ xs) zero x lt at is = grind arith
any-at test (y ∷ xs) (suc i) x lt at is = ap (λ b. test y || b) (any-at test xs i x (omega arith) at is) ∙ by _
  where
    by : (b : Bool) → (b || true) ≡ true
    by true = refl
    by false = refl

-- a file has no source
pub needs-empty : (p : Built) (f : File) → 5 ≤ p.encoding.version → Contains p.files f → p.file_has_source ≡ true
    → f.1.source ≡ None
    → needs_empty p ≡ true
needs-empty p f new there has without = grind (arith, any-at)
