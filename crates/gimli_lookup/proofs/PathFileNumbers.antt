-- The indices of the files that pass a test, one after the other.
use Rattle.std.proofs.Common.{◌≡◌, ◌≢◌, ℕ, zero, suc, ◌+◌, ◌<◌, ◌≤◌, Bool, true, false, nat_eq, nat_lt, nat_le}
use Rattle.std.proofs.Common.{if◌then◌else◌, ◌&&◌, ◌||◌, List, [], ◌∷◌, ◌++◌}
use Rattle.std.proofs.Common.{length, Option, Some, None, Result, refl, sym, ap, subst, ◌∙◌, inl, inr, arith}
use Rattle.std.specs.Prelude.{slice_get}
use Rattle.std.specs.Option.{option_map_or}
use Rattle.std.proofs.lemmas.Bool.{cases_Bool, cases_lt, cases_eq, lt-ltb, le-ltb, eq-eqb, ne_eqb}
use Rattle.std.proofs.lemmas.List.{append-nil}
use Rattle.std.proofs.lemmas.List.Folds.{list_any-append}
use Rattle.std.proofs.lemmas.Option.{slice_get_past}
use Rattle.gimli_line.specs.header.File.{File}
use Rattle.gimli_line.specs.header.Header.{from_one, file_of}
use Rattle.gimli_lookup.specs.PathFiles.{is_path, has_path}
use Rattle.gimli_lookup.specs.inside.Statements.{AreBelow}
use Rattle.gimli_lookup.specs.Paths.{Paths, file_path}
use Rattle.gimli_lookup.specs.declared.path_error.PathError.{PathError}
use Rattle.gimli_lookup.specs.inside.Statements.{is_among}

same_below : (test : ℕ → Bool) (n i : ℕ) → i ≢ n → nat_lt i (n + 1) ≡ nat_lt i n
same_below test n i other = elim (cases_lt i n) [
  | inl below ↦ lt-ltb i (n + 1) (omega arith) ∙ sym (lt-ltb i n below)
  | inr above ↦ le-ltb i (n + 1) (omega arith) ∙ sym (le-ltb i n above)
]

at_number : (test : ℕ → Bool) (n : ℕ) → (nat_lt n (n + 1) && test n) ≡ test n
at_number test n = ap (λ b. b && test n) (lt-ltb n (n + 1) (omega arith))

not_before : (test : ℕ → Bool) (n : ℕ) (indices : List ℕ) → AreBelow test n indices → is_among indices n ≡ false
not_before test n indices below = below n ∙ ap (λ b. b && test n) (le-ltb n n (omega arith))

same_more : (test : ℕ → Bool) (n : ℕ) (indices : List ℕ) → AreBelow test n indices → test n ≡ false
    → AreBelow test (n + 1) indices
same_more test n indices below fails i = elim (cases_eq i n) [
  | inl same ↦ subst (λ j. is_among indices j ≡ (nat_lt j (n + 1) && test j)) (sym same)
      (not_before test n indices below ∙ sym (at_number test n ∙ fails))
  | inr other ↦ below i ∙ ap (λ b. b && test i) (sym (same_below test n i other))
]

or_true : (b : Bool) → (b || true) ≡ true
or_true true = refl
or_true false = refl

or_false : (b : Bool) → (b || false) ≡ b
or_false true = refl
or_false false = refl

one_more : (test : ℕ → Bool) (n : ℕ) (indices : List ℕ) → AreBelow test n indices → test n ≡ true
    → AreBelow test (n + 1) (indices ++ n ∷ [])
one_more test n indices below passes i = list_any-append (λ k. nat_eq k i) indices (n ∷ []) ∙ (elim (cases_eq i n) [
  | inl same ↦ ap (λ b. is_among indices i || (b || false)) (eq-eqb n i (sym same)) ∙ or_true (is_among indices i)
      ∙ sym (subst (λ j. (nat_lt j (n + 1) && test j) ≡ true) (sym same) (at_number test n ∙ passes))
  | inr other ↦
      ap (λ b. is_among indices i || (b || false)) (ne_eqb n i (λ e. other (sym e))) ∙ or_false (is_among indices i)
      ∙ below i ∙ ap (λ b. b && test i) (sym (same_below test n i other))
])

-- one more index is looked at
pub more_below : (test : ℕ → Bool) (n : ℕ) (indices : List ℕ) → AreBelow test n indices
    → AreBelow test (n + 1) (indices ++ (if test n then n ∷ [] else []))
more_below test n indices below = elim (cases_Bool (test n)) [
  | inl passes ↦
      subst (λ b. AreBelow test (n + 1) (indices ++ (if b then n ∷ [] else []))) (sym passes)
      (one_more test n indices below passes)
  | inr fails ↦ subst (λ b. AreBelow test (n + 1) (indices ++ (if b then n ∷ [] else []))) (sym fails)
      (subst (AreBelow test (n + 1)) (sym (append-nil indices)) (same_more test n indices below fails))
]

pub all_below : (test : ℕ → Bool) (n : ℕ) (indices : List ℕ) → AreBelow test n indices
    → ((i : ℕ) → n ≤ i → test i ≡ false) → (i : ℕ)
    → is_among indices i ≡ test i
all_below test n indices below none i = elim (cases_lt i n) [
  | inl lt ↦ below i ∙ ap (λ b. b && test i) (lt-ltb i n lt)
  | inr ge ↦ below i ∙ ap (λ b. b && test i) (le-ltb i n ge) ∙ sym (none i ge)
]

-- ---- no file has an index past the end of the table

past_handed : (handed : Option File) (files : List File) (i : ℕ) → length files < i → from_one handed files i ≡ None
past_handed handed files zero past = absurd (omega arith)
past_handed handed files (suc i) past = slice_get_past files i (omega arith)

pub past_entries : (up_to_4 : Bool) (handed : Option File) (files : List File) (i : ℕ) → length files < i
    → (if up_to_4 then from_one handed files i else slice_get files i) ≡ None
past_entries true handed files i past = past_handed handed files i past
past_entries false handed files i past = slice_get_past files i (omega arith)

pub no_path_past : (p : Paths) (path : List ℕ) (i : ℕ) → length p.header.files < i → has_path p path i ≡ false
no_path_past p path i past =
    ap (λ file. option_map_or (λ f. is_path path (file_path p f)) file false)
    (past_entries (nat_le p.header.parameters.encoding.version 4) p.header.comp_file p.header.files i past)

-- ---- the path of one file

pub path_at : (p : Paths) (path : List ℕ) (i : ℕ) (f : File) (whole : Result (List ℕ) PathError)
    → Some f ≡ file_of p.header i → file_path p f ≡ whole
    → has_path p path i ≡ is_path path whole
path_at p path i f whole there is =
    ap (λ o. option_map_or (λ h. is_path path (file_path p h)) o false) (sym there) ∙ ap (is_path path) is
