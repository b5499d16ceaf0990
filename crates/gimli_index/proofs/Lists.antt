-- Lists that go on, and paths in bytes that do.
use Rattle.std.proofs.Common.{◌≡◌, ◌⊎◌, ℕ, zero, suc, ◌+◌, ◌-◌, ◌<◌, ◌≤◌, Bool, true, false, cond, if◌then◌else◌, List}
use Rattle.std.proofs.Common.{[], ◌∷◌, ◌++◌, length, take, drop}
use Rattle.std.proofs.Common.{Ok, Err, Option, None, Some, refl, sym, ap, ◌∙◌, inl, inr, arith, append_assoc}
use Rattle.std.proofs.Common.{length-append, subst}
use Rattle.std.specs.Option.{option_map_or}
use Rattle.std.specs.Prelude.{slice_get, slice_range, nat_eq, All}
use Rattle.std.proofs.lemmas.Bool.{cases_lt}
use Rattle.std.proofs.lemmas.Bool.Decides.{nat_tests}
use Rattle.std.proofs.lemmas.List.Elements.{All-get_or}
use Rattle.std.proofs.lemmas.Option.{slice_get_cases, slice_get_within}
use Rattle.gimli_index.specs.Contents.{source_path}
use Rattle.gimli_index.specs.Meaning.{path_in}
use Rattle.gimli_index.specs.declared.contents.Source.{Source}
use Rattle.gimli_index.specs.declared.place.NoPath.TheVariants.{Outside, Reason}
use Rattle.gimli_index.proofs.Slices.{after_bytes, first_bytes}

-- ---- lists that go on

pub get_before : {X : Type 0} (xs ys : List X) (k : ℕ) (x : X) → slice_get xs k ≡ Some x
    → slice_get (xs ++ ys) k ≡ Some x
get_before [] ys k x there = absurd cc
get_before (z ∷ xs) ys zero x there = there
get_before (z ∷ xs) ys (suc k) x there = get_before xs ys k x there

pub get_inside : {X : Type 0} (xs : List X) (k : ℕ) → k < length xs → (x : X) × (slice_get xs k ≡ Some x)
get_inside [] k lt = absurd (omega arith)
get_inside (z ∷ xs) zero lt = (z, refl)
get_inside (z ∷ xs) (suc k) lt = get_inside xs k (omega arith)

pub get_last : {X : Type 0} (xs : List X) (y : X) → slice_get (xs ++ y ∷ []) (length xs) ≡ Some y
get_last [] y = refl
get_last (x ∷ xs) y = get_last xs y

pub get_seam : {X : Type 0} (xs : List X) (y : X) (ys : List X) → slice_get (xs ++ y ∷ ys) (length xs) ≡ Some y
get_seam [] y ys = refl
get_seam (x ∷ xs) y ys = get_seam xs y ys

pub get_pushed : {X : Type 0} (xs : List X) (y : X) (k : ℕ) (x : X) → slice_get (xs ++ y ∷ []) k ≡ Some x
    → (slice_get xs k ≡ Some x) ⊎ ((k ≡ length xs) × (y ≡ x))
get_pushed [] y zero x there = let same : y ≡ x = cc in inr (refl, same)
get_pushed [] y (suc k) x there = absurd cc
get_pushed (z ∷ xs) y zero x there = inl there
get_pushed (z ∷ xs) y (suc k) x there = elim (get_pushed xs y k x there) [
  | inl before ↦ inl before
  | inr last ↦ inr (ap suc last.0, last.1)
]

-- what holds of all elements holds of one
pub at_index : {X : Type 0} (P : X → Type 0) (xs : List X) (i : ℕ) (x : X) → slice_get xs i ≡ Some x → All P xs → P x
at_index P xs i x there all = elim ((slice_get_cases xs i).1) [
  | inl found ↦
      let both : Some found.0 ≡ Some x = sym found.2 ∙ there in
      let same : found.0 ≡ x = cc in
      subst P (found.3 ∙ same) (All-get_or P xs i found.0 found.1 all)
  | inr past ↦
      let both : None ≡ Some x = sym past.1 ∙ there in
      absurd cc
]

-- ---- paths

path_ended : (paths : List ℕ) (first size : ℕ) → (path_in paths first size ≡ Err Outside → ⊥)
    → slice_get paths (first + size) ≡ Some 0
path_ended paths first size inside = by_byte (slice_get paths (first + size)) inside
  where
    by_byte : (o : Option ℕ)
        → (cond (option_map_or (nat_eq 0) o false) (Ok (slice_range paths first (first + size))) (Err Outside)
        ≡ Err Outside
        → ⊥)
        → o ≡ Some 0
    by_byte None h = absurd (h refl)
    by_byte (Some zero) h = refl
    by_byte (Some (suc n)) h =
        let other : nat_eq 0 (suc n) ≡ false = grind (arith, nat_tests) in
        absurd (h (ap (λ (b : Bool). cond b (Ok (slice_range paths first (first + size))) (Err Outside)) other))

pub path_there : (paths : List ℕ) (first size : ℕ) → slice_get paths (first + size) ≡ Some 0
    → path_in paths first size ≡ Ok (slice_range paths first (first + size))
path_there paths first size ended =
    ap
    (λ (o : Option ℕ). if option_map_or (nat_eq 0) o false then Ok (slice_range paths first (first + size))
    else Err Outside)
    ended

take_none : (xs : List ℕ) → take 0 xs ≡ []
take_none [] = refl
take_none (x ∷ xs) = refl

take_before : (xs ys : List ℕ) (n : ℕ) → n ≤ length xs → take n (xs ++ ys) ≡ take n xs
take_before xs ys zero le = take_none (xs ++ ys) ∙ sym (take_none xs)
take_before [] ys (suc n) le = absurd (omega arith)
take_before (x ∷ xs) ys (suc n) le = ap (λ (zs : List ℕ). x ∷ zs) (take_before xs ys n (omega arith))

part_before : (xs ys : List ℕ) (first n : ℕ) → first + n ≤ length xs
    → take n (drop first (xs ++ ys)) ≡ take n (drop first xs)
part_before xs ys first zero le = take_none (drop first (xs ++ ys)) ∙ sym (take_none (drop first xs))
part_before [] ys first (suc n) le = absurd (omega arith)
part_before (x ∷ xs) ys zero (suc n) le = take_before (x ∷ xs) ys (suc n) (omega arith)
part_before (x ∷ xs) ys (suc first) (suc n) le = part_before xs ys first (suc n) (omega arith)

range_before : (xs ys : List ℕ) (first end : ℕ) → end ≤ length xs
    → slice_range (xs ++ ys) first end ≡ slice_range xs first end
range_before xs ys first end le = elim (cases_lt end first) [
  | inl none ↦
      let zero_is : end - first ≡ 0 = omega arith in
      ap (λ (n : ℕ). take n (drop first (xs ++ ys))) zero_is ∙ take_none (drop first (xs ++ ys))
      ∙ sym (take_none (drop first xs))
      ∙ sym (ap (λ (n : ℕ). take n (drop first xs)) zero_is)
  | inr some ↦ part_before xs ys first (end - first) (omega arith)
]

pub append_none : {X : Type 0} (xs : List X) → xs ++ [] ≡ xs
append_none [] = refl
append_none {X} (x ∷ xs) = ap (λ (ys : List X). x ∷ ys) (append_none xs)

pub path_goes_on_at : (paths more : List ℕ) (first size : ℕ) → slice_get paths (first + size) ≡ Some 0
    → path_in (paths ++ more) first size ≡ path_in paths first size
path_goes_on_at paths more first size ended =
    path_there (paths ++ more) first size (get_before paths more (first + size) 0 ended)
    ∙ ap (λ (p : List ℕ). Ok p)
    (range_before paths more first (first + size) (omega (arith, slice_get_within paths (first + size) 0 ended)))
    ∙ sym (path_there paths first size ended)

path_goes_on : (paths more : List ℕ) (first size : ℕ) → (path_in paths first size ≡ Err Outside → ⊥)
    → path_in (paths ++ more) first size ≡ path_in paths first size
path_goes_on paths more first size inside = path_goes_on_at paths more first size (path_ended paths first size inside)

pub source_goes_on : (paths more : List ℕ) (s : Source) → (source_path paths s ≡ Err Outside → ⊥)
    → source_path (paths ++ more) s ≡ source_path paths s
source_goes_on paths more s inside = by_reason (nat_eq s.reason 0) inside
  where
    by_reason : (b : Bool) → (cond b (path_in paths s.first s.size) (Err (Reason s.reason)) ≡ Err Outside → ⊥)
        → cond b (path_in (paths ++ more) s.first s.size) (Err (Reason s.reason))
        ≡ cond b (path_in paths s.first s.size) (Err (Reason s.reason))
    by_reason true h = path_goes_on paths more s.first s.size h
    by_reason false h = refl

-- a path that was appended, with a zero byte after it
pub zero_appended : (paths path : List ℕ) → slice_get (paths ++ (path ++ 0 ∷ [])) (length paths + length path) ≡ Some 0
zero_appended paths path =
    sym (ap (λ (xs : List ℕ). slice_get xs (length paths + length path)) (append_assoc paths path (0 ∷ [])))
    ∙ ap (λ (n : ℕ). slice_get ((paths ++ path) ++ 0 ∷ []) n) (sym (length-append paths path))
    ∙ get_last (paths ++ path) 0

pub path_appended : (paths path : List ℕ) → path_in (paths ++ (path ++ 0 ∷ [])) (length paths) (length path) ≡ Ok path
path_appended paths path =
    path_there (paths ++ (path ++ 0 ∷ [])) (length paths) (length path) (zero_appended paths path)
    ∙ ap (λ (p : List ℕ). Ok p)
    (after_bytes paths (path ++ 0 ∷ []) (length paths) (length paths + length path) 0 (length path) (omega arith) refl
    ∙ first_bytes path (0 ∷ []) (length path) refl)
