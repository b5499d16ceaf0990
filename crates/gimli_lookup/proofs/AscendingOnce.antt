-- Numbers in ascending order, each once: such a list is told by its members alone.
use Rattle.std.proofs.Common.{◌≡◌, ◌≢◌, ℕ, zero, suc, ◌+◌, ◌<◌, ◌≤◌, Bool, true, false, nat_eq, nat_lt, ◌||◌, ◌⊎◌}
use Rattle.std.proofs.Common.{List, [], ◌∷◌, ◌++◌, length, get_or, cond, refl, sym, ap, ◌∙◌, subst, inl, inr, arith}
use Rattle.std.proofs.Common.{lt_trans}
use Rattle.std.proofs.Common.{AllPairs, Contains, IsPermutation, IsSorted, nat_cmp}
use Rattle.std.specs.List.{dedup, list_any}
use Rattle.std.specs.List.Sorted.{IsStrictlyIncreasing}
use Rattle.std.proofs.lemmas.Bool.{cases_eq, cases_order, cond_both, eqb-true, eqb-false, eq-eqb, false≢true}
use Rattle.std.proofs.lemmas.Bool.{ltb-false, ltb-true, ne_eqb, or_from, or_left}
use Rattle.std.proofs.lemmas.List.Folds.{list_any-append, Any-from_list_any, list_any_at}
use Rattle.std.proofs.lemmas.List.Kept.{AllPairs-from_increasing, Contains-dedup_nat, Contains-from_dedup}
use Rattle.std.proofs.lemmas.List.Sorted.{list_any-IsPermutation}
use Rattle.std.proofs.lemmas.Map.Keys.{IsStrictlyIncreasing-dedup}
use Rattle.gimli_lookup.specs.Statements.{put_once, ascending_once}

-- whether a number is among others
abbrev pub has : ℕ → List ℕ → Bool
has a numbers = list_any (nat_eq a) numbers

same_truth : (b c : Bool) → (b ≡ true → c ≡ true) → (c ≡ true → b ≡ true) → b ≡ c
same_truth true c there back = sym (there refl)
same_truth false true there back = absurd (false≢true (back refl))
same_truth false false there back = refl

-- ---- the same by `Contains`

pub has_from_contains : (numbers : List ℕ) (a : ℕ) → Contains numbers a → has a numbers ≡ true
has_from_contains numbers a c =
    list_any_at (nat_eq a) numbers c.0 a c.1 (eq-eqb a (get_or numbers c.0 a) (sym c.2))

pub contains_from_has : (numbers : List ℕ) (a : ℕ) → has a numbers ≡ true → Contains numbers a
contains_from_has numbers a is =
    let there = Any-from_list_any (nat_eq a) numbers is in
    subst (Contains numbers) (sym (eqb-true a there.1 there.4)) (there.0, there.2, there.3)

-- ---- ascending numbers, by recursion

-- a number is below each of others
abbrev IsBelow : ℕ → List ℕ → Type 0
IsBelow a [] = Unit {0}
IsBelow a (b ∷ bs) = (a < b) × IsBelow a bs

-- each number is below those after it
abbrev Rises : List ℕ → Type 0
Rises [] = Unit {0}
Rises (a ∷ rest) = IsBelow a rest × Rises rest

below_from : (a : ℕ) (bs : List ℕ) → ((k : ℕ) → k < length bs → a < get_or bs k 0) → IsBelow a bs
below_from a [] each = tt
below_from a (b ∷ bs) each = (each 0 (omega arith), below_from a bs (λ k inside. each (suc k) (omega arith)))

rises_from_pairs : (all : List ℕ) → AllPairs (λ x y. x < y) all → Rises all
rises_from_pairs [] each = tt
rises_from_pairs (a ∷ rest) each = (
  below_from a rest (λ k inside. each zero (suc k) 0 (omega arith) (omega arith)),
  rises_from_pairs rest (λ i j d before inside. each (suc i) (suc j) d (omega arith) (omega arith)),
)

rises_from : (all : List ℕ) → IsStrictlyIncreasing all → Rises all
rises_from all up = rises_from_pairs all (AllPairs-from_increasing all up)

increasing_from : (all : List ℕ) → Rises all → IsStrictlyIncreasing all
increasing_from [] up k inside = absurd (omega arith)
increasing_from (a ∷ []) up k inside = absurd (omega arith)
increasing_from (a ∷ b ∷ rest) up zero inside = up.0.0
increasing_from (a ∷ b ∷ rest) up (suc k) inside =
    let next : suc (k + 1) ≡ suc k + 1 = omega arith in
    subst (λ n. get_or (b ∷ rest) k 0 < get_or (a ∷ b ∷ rest) n 0) next
    (increasing_from (b ∷ rest) up.1 k (omega arith))

below_less : (a b : ℕ) (bs : List ℕ) → a < b → IsBelow b bs → IsBelow a bs
below_less a b [] less up = tt
below_less a b (c ∷ cs) less up = (lt_trans less up.0, below_less a b cs less up.1)

-- a number that isn't above one below others is none of these
not_among : (a b : ℕ) (bs : List ℕ) → a ≤ b → IsBelow b bs → has a bs ≡ false
not_among a b [] least up = refl
not_among a b (c ∷ cs) least up =
    let less = up.0 in
    or_from (nat_eq a c) (has a cs) (ne_eqb a c (λ same. omega (arith, same, less))) (not_among a b cs least up.1)

has_first : (a : ℕ) (rest : List ℕ) → has a (a ∷ rest) ≡ true
has_first a rest = or_left (nat_eq a a) (has a rest) (eq-eqb a a refl)

-- what stands behind the first of ascending numbers
same_rest : (x y : ℕ) (xs ys : List ℕ) → x ≡ y → IsBelow x xs → IsBelow y ys
    → ((a : ℕ) → has a (x ∷ xs) ≡ has a (y ∷ ys)) → (a : ℕ) → has a xs ≡ has a ys
same_rest x y xs ys first up also_up same a = elim (cases_eq a x) [
  | inl is ↦
      not_among a x xs (omega (arith, is)) up ∙ sym (not_among a y ys (omega (arith, is, first)) also_up)
  | inr isnt ↦
      sym (ap (λ b. b || has a xs) (ne_eqb a x isnt)) ∙ same a
      ∙ ap (λ b. b || has a ys) (ne_eqb a y (λ is. isnt (is ∙ sym first)))
]

not_first : (x y : ℕ) (xs ys : List ℕ) → x < y → IsBelow y ys → has x (x ∷ xs) ≡ has x (y ∷ ys) → ⊥
not_first x y xs ys less up same =
    false≢true
    (sym (or_from (nat_eq x y) (has x ys) (ne_eqb x y (λ is. omega (arith, is, less)))
    (not_among x y ys (omega (arith, less)) up))
    ∙ sym same ∙ has_first x xs)

-- ascending numbers with the same members are the same
same_rising : (xs ys : List ℕ) → Rises xs → Rises ys → ((a : ℕ) → has a xs ≡ has a ys) → xs ≡ ys
same_rising [] [] up also_up same = refl
same_rising [] (y ∷ ys) up also_up same = absurd (false≢true (same y ∙ has_first y ys))
same_rising (x ∷ xs) [] up also_up same = absurd (false≢true (sym (same x) ∙ has_first x xs))
same_rising (x ∷ xs) (y ∷ ys) up also_up same =
    by_first (cases_order x y) (λ rest. same_rising xs ys up.1 also_up.1 rest)
  where
    by_first : (x ≡ y) ⊎ ((x < y) ⊎ (y < x)) → (((a : ℕ) → has a xs ≡ has a ys) → xs ≡ ys) → x ∷ xs ≡ y ∷ ys
    by_first (inl first) rest =
        ap (λ a. a ∷ xs) first ∙ ap (λ all. y ∷ all) (rest (same_rest x y xs ys first up.0 also_up.0 same))
    by_first (inr (inl less)) rest = absurd (not_first x y xs ys less also_up.0 (same x))
    by_first (inr (inr more)) rest = absurd (not_first y x ys xs more up.0 (sym (same y)))

-- ---- one number more

or_twice : (b c : Bool) → (b || c) ≡ (b || (b || c))
or_twice true c = refl
or_twice false c = refl

or_swap : (b c d : Bool) → (b || (c || d)) ≡ (c || (b || d))
or_swap true true d = refl
or_swap true false d = refl
or_swap false c d = refl

has_put : (a b : ℕ) (cs : List ℕ) → has a (put_once b cs) ≡ (nat_eq a b || has a cs)
has_put a b [] = refl
has_put a b (c ∷ cs) =
    let Is : List ℕ → Type 0 = λ numbers. has a numbers ≡ (nat_eq a b || has a (c ∷ cs)) in
    cond_both (nat_lt b c) (b ∷ c ∷ cs) (cond (nat_eq b c) (c ∷ cs) (c ∷ put_once b cs)) Is (λ less. refl)
    (λ least. cond_both (nat_eq b c) (c ∷ cs) (c ∷ put_once b cs) Is
    (λ same. or_twice (nat_eq a c) (has a cs)
    ∙ ap (λ n. nat_eq a n || (nat_eq a c || has a cs)) (sym (eqb-true b c same)))
    (λ other. ap (λ h. nat_eq a c || h) (has_put a b cs) ∙ or_swap (nat_eq a c) (nat_eq a b) (has a cs)))

below_put : (a b : ℕ) (cs : List ℕ) → a < b → IsBelow a cs → IsBelow a (put_once b cs)
below_put a b [] less up = (less, tt)
below_put a b (c ∷ cs) less up =
    cond_both (nat_lt b c) (b ∷ c ∷ cs) (cond (nat_eq b c) (c ∷ cs) (c ∷ put_once b cs)) (IsBelow a)
    (λ first. (less, up))
    (λ least. cond_both (nat_eq b c) (c ∷ cs) (c ∷ put_once b cs) (IsBelow a) (λ same. up)
    (λ other. (up.0, below_put a b cs less up.1)))

rises_put : (b : ℕ) (cs : List ℕ) → Rises cs → Rises (put_once b cs)
rises_put b [] up = (tt, tt)
rises_put b (c ∷ cs) up =
    cond_both (nat_lt b c) (b ∷ c ∷ cs) (cond (nat_eq b c) (c ∷ cs) (c ∷ put_once b cs)) Rises
    (λ first. let less : b < c = ltb-true b c first in ((less, below_less b c cs less up.0), up))
    (λ least. cond_both (nat_eq b c) (c ∷ cs) (c ∷ put_once b cs) Rises (λ same. up)
    (λ other. let more : c < b = omega (arith, ltb-false b c least, eqb-false b c other) in
    (below_put c b cs more up.0, rises_put b cs up.1)))

rises_ascending : (numbers : List ℕ) → Rises (ascending_once numbers)
rises_ascending [] = tt
rises_ascending (a ∷ rest) = rises_put a (ascending_once rest) (rises_ascending rest)

-- ---- what `ascending_once` is

-- it has the same members
pub ascending_once_has : (a : ℕ) (numbers : List ℕ) → has a (ascending_once numbers) ≡ has a numbers
ascending_once_has a [] = refl
ascending_once_has a (b ∷ rest) =
    has_put a b (ascending_once rest) ∙ ap (λ h. nat_eq a b || h) (ascending_once_has a rest)

-- each of its numbers is below the next
pub ascending_once_rises : (numbers : List ℕ) → IsStrictlyIncreasing (ascending_once numbers)
ascending_once_rises numbers = increasing_from (ascending_once numbers) (rises_ascending numbers)

-- ascending numbers with the members of a list are those of it in ascending order, each once
pub ascending_once_is : (numbers ordered : List ℕ) → IsStrictlyIncreasing ordered
    → ((a : ℕ) → has a ordered ≡ has a numbers) → ordered ≡ ascending_once numbers
ascending_once_is numbers ordered up same =
    same_rising ordered (ascending_once numbers) (rises_from ordered up) (rises_ascending numbers)
    (λ a. same a ∙ sym (ascending_once_has a numbers))

-- they depend on the members only
pub same_ascending_once : (xs ys : List ℕ) → ((a : ℕ) → has a xs ≡ has a ys)
    → ascending_once xs ≡ ascending_once ys
same_ascending_once xs ys same =
    ascending_once_is ys (ascending_once xs) (ascending_once_rises xs) (λ a. ascending_once_has a xs ∙ same a)

pub ascending_once_permutation : (xs ys : List ℕ) → IsPermutation xs ys → ascending_once xs ≡ ascending_once ys
ascending_once_permutation xs ys moved =
    same_ascending_once xs ys (λ a. list_any-IsPermutation (nat_eq a) xs ys moved)

or_of_later : (b c : Bool) → (c ≡ true → b ≡ true) → (b || c) ≡ b
or_of_later true c already = refl
or_of_later false true already = sym (already refl)
or_of_later false false already = refl

-- numbers that are there already add none
pub ascending_once_append : (xs ys : List ℕ) → ((a : ℕ) → has a ys ≡ true → has a xs ≡ true)
    → ascending_once (xs ++ ys) ≡ ascending_once xs
ascending_once_append xs ys already =
    same_ascending_once (xs ++ ys) xs
    (λ a. list_any-append (nat_eq a) xs ys ∙ or_of_later (has a xs) (has a ys) (already a))

-- the parts of a list may be put in order first
pub ascending_once_parts : (xs ys : List ℕ)
    → ascending_once (ascending_once xs ++ ascending_once ys) ≡ ascending_once (xs ++ ys)
ascending_once_parts xs ys =
    same_ascending_once (ascending_once xs ++ ascending_once ys) (xs ++ ys)
    (λ a. list_any-append (nat_eq a) (ascending_once xs) (ascending_once ys)
    ∙ ap (λ h. h || has a (ascending_once ys)) (ascending_once_has a xs)
    ∙ ap (λ h. has a xs || h) (ascending_once_has a ys)
    ∙ sym (list_any-append (nat_eq a) xs ys))

-- sorted numbers without equal neighbours
pub ascending_once_dedup : (numbers : List ℕ) → IsSorted nat_cmp numbers
    → dedup nat_eq numbers ≡ ascending_once numbers
ascending_once_dedup numbers up =
    ascending_once_is numbers (dedup nat_eq numbers) (IsStrictlyIncreasing-dedup numbers up)
    (λ a. same_truth (has a (dedup nat_eq numbers)) (has a numbers)
    (λ is. has_from_contains numbers a
    (Contains-from_dedup nat_eq numbers a (contains_from_has (dedup nat_eq numbers) a is)))
    (λ is. has_from_contains (dedup nat_eq numbers) a (Contains-dedup_nat numbers a (contains_from_has numbers a is))))

-- ---- no number

pub ascending_once_none : (numbers : List ℕ) → ascending_once numbers ≡ [] → numbers ≡ []
ascending_once_none [] none = refl
ascending_once_none (a ∷ rest) none =
    absurd
    (false≢true
    (sym (ap (λ numbers. has a numbers) none) ∙ ascending_once_has a (a ∷ rest) ∙ has_first a rest))

pub ascending_once_some : (numbers : List ℕ) → numbers ≢ [] → ascending_once numbers ≢ []
ascending_once_some numbers some none = some (ascending_once_none numbers none)
