-- Sequences that cover an address: they have a pair of rows round it.
use Rattle.std.proofs.Common.{◌≡◌, ℕ, zero, suc, ◌+◌, ◌-◌, ◌<◌, ◌≤◌, Bool, true, false, leb, ltb, cond, List, [], ◌∷◌}
use Rattle.std.proofs.Common.{◌++◌, length, take, Option, None, Some}
use Rattle.std.proofs.Common.{MatchOption, refl, sym, ap, subst, ◌∙◌, inl, inr, arith}
use Rattle.std.specs.Prelude.{All, slice_get, slice_index_or}
use Rattle.std.specs.Option.{option_or}
use Rattle.std.proofs.lemmas.Bool.{and_parts, and_from, cond-true, cond-false, cases_lt, ltb-true, leb-true, lt-ltb}
use Rattle.std.proofs.lemmas.Bool.{le-leb, true≢false}
use Rattle.std.proofs.lemmas.List.{length-append, get_or-take, length-take-le}
use Rattle.std.proofs.lemmas.Option.{get_or_from_slice_get, slice_get_within}
use Rattle.gimli_line.specs.declared.run.row.LineRow.{LineRow}
use Rattle.gimli_lookup.specs.declared.steps.Step.{Step}
use Rattle.gimli_lookup.specs.inside.FirstPair.{IsPairAt, HasNoPair}
use Rattle.gimli_lookup.specs.Covering.{last_address, range, is_between, covers, covering_index, covering_probes}
use Rattle.gimli_lookup.specs.Probes.{never_go_down, binary_digits}
use Rattle.gimli_lookup.specs.Steps.{step_at, AreStepsOf}
use Rattle.gimli_lookup.specs.inside.Steps.{AreJoined}
use Rattle.gimli_lookup.proofs.Pairs.{rises}

-- ---- rows that cover an address have a pair round it, and other rows that never go down have none

has_pair : (a : ℕ) (r : LineRow) (rows : List LineRow) → r.address ≤ a → a < last_address r rows
    → HasNoPair a (r ∷ rows) → ⊥
has_pair a r [] from below none = omega arith
has_pair a r (next ∷ rows) from below none = elim (cases_lt a next.address) [
  | inl above ↦ none 0 r next (record { first = refl; second = refl; from = from; before = above })
  | inr le ↦ has_pair a next rows le below (λ k x y p. none (k + 1) x y (shifted k x y p))
]
  where
    shifted : (k : ℕ) (x y : LineRow) → IsPairAt a (next ∷ rows) k x y → IsPairAt a (r ∷ next ∷ rows) (k + 1) x y
    shifted k x y p =
        let one : k + 1 ≡ suc k = omega arith in
        let two : k + 1 + 1 ≡ suc (k + 1) = omega arith in
        record {
          first = ap (slice_get (r ∷ next ∷ rows)) one ∙ p.first;
          second = ap (slice_get (r ∷ next ∷ rows)) two ∙ p.second;
          from = p.from;
          before = p.before;
        }

pub covering_has_pair : (a : ℕ) (rows : List LineRow) → covers a rows ≡ true → HasNoPair a rows → ⊥
covering_has_pair a [] is none = true≢false (sym (and_parts (never_go_down []) false is).1)
covering_has_pair a (r ∷ rows) is none =
    let within =
    and_parts (leb r.address a) (ltb a (last_address r rows))
    (and_parts (never_go_down (r ∷ rows)) (is_between a (range (r ∷ rows))) is).1 in
    has_pair a r rows (leb-true r.address a within.0) (ltb-true a (last_address r rows) within.1) none

-- the last row's address, by its index
pub at_last : (r : LineRow) (rows : List LineRow) (d : LineRow)
    → (slice_index_or (r ∷ rows) (length rows) d).address ≡ last_address r rows
at_last r [] d = refl
at_last r (next ∷ rows) d = at_last next rows d

pair_within : (a : ℕ) (rows : List LineRow) (k : ℕ) (x y : LineRow) → never_go_down rows ≡ true → IsPairAt a rows k x y
    → covers a rows ≡ true
pair_within a [] k x y order p = absurd (omega (arith, slice_get_within [] k x p.first))
pair_within a (r ∷ rows) k x y order p =
    let inside = slice_get_within (r ∷ rows) (k + 1) y p.second in
    let first = ap (λ (row : LineRow). row.address) (get_or_from_slice_get (r ∷ rows) k x r p.first) in
    let second = ap (λ (row : LineRow). row.address) (get_or_from_slice_get (r ∷ rows) (k + 1) y r p.second) in
    let low : r.address ≤ a = omega (arith, rises (r ∷ rows) 0 k r order (omega arith) (omega arith), first, p.from) in
    let high : a < last_address r rows =
    omega (
      arith,
      rises (r ∷ rows) (k + 1) (length rows) r order (omega arith) (omega arith),
      second,
      at_last r rows r,
      p.before,
    ) in
    and_from (never_go_down (r ∷ rows)) (is_between a (range (r ∷ rows))) order
    (and_from (leb r.address a) (ltb a (last_address r rows)) (le-leb r.address a low)
    (lt-ltb a (last_address r rows) high))

pub uncovered_has_none : (a : ℕ) (rows : List LineRow) → never_go_down rows ≡ true → covers a rows ≡ false
    → HasNoPair a rows
uncovered_has_none a rows order isnt k x y p = true≢false (sym (pair_within a rows k x y order p) ∙ isnt)

pub covering_is_ordered : (a : ℕ) (rows : List LineRow) → covers a rows ≡ true → never_go_down rows ≡ true
covering_is_ordered a rows is = (and_parts (never_go_down rows) (is_between a (range rows)) is).0

-- ---- the first sequence that covers an address

by_test : (b : Bool) (n : ℕ) (o p q : Option ℕ) → o ≡ option_or p q
    → cond b (Some n) o ≡ option_or (cond b (Some n) p) q
by_test true n o p q e = refl
by_test false n o p q e = e

pub covering_append : (a first : ℕ) (xs ys : List (List LineRow))
    → covering_index a first (xs ++ ys)
    ≡ option_or (covering_index a first xs) (covering_index a (first + length xs) ys)
covering_append a first [] ys = ap (λ (n : ℕ). covering_index a n ys) (omega arith)
covering_append a first (x ∷ xs) ys =
    let same : first + 1 + length xs ≡ first + suc (length xs) = omega arith in
    by_test (covers a x) first (covering_index a (first + 1) (xs ++ ys)) (covering_index a (first + 1) xs)
    (covering_index a (first + suc (length xs)) ys)
    (covering_append a (first + 1) xs ys
    ∙ ap (λ (n : ℕ). option_or (covering_index a (first + 1) xs) (covering_index a n ys)) same)

-- the sequence at an index covers the address, and none before it does
pub record IsFirstCovering (a first : ℕ) (sequences : List (List LineRow)) (index : ℕ) : Type 0 where
  pub at_least : first ≤ index
  pub within : index - first < length sequences
  pub is : (d : List LineRow) → covers a (slice_index_or sequences (index - first) d) ≡ true
  pub none_earlier : (k : ℕ) (d : List LineRow) → k < index - first → covers a (slice_index_or sequences k d) ≡ false
  pub probes : (d : List LineRow)
      → covering_probes a sequences ≡ binary_digits (length (slice_index_or sequences (index - first) d))

pub cases_covering : (a first : ℕ) (sequences : List (List LineRow))
    → MatchOption (covering_index a first sequences) (All (λ (rows : List LineRow). covers a rows ≡ false) sequences)
    (IsFirstCovering a first sequences)
cases_covering a first [] = λ k d lt. absurd (omega arith)
cases_covering a first (rows ∷ later) =
    by_cover (covers a rows) refl (covering_index a (first + 1) later) (cases_covering a (first + 1) later)
  where
    by_cover : (b : Bool) → covers a rows ≡ b → (o : Option ℕ)
        → MatchOption o (All (λ (r : List LineRow). covers a r ≡ false) later) (IsFirstCovering a (first + 1) later)
        → MatchOption (cond b (Some first) o) (All (λ (r : List LineRow). covers a r ≡ false) (rows ∷ later))
        (IsFirstCovering a first (rows ∷ later))
    by_cover true is o h =
        let none : first - first ≡ zero = omega arith in
        record {
          at_least = omega arith;
          within = omega arith;
          is = λ d. ap (λ (k : ℕ). covers a (slice_index_or (rows ∷ later) k d)) none ∙ is;
          none_earlier = λ k d lt. absurd (omega arith);
          probes = λ d. cond-true (covers a rows) (binary_digits (length rows)) (covering_probes a later) is
              ∙ ap (λ (k : ℕ). binary_digits (length (slice_index_or (rows ∷ later) k d))) (sym none);
        }
    by_cover false isnt None h = all
      where
        all : (k : ℕ) (d : List LineRow) → k < length (rows ∷ later)
            → covers a (slice_index_or (rows ∷ later) k d) ≡ false
        all zero d lt = isnt
        all (suc k) d lt = h k d (omega arith)
    by_cover false isnt (Some index) h =
        let after : index - first ≡ suc (index - (first + 1)) = omega (arith, h.at_least) in
        record {
          at_least = omega (arith, h.at_least);
          within = omega (arith, h.within, after);
          is = λ d. ap (λ (k : ℕ). covers a (slice_index_or (rows ∷ later) k d)) after ∙ h.is d;
          none_earlier = earlier after;
          probes = λ d. cond-false (covers a rows) (binary_digits (length rows)) (covering_probes a later) isnt
              ∙ h.probes d ∙ ap (λ (k : ℕ). binary_digits (length (slice_index_or (rows ∷ later) k d))) (sym after);
        }
      where
        earlier : index - first ≡ suc (index - (first + 1)) → (k : ℕ) (d : List LineRow) → k < index - first
            → covers a (slice_index_or (rows ∷ later) k d) ≡ false
        earlier after zero d lt = isnt
        earlier after (suc k) d lt = h.none_earlier k d (omega arith)

-- no sequence before an end covers the address
abbrev pub NoneCovers : ℕ → ℕ → List (List LineRow) → Type 0
NoneCovers a end sequences = (k : ℕ) (d : List LineRow) → k < end → covers a (slice_index_or sequences k d) ≡ false

-- what holds of each sequence before an index
pub all_taken : (P : List LineRow → Type 0) (sequences : List (List LineRow)) (n : ℕ) → n ≤ length sequences
    → ((k : ℕ) (d : List LineRow) → k < n → P (slice_index_or sequences k d)) → All P (take n sequences)
all_taken P sequences n within each k d lt =
    let before : k < n = omega (arith, lt, length-take-le n sequences within) in
    subst P (sym (get_or-take n sequences k d before)) (each k d before)

-- ---- the range of rows, by their first and last

pub range_is : (rows : List LineRow) (first last : ℕ) → 0 < length rows
    → ((d : LineRow) → first ≡ (slice_index_or rows 0 d).address)
    → ((d : LineRow) → last ≡ (slice_index_or rows (length rows - 1) d).address) → Some (first, last) ≡ range rows
range_is [] first last some from to = absurd (omega arith)
range_is (r ∷ rows) first last some from to =
    let one : length (r ∷ rows) - 1 ≡ length rows = omega arith in
    let high : last ≡ last_address r rows = to r ∙ ap (λ (k : ℕ). (slice_index_or (r ∷ rows) k r).address) one
    ∙ at_last r rows r in
    ap (λ (a : ℕ). Some (a, last)) (from r) ∙ ap (λ (b : ℕ). Some (r.address, b)) high

-- ---- the steps of two parts, joined

pub joined_steps : (first : ℕ) (xs ys : List (List LineRow)) (left right steps : List Step)
    → AreStepsOf first xs left → AreStepsOf (first + length xs) ys right → AreJoined left right steps
    → AreStepsOf first (xs ++ ys) steps
joined_steps first xs ys left right steps of_left of_right joined = record {
  in_order = joined.in_order;
  value = λ a. joined.value a
      ∙ ap (λ (o : Option ℕ). option_or o (step_at a right)) (of_left.value a)
      ∙ ap (option_or (covering_index a first xs)) (of_right.value a)
      ∙ sym (covering_append a first xs ys);
  ended = joined.ended;
  few = omega (arith, joined.size, of_left.few, of_right.few, length-append xs ys);
}
