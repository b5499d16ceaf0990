-- What starts that are the values of a function say of an address.
use Rattle.std.proofs.Common.{◌≡◌, refl, sym, ◌∙◌, ap, subst, ℕ, suc, zero, ◌+◌, ◌<◌, ◌≤◌, leb, ltb, map, Option, None}
use Rattle.std.proofs.Common.{Some}
use Rattle.std.proofs.Common.{inl, inr, arith}
use Rattle.std.specs.Prelude.{fold, nat_le, if◌then◌else◌}
use Rattle.std.specs.List.{range_with_len}
use Rattle.std.proofs.lemmas.Bool.{le-leb, le-ltb, lt-leb, lt-ltb, cond-true, cond-false, cases_lt}
use Rattle.gimli_index.specs.Meaning.{Start, place_at}
use Rattle.gimli_index.specs.Spans.{start_above, start_up_to}

module _ {X : Type 0} (says : Start → Option X) (a : ℕ) (f : ℕ → Start) where
  -- what a start says of an address, where those before it say `current`
  abbrev said_by : Option X → Start → Option X
  said_by current s = if nat_le s.address a then says s else current

  -- what starts say that have these indices
  abbrev said_from : ℕ → ℕ → Option X → Option X
  said_from n first current = fold said_by current (map f (range_with_len first n))

  all_above : (n first : ℕ) (current : Option X) → ((k : ℕ) → first ≤ k → k < first + n → a < (f k).address)
      → said_from n first current ≡ current
  all_above zero first current above = refl
  all_above (suc n) first current above =
      ap (said_from n (first + 1))
      (cond-false (leb (f first).address a) (says (f first)) current
      (lt-leb (f first).address a (above first (omega arith) (omega arith))))
      ∙ all_above n (first + 1) current (λ k le lt. above k (omega arith) (omega arith))

  last_below : (n first : ℕ) (current : Option X) (i : ℕ) → first ≤ i → i < first + n → (f i).address ≤ a
      → ((k : ℕ) → i < k → k < first + n → a < (f k).address) → said_from n first current ≡ says (f i)
  last_below zero first current i from within below above = absurd (omega arith)
  last_below (suc n) first current i from within below above = elim (cases_lt first i) [
    | inl later ↦
        last_below n (first + 1) (said_by current (f first)) i (omega arith) (omega arith) below (λ k lt within.
        above k lt (omega arith))
    | inr here ↦
        let same : i ≡ first = omega arith in
        let first_below : (f first).address ≤ a = subst (λ (k : ℕ). (f k).address ≤ a) same below in
        ap (said_from n (first + 1))
        (cond-true (leb (f first).address a) (says (f first)) current (le-leb (f first).address a first_below))
        ∙ all_above n (first + 1) (says (f first)) (λ k le within. above k (omega arith) (omega arith))
        ∙ ap (λ k. says (f k)) (sym same)
  ]

module _ (a : ℕ) (f : ℕ → Start) where
  -- nothing holds at an address below all starts
  pub none_below : (n : ℕ) → ((k : ℕ) → k < n → a < (f k).address) → place_at a (map f (range_with_len 0 n)) ≡ None
  none_below n above = all_above (λ s. s.place) a f n 0 None (λ k le lt. above k (omega arith))

  module _ (n i : ℕ) (within : i < n) (below : (f i).address ≤ a)
      (above : (k : ℕ) → i < k → k < n → a < (f k).address) where
    -- what the last start says that isn't above it
    pub last_place : place_at a (map f (range_with_len 0 n)) ≡ (f i).place
    last_place =
        last_below (λ s. s.place) a f n 0 None i (omega arith) (omega arith) below (λ k lt within.
        above k lt (omega arith))

    -- where it is
    pub last_start : start_up_to a (map f (range_with_len 0 n)) ≡ Some (f i).address
    last_start =
        last_below (λ s. Some s.address) a f n 0 None i (omega arith) (omega arith) below (λ k lt within.
        above k lt (omega arith))

  -- no start is above the address
  pub none_above : (n first : ℕ) → ((k : ℕ) → first ≤ k → k < first + n → (f k).address ≤ a)
      → start_above a (map f (range_with_len first n)) ≡ None
  none_above zero first below = refl
  none_above (suc n) first below =
      cond-false (ltb a (f first).address) (Some (f first).address)
      (start_above a (map f (range_with_len (first + 1) n)))
      (le-ltb a (f first).address (below first (omega arith) (omega arith)))
      ∙ none_above n (first + 1) (λ k le lt. below k (omega arith) (omega arith))

  -- the first one that is
  pub first_above : (n first i : ℕ) → first ≤ i → i < first + n
      → ((k : ℕ) → first ≤ k → k < i → (f k).address ≤ a) → a < (f i).address
      → start_above a (map f (range_with_len first n)) ≡ Some (f i).address
  first_above zero first i from within below above = absurd (omega arith)
  first_above (suc n) first i from within below above = elim (cases_lt first i) [
    | inl later ↦
        cond-false (ltb a (f first).address) (Some (f first).address)
        (start_above a (map f (range_with_len (first + 1) n)))
        (le-ltb a (f first).address (below first (omega arith) later))
        ∙ first_above n (first + 1) i (omega arith) (omega arith) (λ k le lt. below k (omega arith) lt) above
    | inr here ↦
        let same : first ≡ i = omega arith in
        let first_is : a < (f first).address = subst (λ (k : ℕ). a < (f k).address) (sym same) above in
        cond-true (ltb a (f first).address) (Some (f first).address)
        (start_above a (map f (range_with_len (first + 1) n))) (lt-ltb a (f first).address first_is)
        ∙ ap (λ k. Some (f k).address) same
  ]
