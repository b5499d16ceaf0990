-- Starts ascend as their numbers do.
use Rattle.std.proofs.Common.{◌≡◌, sym, ◌∙◌, ap, ℕ, ◌+◌, ◌<◌, ◌≤◌, Some, None, slice_get, inl, inr, arith}
use Rattle.std.proofs.lemmas.Bool.{cases_lt}
use Rattle.gimli_index.specs.Parts.{Index}
use Rattle.gimli_index.specs.Meaning.{Start, AreAscending, start_at, start_number, starts_of}
use Rattle.gimli_index.specs.inside.Numbers.{CountIsBetween, NumbersAscend}
use Rattle.gimli_index.proofs.Values.{value_at, no_value_at}

pub numbers_ascend : (index : Index) → AreAscending (starts_of index) → NumbersAscend index
numbers_ascend index ascending i j lt within =
    let before : i < index.starts = omega arith in
    let higher =
    ascending i j (start_at index i) (start_at index j) lt (value_at (start_at index) index.starts i before)
    (value_at (start_at index) index.starts j within) in
    omega (arith, higher)

-- a start that is there has an index below their number, and is the start of that
address_is : (index : Index) (i : ℕ) (x : Start) → slice_get (starts_of index) i ≡ Some x
    → (i < index.starts) × (x.address ≡ index.base + start_number index i)
address_is index i x there = elim (cases_lt i index.starts) [
  | inl within ↦
      let same : Some x ≡ Some (start_at index i) = sym there ∙ value_at (start_at index) index.starts i within in
      let here : x ≡ start_at index i = cc in
      (within, ap (λ (s : Start). s.address) here)
  | inr past ↦
      let none : Some x ≡ None = sym there ∙ no_value_at (start_at index) index.starts i past in
      absurd cc
]

pub starts_ascend : (index : Index) → NumbersAscend index → AreAscending (starts_of index)
starts_ascend index ascend i j x y lt first second =
    let one = address_is index i x first in
    let other = address_is index j y second in
    omega (arith, one.1, other.1, ascend i j lt other.0)

pub all_between : {index : Index} {number : ℕ} → CountIsBetween index number 0 index.starts
all_between = record {
  order = omega arith;
  within = omega arith;
  before = λ ascend k lt. absurd (omega (arith, lt));
  after = λ ascend k le there. absurd (omega (arith, le, there));
}

-- a start between says on which side of it the count is
module _ {index : Index} {number low high i : ℕ} (b : CountIsBetween index number low high) (from : low ≤ i)
    (to : i < high) where
  within : i < index.starts
  within = omega (arith, to, b.within)

  pub count_above : start_number index i ≤ number → CountIsBetween index number (i + 1) high
  count_above le = record {
    order = omega (arith, to);
    within = b.within;
    before = λ ascend k lt. elim (cases_lt k i) [
      | inl below ↦ omega (arith, ascend k i below within, le)
      | inr here ↦ let same : k ≡ i = omega arith in omega (arith, ap (start_number index) same, le)
    ];
    after = b.after;
  }

  pub count_below : number < start_number index i → CountIsBetween index number low i
  count_below lt = record {
    order = from;
    within = omega (arith, within);
    before = b.before;
    after = λ ascend k le there. elim (cases_lt i k) [
      | inl above ↦ omega (arith, ascend i k above there, lt)
      | inr here ↦ let same : k ≡ i = omega arith in omega (arith, ap (start_number index) same, lt)
    ];
  }
