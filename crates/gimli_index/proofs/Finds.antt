-- What the starts of an index say, by their numbers above its base.
use Rattle.std.proofs.Common.{◌≡◌, ℕ, ◌+◌, ◌-◌, ◌*◌, ◌<◌, ◌≤◌, drop, Option, Some, None, IfSome, sym, ap, ◌∙◌, arith}
use Rattle.std.proofs.Common.{inl, inr}
use Rattle.std.proofs.lemmas.Bool.{cases_lt}
use Rattle.gimli_index.specs.Parts.{Index}
use Rattle.gimli_index.specs.Meaning.{entry_place, place_at, start_at, start_number, starts_of}
use Rattle.gimli_index.specs.Ranges.{first_start}
use Rattle.gimli_index.specs.Spans.{start_up_to, HoldsAround, IsRangeOf}
use Rattle.gimli_index.specs.declared.span.PlaceSpan.{PlaceSpan}
use Rattle.gimli_index.specs.inside.Numbers.{NumbersAscend}
use Rattle.gimli_index.proofs.Places.{first_above, last_place, last_start, none_above, none_below}
use Rattle.gimli_index.proofs.Starts.{no_start, start_here}

pub below_base : (index : Index) (a : ℕ) → a < index.base → place_at a (starts_of index) ≡ None
below_base index a below = none_below a (start_at index) index.starts (λ k within. omega arith)

pub below_starts : (index : Index) (a number : ℕ) → a ≡ index.base + number
    → ((k : ℕ) → k < index.starts → number < start_number index k)
    → place_at a (starts_of index) ≡ None
below_starts index a number is above =
    none_below a (start_at index) index.starts (λ k within. omega (arith, above k within))

pub at_start : (index : Index) (a number i : ℕ) → a ≡ index.base + number → i < index.starts
    → start_number index i ≤ number
    → ((k : ℕ) → i < k → k < index.starts → number < start_number index k)
    → place_at a (starts_of index) ≡ entry_place index (drop (12 * i) index.entry_bytes)
at_start index a number i is within below above =
    last_place a (start_at index) index.starts i within (omega (arith, below)) (λ k later inside.
    omega (arith, above k later inside))

-- the starts up to one that isn't above an address aren't above it
up_to : (index : Index) (a number i : ℕ) → a ≡ index.base + number → start_number index i ≤ number
    → NumbersAscend index → (within : i < index.starts) → (k : ℕ) → k ≤ i → (start_at index k).address ≤ a
up_to index a number i is below ascend within k most = elim (cases_lt k i) [
  | inl less ↦ omega (arith, is, below, ascend k i less within)
  | inr same ↦
      let k_is : k ≡ i = omega arith in
      omega (arith, is, below, ap (start_number index) k_is)
]

start_is : (index : Index) (a number i first : ℕ) → a ≡ index.base + number → i < index.starts
    → start_number index i ≤ number
    → ((k : ℕ) → i < k → k < index.starts → number < start_number index k)
    → first ≡ (start_at index i).address → start_up_to a (starts_of index) ≡ Some first
start_is index a number i first is within below above first_said =
    last_start a (start_at index) index.starts i within (omega (arith, is, below))
    (λ k later inside. omega (arith, is, above k later inside))
    ∙ ap (λ n. Some n) (sym first_said)

-- around an address that a start comes before, the start holds up to the next one
pub holds_around : (index : Index) (a number i first : ℕ) (end : Option ℕ) → a ≡ index.base + number → i < index.starts
    → start_number index i ≤ number → NumbersAscend index
    → ((k : ℕ) → i < k → k < index.starts → number < start_number index k)
    → IsRangeOf index i first end → HoldsAround (starts_of index) a first end
holds_around index a number i first None is within below ascend above (first_said, last) = record {
  first_is = start_is index a number i first is within below above first_said;
  end_is =
      sym (none_above a (start_at index) index.starts 0 (λ k from there.
      up_to index a number i is below ascend within k (omega (arith, last, there))));
  begins = omega (arith, first_said, is, below);
  ends = tt;
  same = λ b from _.
      at_start index b (b - index.base) i (omega (arith, from, first_said)) within (omega (arith, from, first_said))
      (λ k later there.
      absurd (omega (arith, last, later, there)))
      ∙ sym (at_start index a number i is within below above);
}
holds_around index a number i first (Some e) is within below ascend above (first_said, (there, end_said)) = record {
  first_is = start_is index a number i first is within below above first_said;
  end_is =
      ap (λ n. Some n) end_said
      ∙ sym (first_above a (start_at index) index.starts 0 (i + 1) (omega arith) (omega (arith, there)) (λ k from there.
      up_to index a number i is below ascend within k (omega (arith, there)))
      (omega (arith, is, above (i + 1) (omega arith) there)));
  begins = omega (arith, first_said, is, below);
  ends = omega (arith, end_said, is, above (i + 1) (omega arith) there);
  same = λ b from to.
      let later_above : (k : ℕ) → i < k → k < index.starts → b - index.base < start_number index k =
      λ k later inside. elim (cases_lt (i + 1) k) [
        | inl more ↦ omega (arith, to, end_said, from, first_said, ascend (i + 1) k more inside)
        | inr here ↦
            let same : k ≡ i + 1 = omega arith in
            omega (arith, to, end_said, from, first_said, ap (start_number index) same)
      ] in
      at_start index b (b - index.base) i (omega (arith, from, first_said)) within (omega (arith, from, first_said))
      later_above
      ∙ sym (at_start index a number i is within below above);
}

pub found_around : (index : Index) (a number i : ℕ) (found : Option PlaceSpan) → a ≡ index.base + number
    → i < index.starts
    → start_number index i ≤ number → NumbersAscend index
    → ((k : ℕ) → i < k → k < index.starts → number < start_number index k)
    → IfSome found (λ p. IsRangeOf index i p.first p.end)
    → IfSome found (λ p. HoldsAround (starts_of index) a p.first p.end)
found_around index a number i None is within below ascend above range = tt
found_around index a number i (Some p) is within below ascend above range =
    holds_around index a number i p.first p.end is within below ascend above range

-- the end of a range is where the next start is
range_end : (index : Index) (i first : ℕ) (end : Option ℕ) → i < index.starts → IsRangeOf index i first end
    → end ≡ first_start (drop (i + 1) (starts_of index))
range_end index i first None within (first_is, last) =
    sym (ap first_start (no_start index (i + 1) (omega (arith, last))))
range_end index i first (Some e) within (first_is, (there, end_is)) =
    ap (λ n. Some n) end_is ∙ sym (ap first_start (start_here index (i + 1) there))

-- the place of a start has its range
pub place_around : (index : Index) (i first : ℕ) (end : Option ℕ) (place : Option PlaceSpan) → i < index.starts
    → first ≡ (start_at index i).address → end ≡ first_start (drop (i + 1) (starts_of index))
    → IfSome place (λ p. IsRangeOf index i p.first p.end)
    → IfSome place (λ p. (p.first ≡ first) × (p.end ≡ end))
place_around index i first end None within first_is end_is range = tt
place_around index i first end (Some p) within first_is end_is range =
    (range.0 ∙ sym first_is, range_end index i p.first p.end within range ∙ sym end_is)
