-- Sums that stay at the greatest number of 64 bits.
use Rattle.std.specs.Prelude.{◌≡◌, ◌+◌, ◌≤◌}
use Rattle.gimli_build.proofs
use proofs.Common
use Common.{ℕ, List, Some, slice_get, min, take, sum_by, ap, sym, ◌∙◌, inl, inr, arith}
use Rattle.std.proofs.lemmas.Bool.{cases_lt}
use Rattle.std.proofs.Math.Nat.{min-eq_left, min-eq_right}
use Rattle.std.proofs.lemmas.List.Sums.{sum_by_push}
use proofs.writing.Joined.{taken_at}

-- a further number
pub saturated : (a b m : ℕ) → min (min a m + b) m ≡ min (a + b) m
saturated a b m = elim (cases_lt a m) [
  | inl below ↦ ap (λ (x : ℕ). min (x + b) m) (min-eq_left (omega arith))
  | inr above ↦
      ap (λ (x : ℕ). min (x + b) m) (min-eq_right above) ∙ min-eq_right (omega arith) ∙ sym (min-eq_right (omega arith))
]

-- a further sum
pub both_saturated : (a b m : ℕ) → min (min a m + min b m) m ≡ min (a + b) m
both_saturated a b m = elim (cases_lt b m) [
  | inl below ↦ ap (λ (x : ℕ). min (min a m + x) m) (min-eq_left (omega arith)) ∙ saturated a b m
  | inr above ↦
      ap (λ (x : ℕ). min (min a m + x) m) (min-eq_right above) ∙ min-eq_right (omega arith)
      ∙ sym (min-eq_right (omega arith))
]

pub at_most : (a m sum : ℕ) → sum ≡ min a m → sum ≤ m
at_most a m sum is = elim (cases_lt a m) [
  | inl below ↦ let same = is ∙ min-eq_left (omega arith) in omega arith
  | inr above ↦ let same = is ∙ min-eq_right above in omega arith
]

-- ---- the sum of a list, as far as it was walked

module _ {A : Type 0} (f : A → ℕ) (xs : List A) (i : ℕ) (x : A) (m : ℕ) where
  further : slice_get xs i ≡ Some x → min (sum_by f (take i xs) + f x) m ≡ min (sum_by f (take (i + 1) xs)) m
  further there = ap (λ n. min n m) (sym (ap (sum_by f) (taken_at xs i x there) ∙ sum_by_push f (take i xs) x))

  -- the next element's number
  pub next_sum : (sum next new : ℕ) → slice_get xs i ≡ Some x → sum ≡ min (sum_by f (take i xs)) m → next ≡ f x
      → new ≡ min (sum + next) m → new ≡ min (sum_by f (take (i + 1) xs)) m
  next_sum sum next new there so own is =
      is ∙ (λ j. min (so j + own j) m) ∙ saturated (sum_by f (take i xs)) (f x) m ∙ further there

  -- or the next element's sum
  pub next_part : (sum next new : ℕ) → slice_get xs i ≡ Some x → sum ≡ min (sum_by f (take i xs)) m
      → next ≡ min (f x) m
      → new ≡ min (sum + next) m → new ≡ min (sum_by f (take (i + 1) xs)) m
  next_part sum next new there so own is =
      is ∙ (λ j. min (so j + own j) m) ∙ both_saturated (sum_by f (take i xs)) (f x) m ∙ further there
