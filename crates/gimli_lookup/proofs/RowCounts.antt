-- Counts that stay at a greatest number.
use Rattle.std.proofs.Common.{◌≡◌, ◌+◌, ℕ, min, ap, sym, ◌∙◌, inl, inr, arith}
use Rattle.std.proofs.lemmas.Bool.{cases_lt}
use Rattle.std.proofs.Math.Nat.{min-eq_left, min-eq_right}

pub saturated : (a b m : ℕ) → min (min a m + b) m ≡ min (a + b) m
saturated a b m = elim (cases_lt a m) [
  | inl below ↦ ap (λ (x : ℕ). min (x + b) m) (min-eq_left (omega arith))
  | inr above ↦
      ap (λ (x : ℕ). min (x + b) m) (min-eq_right above) ∙ min-eq_right (omega arith) ∙ sym (min-eq_right (omega arith))
]
