-- Numbers that never go down, without those that are the same as the one before them.
use Rattle.std.proofs.Common.{◌≡◌, ◌≤◌, ℕ, Bool, true, false, cond, nat_eq, nat_lt, List, [], ◌∷◌}
use Rattle.std.proofs.Common.{Some, None, refl, sym, ap, ◌∙◌, arith}
use Rattle.std.proofs.lemmas.Bool.{eq-eqb, eqb-false, eqb-true, false≢true, ltb-false, ltb-true}
use Rattle.gimli_lookup.specs.Statements.{ascending_once, put_once}
use Rattle.gimli_index.specs.Lines.{without_repeats}

-- a number is at most the first of others
abbrev pub IsLow : ℕ → List ℕ → Type 0
IsLow a [] = Unit {0}
IsLow a (b ∷ bs) = a ≤ b

-- no number is below the one before it
abbrev pub Climbs : List ℕ → Type 0
Climbs [] = Unit {0}
Climbs (a ∷ rest) = IsLow a rest × Climbs rest

-- a number that is at most the first of others is put before them, or is the first of them
put_low : (a : ℕ) (rest : List ℕ) → IsLow a rest
    → put_once a (without_repeats None rest) ≡ a ∷ without_repeats (Some a) rest
put_low a [] low = refl
put_low a (b ∷ bs) low = by_tests (nat_lt a b) (nat_eq a b) (nat_eq b a) refl refl refl
  where
    by_tests : (less same back : Bool) → nat_lt a b ≡ less → nat_eq a b ≡ same → nat_eq b a ≡ back
        → cond less (a ∷ b ∷ without_repeats (Some b) bs)
        (cond same (b ∷ without_repeats (Some b) bs) (b ∷ put_once a (without_repeats (Some b) bs)))
        ≡ a ∷ cond back (without_repeats (Some a) bs) (b ∷ without_repeats (Some b) bs)
    by_tests true same true p q r = absurd (omega (arith, ltb-true a b p, eqb-true b a r))
    by_tests true same false p q r = refl
    by_tests false true true p q r =
        let first : b ≡ a = eqb-true b a r in ap (λ x. x ∷ without_repeats (Some x) bs) first
    by_tests false true false p q r = absurd (false≢true (sym r ∙ eq-eqb b a (sym (eqb-true a b q))))
    by_tests false false back p q r = absurd (eqb-false a b q (omega (arith, ltb-false a b p, low)))

-- those numbers are in ascending order, each once
pub once_climbing : (numbers : List ℕ) → Climbs numbers → without_repeats None numbers ≡ ascending_once numbers
once_climbing [] up = refl
once_climbing (a ∷ rest) up = sym (put_low a rest up.0) ∙ ap (put_once a) (once_climbing rest up.1)
