-- The components of a path from the last one on.
use Rattle.std.proofs.Common.{arith, ◌≡◌, ◌+◌, ℕ, zero, suc, List, [], ◌∷◌, ◌++◌, refl, ap, ◌∙◌, codes}
use Rattle.gimli_lookup.specs.Components.{up, with_component, resolved}
use Rattle.gimli_lookup.specs.inside.Paths.{up_by}

pub resolved_last : (before cs : List (List ℕ)) (c : List ℕ)
    → resolved before (cs ++ c ∷ []) ≡ with_component (resolved before cs) c
resolved_last before [] c = refl
resolved_last before (d ∷ cs) c = resolved_last (with_component before d) cs c

pub up_by_root : (n : ℕ) → up_by n ([] ∷ []) ≡ [] ∷ []
up_by_root zero = refl
up_by_root (suc n) = up_by_root n

-- so many `..`
abbrev pub dots : ℕ → List (List ℕ)
dots zero = []
dots (suc n) = codes ".." ∷ dots n

up_dots : (n : ℕ) → up (dots n) ≡ dots (suc n)
up_dots zero = refl
up_dots (suc n) = refl

up_by_dots : (n m : ℕ) → up_by n (dots m) ≡ dots (n + m)
up_by_dots zero m = ap dots (omega arith)
up_by_dots (suc n) m = ap (up_by n) (up_dots m) ∙ up_by_dots n (suc m) ∙ ap dots (omega arith)

pub up_by_nothing : (n : ℕ) → up_by n [] ≡ dots n
up_by_nothing n = up_by_dots n 0 ∙ ap dots (omega arith)
