-- Two of a type are equal exactly where all their parts are.
use Rattle.std.specs.Prelude.{◌≡◌, ◌∷◌, ◌&&◌}
use Rattle.gimli_line.proofs.Common
use Common.{Bool, true, false, List, [], Option, Some, None, refl, ap, Decides, map, option_map}
use Rattle.std.specs.Option.{option_eq}
use Rattle.std.specs.Cmp.Lexicographic.{pointwise}
use Rattle.gimli_core.specs.Equality.{IsExact, ComparesBy}

-- a test, and another one
pub both : {s t : Bool} {P Q : Type 0} → Decides s P → Decides t Q → Decides (s && t) (P × Q)
both {s = true} p q = (λ e. (p.0 refl, q.0 e), λ all. q.1 all.1)
both {s = false} p q = (λ e. absurd cc, λ all. p.1 all.0)

-- what a test says of the parts, said of the whole
pub whole : {s : Bool} {P Q : Type 0} → Decides s P → (P → Q) → (Q → P) → Decides s Q
whole d join part = (λ e. join (d.0 e), λ q. d.1 (part q))

abbrev some_or : {A : Type 0} → A → Option A → A
some_or a (Some b) = b
some_or a None = a

-- what may be there
pub options : {A : Type 0} {eq : A → A → Bool} → IsExact eq → (x y : Option A) → Decides (option_eq eq x y) (x ≡ y)
options same (Some a) (Some b) = (λ e. ap Some ((same a b).0 e), λ e. (same a b).1 (ap (some_or a) e))
options same (Some a) None = (λ e. absurd cc, λ e. absurd cc)
options same None (Some b) = (λ e. absurd cc, λ e. absurd cc)
options same None None = (λ _. refl, λ _. refl)

-- the same, seen in some way
pub options_by : {A B : Type 0} {view : A → B} {eq : A → A → Bool} → ComparesBy view eq → (x y : Option A)
    → Decides (option_eq eq x y) (option_map view x ≡ option_map view y)
options_by {view} same (Some a) (Some b) = (λ e. ap Some ((same a b).0 e), λ e. (same a b).1 (ap (some_or (view a)) e))
options_by same (Some a) None = (λ e. absurd cc, λ e. absurd cc)
options_by same None (Some b) = (λ e. absurd cc, λ e. absurd cc)
options_by same None None = (λ _. refl, λ _. refl)

abbrev head_or : {A : Type 0} → A → List A → A
head_or a [] = a
head_or a (b ∷ l) = b

abbrev tail : {A : Type 0} → List A → List A
tail [] = []
tail (b ∷ l) = l

-- two lists, each entry seen in some way
pub lists_by : {A B : Type 0} {view : A → B} {eq : A → A → Bool} → ComparesBy view eq → (xs ys : List A)
    → Decides (pointwise eq xs ys) (map view xs ≡ map view ys)
lists_by same [] [] = (λ _. refl, λ _. refl)
lists_by same [] (b ∷ ys) = (λ e. absurd cc, λ e. absurd cc)
lists_by same (a ∷ xs) [] = (λ e. absurd cc, λ e. absurd cc)
lists_by {view} same (a ∷ xs) (b ∷ ys) =
    whole (both (same a b) (lists_by same xs ys)) (λ p. rw (p.0, p.1) refl) (λ e. (ap (head_or (view a)) e, ap tail e))

-- one of each, where both are there
abbrev pub zipped : {A B : Type 0} → Option A → Option B → Option (A × B)
zipped (Some a) (Some b) = Some (a, b)
zipped p q = None
