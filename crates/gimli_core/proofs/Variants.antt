-- Two of an enum are equal exactly where they are of one variant and agree in its parts: the sum of
-- its variants' parts.
use Rattle.std.proofs.Common.{◌≡◌, Bool, true, false, refl, ap}
use Rattle.std.specs.Prelude.{◌⊎◌, Decides}
use mathlib.Core.Logic.{inl, inr, ⊎_elim}

abbrev Left : {A B : Type 0} → A ⊎ B → Bool
Left (inl a) = true
Left (inr b) = false

abbrev left_or : {A B : Type 0} → A → A ⊎ B → A
left_or a (inl x) = x
left_or a (inr y) = a

abbrev right_or : {A B : Type 0} → B → A ⊎ B → B
right_or b (inl x) = b
right_or b (inr y) = y

apart : {P : Type 0} → true ≡ false → P
apart e = absurd cc

-- this variant's, or one of those after it
pub or : {A B : Type 0} {p : A → A → Bool} {q : B → B → Bool} → ((a b : A) → Decides (p a b) (a ≡ b))
    → ((a b : B) → Decides (q a b) (a ≡ b)) → (c d : A ⊎ B)
    → Decides (⊎_elim (λ x. ⊎_elim (λ y. p x y) (λ _. false) d) (λ x. ⊎_elim (λ _. false) (λ y. q x y) d) c) (c ≡ d)
or here after (inl a) (inl b) = (λ e. ap inl ((here a b).0 e), λ e. (here a b).1 (ap (left_or a) e))
or here after (inl a) _ = (λ e. absurd cc, λ e. apart (ap Left e))
or here after _ (inl b) = (λ e. absurd cc, λ e. absurd cc)
or here after (inr a) (inr b) = (λ e. ap inr ((after a b).0 e), λ e. (after a b).1 (ap (right_or a) e))

pub end : (p : ⊥ → ⊥ → Bool) (a b : ⊥) → Decides (p a b) (a ≡ b)
end p a b = absurd a

-- a variant without parts, with one and with two
pub none : (x y : Unit {0}) → Decides true (x ≡ y)
none x y = (λ _. refl, λ _. refl)

pub one : {A : Type 0} {p : A → A → Bool} → ((a b : A) → Decides (p a b) (a ≡ b)) → (x y : A × Unit {0})
    → Decides (p x.0 y.0) (x ≡ y)
one d x y = (λ e. ap (λ a. (a, tt)) ((d x.0 y.0).0 e), λ e. (d x.0 y.0).1 (ap (λ z. z.0) e))
