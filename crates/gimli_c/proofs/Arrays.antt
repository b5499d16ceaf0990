-- Arrays of the caller: what stands in them after a call.
use Rattle.std.proofs.Common.{◌≡◌, ◌⊎◌, ℕ, zero, suc, ◌+◌, ◌<◌, ◌≤◌, List, [], ◌∷◌, ◌++◌, length, take, set, get_or}
use Rattle.std.proofs.Common.{refl, sym, ap, ◌∙◌, inl}
use Rattle.std.proofs.Common.{inr, arith}
use Rattle.std.specs.Prelude.{Some, slice_get}
use Rattle.std.proofs.lemmas.List.{length-take-le, take_more}
use Rattle.std.proofs.lemmas.Option.{get_or_from_slice_get, slice_get_within}
use Rattle.gimli_c.specs.Written.{slots_with}

take_none : {A : Type 0} (n : ℕ) → take n (let xs : List A = [] in xs) ≡ []
take_none zero = refl
take_none (suc n) = refl

pub written_none : {A : Type 0} (old : List A) → slots_with [] old ≡ old
written_none [] = refl
written_none (o ∷ old) = refl

-- one more, after those that stand there
pub written_more : {A : Type 0} (xs : List A) (x : A) (old : List A)
    → slots_with (xs ++ x ∷ []) old ≡ set (slots_with xs old) (length xs) x
written_more [] x [] = refl
written_more [] x (o ∷ old) = ap (λ (ys : List _). x ∷ ys) (written_none old)
written_more (y ∷ ys) x [] = refl
written_more (y ∷ ys) x (o ∷ old) = ap (λ (zs : List _). y ∷ zs) (written_more ys x old)

-- no more than there is room for
pub written_take : {A : Type 0} (n : ℕ) (xs old : List A) → (length xs ≤ n) ⊎ (length old ≤ n)
    → slots_with (take n xs) old ≡ slots_with xs old
written_take n [] [] h = ap (λ (ys : List _). slots_with ys []) (take_none n)
written_take n [] (o ∷ old) h = ap (λ (ys : List _). slots_with ys (o ∷ old)) (take_none n)
written_take zero (x ∷ xs) [] h = refl
written_take (suc n) (x ∷ xs) [] h = refl
written_take zero (x ∷ xs) (o ∷ old) h = elim h [ inl a ↦ absurd (omega arith) | inr b ↦ absurd (omega arith) ]
written_take (suc n) (x ∷ xs) (o ∷ old) h =
    ap (λ (ys : List _). x ∷ ys)
    (written_take n xs old
    (elim h as (λ _. (length xs ≤ n) ⊎ (length old ≤ n)) [ inl a ↦ inl (omega arith) | inr b ↦ inr (omega arith) ]))

-- one more byte of those that are copied
pub copied_more : (bytes old now : List ℕ) (i : ℕ) → i < length bytes → now ≡ slots_with (take i bytes) old
    → set now i (get_or bytes i 0) ≡ slots_with (take (i + 1) bytes) old
copied_more bytes old now i lt so_far =
    let place : i ≡ length (take i bytes) = omega (arith, length-take-le i bytes (omega arith)) in
    ap (λ (xs : List ℕ). set xs i (get_or bytes i 0)) so_far
    ∙ ap (λ (n : ℕ). set (slots_with (take i bytes) old) n (get_or bytes i 0)) place
    ∙ sym (written_more (take i bytes) (get_or bytes i 0) old)
    ∙ ap (λ (xs : List ℕ). slots_with xs old) (sym (take_more bytes i 0 lt))

-- one more of those that are copied, of any kind
pub copied_next : {A : Type 0} (xs old now : List A) (i : ℕ) (x : A) → slice_get xs i ≡ Some x
    → now ≡ slots_with (take i xs) old
    → set now i x ≡ slots_with (take (i + 1) xs) old
copied_next xs old now i x is so_far =
    let lt = slice_get_within xs i x is in
    let place : i ≡ length (take i xs) = omega (arith, length-take-le i xs (omega (arith, lt))) in
    ap (λ (zs : List _). set zs i x) so_far
    ∙ ap (λ (n : ℕ). set (slots_with (take i xs) old) n x) place
    ∙ sym (written_more (take i xs) x old)
    ∙ ap (λ (zs : List _). slots_with zs old)
    (sym (take_more xs i x lt ∙ ap (λ (y : _). take i xs ++ y ∷ []) (get_or_from_slice_get xs i x x is)))
