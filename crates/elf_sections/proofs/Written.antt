-- A number that is written in the place of bytes.
use Rattle.std.proofs.Common.{◌≡◌, ℕ, zero, suc, ◌+◌, ◌-◌, ◌%◌, ◌<◌, ◌≤◌, Bool, true, false, List, [], ◌∷◌, ◌++◌}
use Rattle.std.proofs.Common.{length, take, drop, refl, sym, ap, ◌∙◌, arith}
use Rattle.std.proofs.Common.{append_assoc, slice_set}
use Rattle.std.proofs.Math.Nat.{mod-mod}
use Rattle.std.proofs.lemmas.List.{append-nil, drop-drop, drop_all, take_rest, length-drop}
use borrow.Rule.Slice.PartMut.{put_mid}
use Rattle.gimli_core.specs.Numbers.{number_bytes}

-- the lowest byte of a number
pub one_byte : (is_big : Bool) (n : ℕ) → number_bytes is_big 1 (n % 256) ≡ n % 256 ∷ []
one_byte true n = ap (λ b. b ∷ []) (mod-mod n 256)
one_byte false n = ap (λ b. b ∷ []) (mod-mod n 256)

-- a byte in the place of another one
pub byte_set : (offset b : ℕ) (xs : List ℕ) → offset < length xs
    → slice_set xs offset b ≡ take offset xs ++ (b ∷ []) ++ drop (offset + 1) xs
byte_set offset b [] h = absurd (omega arith)
byte_set zero b (x ∷ xs) h = refl
byte_set (suc offset) b (x ∷ xs) h =
    let next : suc offset + 1 ≡ suc (offset + 1) = omega arith in
    ap (λ ys. x ∷ ys) (byte_set offset b xs (omega arith))
    ∙ ap (λ k. take (suc offset) (x ∷ xs) ++ (b ∷ []) ++ drop k (x ∷ xs)) (sym next)

-- bytes in the place of as many, which a part of the list begins with
pub number_put : (offset size : ℕ) (xs ys number : List ℕ) → offset + size ≤ length xs
    → ys ≡ number ++ drop size (take (length xs - offset) (drop offset xs))
    → put_mid offset (length xs - offset) xs ys ≡ take offset xs ++ number ++ drop (offset + size) xs
number_put offset size xs ys number h is =
    let part : ys ≡ number ++ drop (offset + size) xs
    =
    is ∙ ap (λ rest. number ++ drop size rest) (take_rest xs offset)
    ∙ ap (λ rest. number ++ rest) (drop-drop size offset xs) in
    let after : drop (length xs - offset) (drop offset xs)
    ≡ [] = drop_all (length xs - offset) (drop offset xs) (omega (arith, length-drop offset xs)) in
    ap (λ rest. take offset xs ++ (ys ++ rest)) after
    ∙ ap (λ rest. take offset xs ++ rest) (append-nil ys ∙ part)
    ∙ sym (append_assoc (take offset xs) number (drop (offset + size) xs))
