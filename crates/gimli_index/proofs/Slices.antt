-- Parts of bytes that were put one after the other.
use Rattle.std.proofs.Common.{◌≡◌, ℕ, zero, suc, ◌+◌, ◌-◌, ◌*◌, List, [], ◌∷◌, ◌++◌, length, take, drop, map, Some}
use Rattle.std.proofs.Common.{slice_get, refl, sym, ap, ◌∙◌, arith}
use Rattle.std.proofs.Common.{length-append}
use Rattle.std.proofs.Math.Seq.{drop-append-add, take-append_seam}
use Rattle.std.specs.Prelude.{flat_map, slice_range}
use Rattle.std.specs.List.{range_with_len}

-- a part that comes after these bytes
pub after_bytes : (a ys : List ℕ) (from to i j : ℕ) → from ≡ length a + i → to ≡ length a + j
    → slice_range (a ++ ys) from to ≡ slice_range ys i j
after_bytes a ys from to i j first end =
    let size : to - from ≡ j - i = omega arith in
    ap (λ k. take (to - from) (drop k (a ++ ys))) first
    ∙ ap (λ zs. take (to - from) zs) (drop-append-add a ys i)
    ∙ ap (λ k. take k (drop i ys)) size

-- the part that comes first
pub first_bytes : (b ys : List ℕ) (to : ℕ) → to ≡ length b → slice_range (b ++ ys) 0 to ≡ b
first_bytes b ys to end =
    let size : to - 0 ≡ length b = omega arith in
    ap (λ k. take k (b ++ ys)) size ∙ take-append_seam b ys

-- the bytes of an element, where each has as many
pub element_at : {X : Type 0} (f : X → List ℕ) (k : ℕ) → ((x : X) → length (f x) ≡ k) → (xs : List X) (i : ℕ) (x : X)
    → slice_get xs i ≡ Some x
    → (rest : List ℕ) × (drop (k * i) (flat_map f xs) ≡ f x ++ rest)
element_at f k size [] i x there = absurd cc
element_at f k size (y ∷ ys) zero x there =
    let same : y ≡ x = cc in
    let none : k * 0 ≡ 0 = omega arith in
    (flat_map f ys, ap (λ n. drop n (f y ++ flat_map f ys)) none ∙ ap (λ z. f z ++ flat_map f ys) same)
element_at f k size (y ∷ ys) (suc i) x there =
    let more : k * suc i ≡ length (f y) + k * i = omega (arith, size y) in
    let next = element_at f k size ys i x there in
    (next.0, ap (λ n. drop n (f y ++ flat_map f ys)) more ∙ drop-append-add (f y) (flat_map f ys) (k * i) ∙ next.1)

-- how many bytes they have together
pub elements_length : {X : Type 0} (f : X → List ℕ) (k : ℕ) → ((x : X) → length (f x) ≡ k) → (xs : List X)
    → length (flat_map f xs) ≡ k * length xs
elements_length f k size [] = let none : k * 0 ≡ 0 = omega arith in sym none
elements_length f k size (x ∷ xs) =
    omega (arith, length-append (f x) (flat_map f xs), size x, elements_length f k size xs)

-- two ways to the same values
pub same_values : {X Y : Type 0} (f : ℕ → Y) (g : X → Y) (xs : List X) (first : ℕ)
    → ((i : ℕ) (x : X) → slice_get xs i ≡ Some x → f (first + i) ≡ g x)
    → map f (range_with_len first (length xs)) ≡ map g xs
same_values f g [] first each = refl
same_values f g (x ∷ xs) first each =
    let here : f first ≡ g x = ap f (let same : first ≡ first + 0 = omega arith in same) ∙ each 0 x refl in
    let later =
    same_values f g xs (first + 1)
    (λ i y there. let same : first + 1 + i ≡ first + suc i = omega arith in ap f same ∙ each (suc i) y there) in
    ap (λ y. y ∷ map f (range_with_len (first + 1) (length xs))) here ∙ ap (λ ys. g x ∷ ys) later

-- ---- the second to the seventh of some parts

pub second_part : (a b r : List ℕ) (from to : ℕ) → from ≡ length a → to ≡ length a + length b
    → slice_range (a ++ (b ++ r)) from to ≡ b
second_part a b r from to first end =
    after_bytes a (b ++ r) from to 0 (length b) (omega arith) end ∙ first_bytes b r (length b) refl

pub third_part : (a b c r : List ℕ) (from to : ℕ) → from ≡ length a + length b → to ≡ length a + length b + length c
    → slice_range (a ++ (b ++ (c ++ r))) from to ≡ c
third_part a b c r from to first end =
    after_bytes a (b ++ (c ++ r)) from to (length b) (length b + length c) first (omega arith)
    ∙ second_part b c r (length b) (length b + length c) refl refl

pub fourth_part : (a b c d r : List ℕ) (from to : ℕ) → from ≡ length a + length b + length c
    → to ≡ length a + length b + length c + length d
    → slice_range (a ++ (b ++ (c ++ (d ++ r)))) from to ≡ d
fourth_part a b c d r from to first end =
    after_bytes a (b ++ (c ++ (d ++ r))) from to (length b + length c) (length b + length c + length d) (omega arith)
    (omega arith)
    ∙ third_part b c d r (length b + length c) (length b + length c + length d) refl refl

pub fifth_part : (a b c d e r : List ℕ) (from to : ℕ) → from ≡ length a + length b + length c + length d
    → to ≡ length a + length b + length c + length d + length e
    → slice_range (a ++ (b ++ (c ++ (d ++ (e ++ r))))) from to ≡ e
fifth_part a b c d e r from to first end =
    after_bytes a (b ++ (c ++ (d ++ (e ++ r)))) from to (length b + length c + length d)
    (length b + length c + length d + length e) (omega arith) (omega arith)
    ∙ fourth_part b c d e r (length b + length c + length d) (length b + length c + length d + length e) refl refl

pub sixth_part : (a b c d e g r : List ℕ) (from to : ℕ) → from ≡ length a + length b + length c + length d + length e
    → to ≡ length a + length b + length c + length d + length e + length g
    → slice_range (a ++ (b ++ (c ++ (d ++ (e ++ (g ++ r)))))) from to ≡ g
sixth_part a b c d e g r from to first end =
    after_bytes a (b ++ (c ++ (d ++ (e ++ (g ++ r))))) from to (length b + length c + length d + length e)
    (length b + length c + length d + length e + length g)
    (omega arith) (omega arith)
    ∙ fifth_part b c d e g r (length b + length c + length d + length e)
    (length b + length c + length d + length e + length g) refl refl

pub seventh_part : (a b c d e g h r : List ℕ) (from to : ℕ)
    → from ≡ length a + length b + length c + length d + length e + length g
    → to ≡ length a + length b + length c + length d + length e + length g + length h
    → slice_range (a ++ (b ++ (c ++ (d ++ (e ++ (g ++ (h ++ r))))))) from to ≡ h
seventh_part a b c d e g h r from to first end =
    after_bytes a (b ++ (c ++ (d ++ (e ++ (g ++ (h ++ r)))))) from to
    (length b + length c + length d + length e + length g)
    (length b + length c + length d + length e + length g + length h)
    (omega arith) (omega arith)
    ∙ sixth_part b c d e g h r (length b + length c + length d + length e + length g)
    (length b + length c + length d + length e + length g + length h) refl
    refl
