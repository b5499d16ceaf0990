-- Relocations that are applied, call by call.
use Rattle.std.specs.Prelude.{◌≡◌, ◌+◌, ◌-◌, ◌*◌, ◌/◌, ◌%◌, ◌^◌, ◌<◌, ◌≤◌, ◌∷◌, ◌++◌, ◌⊎◌, ◌||◌}
use Rattle.gimli_bytes.proofs
use proofs.Common
use Common.{arith, inl, inr, ℕ, ℤ, Bool, List, [], length, take, drop, refl, ap, sym, ◌∙◌, subst, w64, All, true, false}
use Common.{nat_le, list_any, and_parts, leb-true, le-leb, cast_unsigned, add-mul-mod_self_right, mod-eq_of_lt, pow-add}
use Common.{drop_at, drop_all, take_all, append-nil, All-head, All-tail, All-append, All-cons, number_bytes, value_of}
use Common.{put_over, Placement, Relocatable, Relocation, Addends, Listed, InPlace}
use Rattle.gimli_core.proofs.Written.{number_spelled}
use Rattle.gimli_bytes.specs.Relocations.{
  place_of,
  relocated,
  all_relocated,
  are_within,
  touches,
  number_in_place,
  addend_in_list,
}
use proofs.PieceLemmas.{length-put_over, put_over-front, put_over-after}
use proofs.RelocationLemmas.{
  length-number,
  front_same,
  put_over-apart,
  after-put_over,
  before-put_over,
  there-put_over,
  put_over-again,
}

-- ---- one relocation

-- the number that a linker puts at a place where this stands
abbrev pub sum_at : Placement → Bool → Relocation → List ℕ → ℕ
sum_at p is_big r there = place_of p r.target ((cast_unsigned w64 r.addend + value_of is_big there) % 256 ^ r.size)

abbrev pub word_at : Placement → Bool → Relocation → List ℕ → List ℕ
word_at p is_big r there = number_bytes is_big r.size (sum_at p is_big r there)

abbrev pub stands_at : Relocation → List ℕ → List ℕ
stands_at r bytes = take r.size (drop r.offset bytes)

abbrev pub Inside : ℕ → List Relocation → Type 0
Inside n rs = All (λ r. r.offset + r.size ≤ n) rs

abbrev pub AreInside : Relocatable → Type 0
AreInside v = Inside (length v.bytes) v.relocations

pub inside-from : (n : ℕ) (rs : List Relocation) → are_within n rs ≡ true → Inside n rs
inside-from n [] is = grind arith
inside-from n (r ∷ rs) is =
    let parts = and_parts (nat_le (r.offset + r.size) n) (are_within n rs) is in
    All-cons (λ r. r.offset + r.size ≤ n) r _ (leb-true (r.offset + r.size) n parts.0)
    (inside-from n rs parts.1)

pub inside-to : (n : ℕ) (rs : List Relocation) → Inside n rs → are_within n rs ≡ true
inside-to n [] inside = refl
inside-to n (r ∷ rs) inside = rw (
  le-leb (r.offset + r.size) n (All-head (λ r. r.offset + r.size ≤ n) r rs inside),
  inside-to n rs (All-tail (λ r. r.offset + r.size ≤ n) r rs inside),
) refl

-- the place of a relocation is before so many bytes from an offset on, or after them
abbrev pub IsApart : ℕ → ℕ → Relocation → Type 0
IsApart offset size r = (r.offset + r.size ≤ offset) ⊎ (offset + size ≤ r.offset)

pub apart-from : (offset size : ℕ) (rs : List Relocation)
    → list_any (touches offset size) rs ≡ false → All (IsApart offset size) rs
apart-from offset size [] is = grind arith
apart-from offset size (r ∷ rs) is = by (λ h. apart-from offset size rs h) (touches offset size r) refl is
  where
    by : (list_any (touches offset size) rs ≡ false → All (IsApart offset size) rs) → (t : Bool)
        → touches offset size r ≡ t → (t || list_any (touches offset size) rs) ≡ false
        → All (IsApart offset size) (r ∷ rs)
    by others true e h = absurd cc
    by others false e h = grind arith

word_fits : (p : Placement) (is_big : Bool) (r : Relocation) (n : ℕ) (there : List ℕ)
    → r.offset + r.size ≤ n → r.offset + length (word_at p is_big r there) ≤ n
word_fits p is_big r n there inside = grind (arith, length-number)

pub length-relocated : (p : Placement) (is_big : Bool) (bytes : List ℕ) (r : Relocation)
    → r.offset + r.size ≤ length bytes → length (relocated p is_big bytes r) ≡ length bytes
length-relocated p is_big bytes r inside = grind (arith, length-put_over, word_fits)

pub relocated-more : (p : Placement) (is_big : Bool) (bytes more : List ℕ) (r : Relocation)
    → r.offset + r.size ≤ length bytes
    → relocated p is_big (bytes ++ more) r ≡ relocated p is_big bytes r ++ more
relocated-more p is_big bytes more r inside = grind (arith, front_same, put_over-front, word_fits)

-- bytes that are put apart from its place
pub relocated-over : (p : Placement) (is_big : Bool) (bytes : List ℕ) (at : ℕ) (x : List ℕ)
    (r : Relocation) → r.offset + r.size ≤ length bytes → at + length x ≤ length bytes
    → IsApart at (length x) r
    → relocated p is_big (put_over bytes at x) r ≡ put_over (relocated p is_big bytes r) at x
relocated-over p is_big bytes at x r inside fits (inl before) =
    grind (arith, before-put_over, put_over-apart, word_fits)
relocated-over p is_big bytes at x r inside fits (inr after) = grind (arith, after-put_over, put_over-apart)

-- a place after the bytes
pub relocated-end : (p : Placement) (is_big : Bool) (bytes word : List ℕ) (r : Relocation)
    → r.offset ≡ length bytes → r.size ≡ length word
    → relocated p is_big (bytes ++ word) r ≡ bytes ++ word_at p is_big r word
relocated-end p is_big bytes word r at size =
    let rest : drop r.offset (bytes ++ word) ≡ word = drop_at bytes word r.offset (sym at) in
    let there : stands_at r (bytes ++ word) ≡ word = ap (λ (l : List ℕ). take r.size l) rest
    ∙ take_all r.size word (omega arith) in
    let long = length-number is_big r.size (sum_at p is_big r word) in
    let whole : put_over (bytes ++ word) (length bytes + 0) (word_at p is_big r word) ≡ bytes ++
    put_over word 0 (word_at p is_big r word) = put_over-after bytes word 0 (word_at p is_big r word) in
    let place : r.offset ≡ length bytes + 0 = omega arith in
    let none : drop (0 + length (word_at p is_big r word)) word ≡ [] =
    drop_all (0 + length (word_at p is_big r word)) word (omega arith) in
    ap (λ (l : List ℕ). put_over (bytes ++ word) r.offset (word_at p is_big r l)) there
    ∙ ap (λ (k : ℕ). put_over (bytes ++ word) k (word_at p is_big r word)) place ∙ whole
    ∙ ap (λ (l : List ℕ). bytes ++ (word_at p is_big r word ++ l)) none
    ∙ ap (λ (l : List ℕ). bytes ++ l) (append-nil (word_at p is_big r word))

-- a place over some of the bytes
pub relocated-put : (p : Placement) (is_big : Bool) (bytes word : List ℕ) (r : Relocation)
    → r.size ≡ length word → r.offset + length word ≤ length bytes
    → relocated p is_big (put_over bytes r.offset word) r ≡ put_over bytes r.offset
    (word_at p is_big r word)
relocated-put p is_big bytes word r size fits = grind (arith, there-put_over, length-number, put_over-again)

-- ---- all of them

pub all-more : (p : Placement) (is_big : Bool) (rs : List Relocation) (bytes more : List ℕ)
    → Inside (length bytes) rs
    → all_relocated p is_big (bytes ++ more) rs ≡ all_relocated p is_big bytes rs ++ more
all-more p is_big [] bytes more inside = refl
all-more p is_big (r ∷ rs) bytes more inside =
    let first = All-head (λ r. r.offset + r.size ≤ length bytes) r rs inside in
    let others = All-tail (λ r. r.offset + r.size ≤ length bytes) r rs inside in
    ap (λ (l : List ℕ). all_relocated p is_big l rs) (relocated-more p is_big _ more r first)
    ∙ all-more p is_big rs (relocated p is_big bytes r) more
    (subst (λ n. Inside n rs) (sym (length-relocated p is_big _ r first)) others)

pub length-all : (p : Placement) (is_big : Bool) (rs : List Relocation) (bytes : List ℕ)
    → Inside (length bytes) rs → length (all_relocated p is_big bytes rs) ≡ length bytes
length-all p is_big [] bytes inside = refl
length-all p is_big (r ∷ rs) bytes inside =
    let first = All-head (λ r. r.offset + r.size ≤ length bytes) r rs inside in
    let others = All-tail (λ r. r.offset + r.size ≤ length bytes) r rs inside in
    length-all p is_big rs (relocated p is_big bytes r)
    (subst (λ n. Inside n rs) (sym (length-relocated p is_big _ r first)) others) ∙ length-relocated p is_big _ r first

pub all-over : (p : Placement) (is_big : Bool) (rs : List Relocation) (bytes : List ℕ) (at : ℕ)
    (x : List ℕ) → Inside (length bytes) rs → at + length x ≤ length bytes
    → All (IsApart at (length x)) rs
    → all_relocated p is_big (put_over bytes at x) rs ≡ put_over (all_relocated p is_big bytes rs) at x
all-over p is_big [] bytes at x inside fits apart = refl
all-over p is_big (r ∷ rs) bytes at x inside fits apart =
    let first = All-head (λ r. r.offset + r.size ≤ length bytes) r rs inside in
    let others = All-tail (λ r. r.offset + r.size ≤ length bytes) r rs inside in
    let same = length-relocated p is_big _ r first in
    ap (λ (l : List ℕ). all_relocated p is_big l rs)
    (relocated-over p is_big bytes at x r first fits (All-head (IsApart at (length x)) r rs apart))
    ∙ all-over p is_big rs (relocated p is_big bytes r) at x (subst (λ n. Inside n rs) (sym same) others)
    (omega arith) (All-tail (IsApart at (length x)) r rs apart)

pub all-last : (p : Placement) (is_big : Bool) (rs : List Relocation) (r : Relocation) (bytes : List ℕ)
    → all_relocated p is_big bytes (rs ++ r ∷ []) ≡ relocated p is_big (all_relocated p is_big bytes rs) r
all-last p is_big [] r bytes = refl
all-last p is_big (q ∷ rs) r bytes = all-last p is_big rs r (relocated p is_big bytes q)

pub inside_more : (n m : ℕ) (rs : List Relocation) → n ≤ m → Inside n rs → Inside m rs
inside_more n m rs le inside = grind arith

pub inside_last : (n : ℕ) (rs : List Relocation) (r : Relocation) → Inside n rs
    → r.offset + r.size ≤ n → Inside n (rs ++ r ∷ [])
inside_last n rs r inside fits = All-append (λ r. r.offset + r.size ≤ n) _ _ inside
    (All-cons (λ r. r.offset + r.size ≤ n) r [] fits (λ k d lt. absurd (omega arith)))

-- ---- sums

-- the sum of 64 bits, in the lowest bytes
pub sum_low : (size t c n q : ℕ) → size ≤ 8 → t + c ≡ n + q * 2 ^ 64 → n < 256 ^ size → (t + c) % 256 ^ size ≡ n
sum_low size t c n q short sum fits =
    let parts : 8 - size + size ≡ 8 = omega arith in
    let whole : 256 ^ (8 - size) * 256 ^ size ≡ 2 ^ 64 = sym (pow-add 256 (8 - size) size) ∙ ap (λ k. 256 ^ k) parts in
    let split : t + c ≡ n + q * 256 ^ (8 - size) * 256 ^ size = sum ∙ rw (← whole) (grind arith) in
    ap (λ k. k % 256 ^ size) split ∙ add-mul-mod_self_right n (q * 256 ^ (8 - size)) (256 ^ size) ∙ mod-eq_of_lt fits

pub low_sum : (t c m : ℕ) → (t + c % m) % m ≡ (t + c) % m
low_sum t c m =
    let split : t + c ≡ t + c % m + c / m * m = omega (arith) in
    sym (add-mul-mod_self_right (t + c % m) (c / m) m) ∙ ap (λ k. k % m) (sym split)

-- what stands at a place and what the list has make one addend
pub addend_is : (is_big : Bool) (addends : Addends) (z : ℤ) (size : ℕ)
    → number_in_place addends z size < 256 ^ size
    → (cast_unsigned w64 (addend_in_list addends z)
    + value_of is_big (number_bytes is_big size (number_in_place addends z size)))
    % 256 ^ size
    ≡ cast_unsigned w64 z % 256 ^ size
addend_is is_big addends z size small =
    let there = (number_spelled _ _ _ small).value_is in
    ap (λ k. (cast_unsigned w64 (addend_in_list addends z) + k) % 256 ^ size) there ∙ low _
  where
    low : (a : Addends)
        → (cast_unsigned w64 (addend_in_list a z) + number_in_place a z size) % 256 ^ size
        ≡ cast_unsigned w64 z % 256 ^ size
    low Listed =
        let none : cast_unsigned w64 z + 0 ≡ cast_unsigned w64 z = omega arith in
        rw none refl
    low InPlace =
        let none : 0 + cast_unsigned w64 z ≡ cast_unsigned w64 z = omega arith in
        low_sum 0 _ _ ∙ ap (λ k. k % 256 ^ size) none
