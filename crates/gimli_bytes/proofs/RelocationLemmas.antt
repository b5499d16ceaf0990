-- Relocations that are applied.
use Rattle.std.specs.Prelude.{◌≡◌, ◌+◌, ◌-◌, ◌*◌, ◌/◌, ◌%◌, ◌^◌, ◌<◌, ◌≤◌, ◌++◌}
use Rattle.gimli_bytes.proofs.Common
use Common.{arith, ℕ, zero, suc, Bool, true, false, List, length, take, drop, refl, ap, sym, ◌∙◌, append_assoc}
use Common.{length-append, length-take, length-drop, pow-suc, byte_at, bytes_low_first, bytes_high_first, div-one}
use Common.{add-mul-div_right, add-mul-mod_self_right, pow-add, take_at, drop_at, drop-drop, take-append-le}
use Common.{drop-append-le, take-append-drop, number_bytes, put_over}
use Rattle.std.proofs.Math.Seq.{drop-append-add}
use Rattle.gimli_bytes.proofs.PieceLemmas.{length-put_over, put_over-front, put_over-after}

-- ---- how many bytes a number has

length_low : (size i n : ℕ) → length (bytes_low_first i size n) ≡ size
length_low zero i n = refl
length_low (suc size) i n = ap suc (length_low _ _ n)

length_high : (size n : ℕ) → length (bytes_high_first size n) ≡ size
length_high zero n = refl
length_high (suc size) n = ap suc (length_high _ n)

pub length-number : (is_big : Bool) (size n : ℕ) → length (number_bytes is_big size n) ≡ size
length-number true size n = length_high _ n
length-number false size n = length_low _ 0 n

-- ---- bytes put over others

-- in what comes before, and in what comes after
parts_over : (p s : List ℕ) (at : ℕ) (x : List ℕ) (k : ℕ) (y : List ℕ) → at + length x ≤ length p
    → put_over (put_over (p ++ s) at x) (length p + k) y ≡ put_over
    (put_over (p ++ s) (length p + k) y) at x
parts_over p s at x k y fits =
    let size : length (put_over p at x) ≡ length p = length-put_over p _ x fits in
    let first : put_over (p ++ s) at x ≡ put_over p at x ++ s = sym (put_over-front p s _ x fits) in
    ap (λ l. put_over l (length p + k) y) first ∙ ap (λ m. put_over (put_over p at x ++ s) (m + k) y) (sym size)
    ∙ put_over-after _ s k y ∙ put_over-front p _ _ x fits ∙ ap (λ l. put_over l at x) (sym (put_over-after p s k y))

-- two that are apart
pub put_over-apart : (old : List ℕ) (at : ℕ) (x : List ℕ) (off : ℕ) (y : List ℕ)
    → at + length x ≤ off → off ≤ length old
    → put_over (put_over old at x) off y ≡ put_over (put_over old off y) at x
put_over-apart old at x off y before inside =
    let cut : take off old ++ drop off old ≡ old = take-append-drop off old in
    let size : length (take off old) ≡ off = omega (arith, length-take off old) in
    let place : length (take off old) + 0 ≡ off = omega arith in
    rw (cut, place) at (parts_over (take off old) (drop off old) at x 0 y (omega arith))

-- what stands after them
pub after-put_over : (old : List ℕ) (at : ℕ) (x : List ℕ) (off : ℕ) → at + length x ≤ off
    → at + length x ≤ length old → drop off (put_over old at x) ≡ drop off old
after-put_over old at x off before inside =
    let front : length (take at old ++ x) ≡ at + length x =
    omega (arith, length-append (take at old) x, length-take at old) in
    let more : at + length x + (off - (at + length x)) ≡ off = omega arith in
    let place : length (take at old ++ x) + (off - (at + length x)) ≡ off = omega arith in
    let left : drop off ((take at old ++ x) ++ drop (at + length x) old) ≡ drop
    (off - (at + length x)) (drop (at + length x) old) =
    rw place at (drop-append-add (take at old ++ x) (drop (at + length x) old)
    (off - (at + length x))) in
    let whole : put_over old at x ≡ (take at old ++ x) ++ drop (at + length x) old = refl in
    left ∙ drop-drop (off - (at + length x)) (at + length x) old ∙ ap (λ k. drop k old) more

-- what stands in a part in front
pub front_same : (p s : List ℕ) (off size : ℕ) → off + size ≤ length p
    → take size (drop off (p ++ s)) ≡ take size (drop off p)
front_same p s off size fits = grind (arith, drop-append-le, take-append-le, length-drop)

-- what stands before them
pub before-put_over : (old : List ℕ) (at : ℕ) (x : List ℕ) (off size : ℕ) → off + size ≤ at
    → at ≤ length old
    → take size (drop off (put_over old at x)) ≡ take size (drop off old)
before-put_over old at x off size before inside =
    let front : off + size ≤ length (take at old) = omega (arith, length-take at old) in
    ap (λ l. take size (drop off l))
    (append_assoc (take at old) x (drop (at + length x) old)) ∙ front_same _ _ _ _ front
    ∙ sym (front_same _ _ _ _ front) ∙ ap (λ l. take size (drop off l)) (take-append-drop at old)

-- the bytes that are put there
pub there-put_over : (old : List ℕ) (at : ℕ) (x : List ℕ) → at + length x ≤ length old
    → take (length x) (drop at (put_over old at x)) ≡ x
there-put_over old at x inside = grind (arith, length-take, append_assoc, drop_at, take_at)

-- others of the same length put over them
pub put_over-again : (old : List ℕ) (at : ℕ) (x y : List ℕ) → length x ≡ length y
    → at + length x ≤ length old → put_over (put_over old at x) at y ≡ put_over old at y
put_over-again old at x y same inside = grind (arith, length-take, append_assoc, take_at, after-put_over)

-- ---- the lowest bytes of a number

pub pow_positive : (i : ℕ) → 0 < 256 ^ i
pow_positive zero = omega arith
pow_positive (suc i) = omega (arith, pow_positive i)

byte_is : (i n : ℕ) → byte_at i n ≡ n / 256 ^ i % 256
byte_is zero n = rw (div-one n) refl
byte_is (suc i) n = refl

-- a byte below the k-th isn't changed by what is worth more
byte_below : (i j n q : ℕ) → byte_at i (n + q * 256 ^ (i + suc j)) ≡ byte_at i n
byte_below i j n q =
    let worth : 256 ^ (i + suc j) ≡ 256 ^ i * 256 ^ suc j = pow-add 256 i (suc j) in
    let more : 256 ^ suc j ≡ 256 ^ j * 256 = pow-suc 256 j in
    let parts : n + q * 256 ^ (i + suc j) ≡ n + q * 256 ^ j * 256 * 256 ^ i = rw (worth, more) (grind arith) in
    let positive : 0 < 256 ^ i = pow_positive i in
    byte_is i _ ∙ ap (λ m. m / 256 ^ i % 256) parts
    ∙ ap (λ m. m % 256) (add-mul-div_right n (q * 256 ^ j * 256) positive)
    ∙ add-mul-mod_self_right (n / 256 ^ i) (q * 256 ^ j) 256 ∙ sym (byte_is i n)

byte_same : (i k n q : ℕ) → i < k → byte_at i (n + q * 256 ^ k) ≡ byte_at i n
byte_same i k n q below =
    let parts : i + suc (k - suc i) ≡ k = omega arith in
    rw parts at (byte_below i (k - suc i) n q)

low_same : (size i k n q : ℕ) → i + size ≤ k → bytes_low_first i size (n + q * 256 ^ k) ≡ bytes_low_first i size n
low_same zero i k n q below = refl
low_same (suc size) i k n q below =
    let first = byte_same i k n q (omega arith) in
    let others = low_same size (suc i) k n q (omega arith) in
    rw (first, others) refl

high_same : (size k n q : ℕ) → size ≤ k → bytes_high_first size (n + q * 256 ^ k) ≡ bytes_high_first size n
high_same zero k n q below = refl
high_same (suc size) k n q below =
    let first = byte_same size k n q (omega arith) in
    let others = high_same size k n q (omega arith) in
    rw (first, others) refl

number_same : (is_big : Bool) (size n q : ℕ)
    → number_bytes is_big size (n + q * 256 ^ size) ≡ number_bytes is_big size n
number_same true size n q = grind (arith, high_same)
number_same false size n q = grind (arith, low_same)

pub number-mod : (is_big : Bool) (size n : ℕ) → number_bytes is_big size n ≡ number_bytes is_big size (n % 256 ^ size)
number-mod is_big size n =
    let parts : n % 256 ^ size + n / 256 ^ size * 256 ^ size ≡ n = omega (arith) in
    ap (number_bytes is_big size) (sym parts) ∙ number_same _ _ _ _
