-- The one spelling of a number in so many bytes.
use Rattle.std.proofs.Common.{◌≡◌, ℕ, zero, suc, ◌+◌, ◌/◌, ◌%◌, ◌^◌, ◌<◌, Bool, true, false, [], ◌∷◌, ◌++◌}
use Rattle.std.proofs.Common.{length, reverse, refl, sym, ap, ◌∙◌, arith, pow-suc}
use Rattle.std.proofs.Math.Nat.{div-div-eq-div-mul, div-one}
use Rattle.std.specs.Int.{byte_at, bytes_low_first, bytes_high_first}
use Rattle.std.proofs.lemmas.List.{reverse-append}
use Rattle.gimli_core.specs.Numbers.{le_value, SpellsNumber, number_bytes}

length_low : (size i n : ℕ) → length (bytes_low_first i size n) ≡ size
length_low zero i n = refl
length_low (suc size) i n = ap suc (length_low size _ n)

length_high : (size n : ℕ) → length (bytes_high_first size n) ≡ size
length_high zero n = refl
length_high (suc size) n = ap suc (length_high size n)

-- a byte of a number
byte_is : (i n : ℕ) → byte_at i n ≡ n / 256 ^ i % 256
byte_is zero n = omega arith
byte_is _ n = refl

-- the bytes from i upward are what is left without the lower ones
low_value : (size i n : ℕ) → n / 256 ^ i < 256 ^ size → le_value (bytes_low_first i size n) ≡ n / 256 ^ i
low_value zero i n fits = omega arith
low_value (suc size) i n fits =
    let worth = pow-suc 256 i in
    let next : n / 256 ^ suc i ≡ n / 256 ^ i / 256 = grind (arith, div-div-eq-div-mul) in
    let room = pow-suc 256 size in
    let below : n / 256 ^ suc i < 256 ^ size = omega arith in
    let rest = low_value size _ n below in
    rw (rest, byte_is i n, next) (omega arith)

-- the next byte comes last
low_more : (size i n : ℕ) → bytes_low_first i (suc size) n ≡ bytes_low_first i size n ++ byte_at (i + size) n ∷ []
low_more zero i n = grind arith
low_more (suc size) i n =
    let same : suc i + size ≡ i + suc size = omega arith in
    ap (λ xs. byte_at i n ∷ xs)
    (low_more size _ n ∙ ap (λ k. bytes_low_first (suc i) size n ++ byte_at k n ∷ []) same)

high_reversed : (size n : ℕ) → reverse (bytes_high_first size n) ≡ bytes_low_first 0 size n
high_reversed zero n = refl
high_reversed (suc size) n =
    let same : 0 + size ≡ size = omega arith in
    reverse-append (byte_at size n ∷ []) (bytes_high_first size n)
    ∙ ap (λ xs. xs ++ byte_at size n ∷ []) (high_reversed size n)
    ∙ ap (λ k. bytes_low_first 0 size n ++ byte_at k n ∷ []) (sym same)
    ∙ sym (low_more size 0 n)

pub number_spelled : (is_big : Bool) (size n : ℕ) → n < 256 ^ size
    → SpellsNumber is_big size (number_bytes is_big size n) n
number_spelled is_big size n fits =
    let whole : n / 256 ^ 0 ≡ n = div-one n in
    let below : n / 256 ^ 0 < 256 ^ size = omega arith in
    let low = low_value size 0 n below ∙ whole in
    spelled is_big low
  where
    spelled : (b : Bool) → le_value (bytes_low_first 0 size n) ≡ n → SpellsNumber b size (number_bytes b size n) n
    spelled true low = grind (arith, length_high, high_reversed)
    spelled false low = omega (arith, length_low)
