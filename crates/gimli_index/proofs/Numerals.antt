-- Numbers that are written are read.
use Rattle.std.proofs.Common.{◌≡◌, ℕ, zero, suc, ◌*◌, ◌/◌, ◌%◌, ◌^◌, ◌<◌, refl, sym, ◌∙◌, arith, pow-suc}
use Rattle.std.proofs.Math.Nat.{div-div-eq-div-mul, div-one}
use Rattle.std.specs.Int.{byte_at, bytes_low_first}
use Rattle.gimli_core.specs.Numbers.{le_value}
use Rattle.gimli_index.specs.Contents.{le_bytes}

-- a byte of a number
byte_is : (i n : ℕ) → byte_at i n ≡ n / 256 ^ i % 256
byte_is zero n = rw (div-one n) refl
byte_is (suc i) n = refl

-- the bytes from i upward are what is left without the lower ones
value_from : (size i n : ℕ) → n / 256 ^ i < 256 ^ size → le_value (bytes_low_first i size n) ≡ n / 256 ^ i
value_from zero i n fits = omega arith
value_from (suc size) i n fits =
    let worth : 256 ^ suc i ≡ 256 ^ i * 256 = pow-suc 256 i in
    let next : n / 256 ^ suc i ≡ n / 256 ^ i / 256 = rw worth (sym (div-div-eq-div-mul n (256 ^ i) 256)) in
    let room : 256 ^ suc size ≡ 256 ^ size * 256 = pow-suc 256 size in
    let below : n / 256 ^ suc i < 256 ^ size = omega (arith, next, room) in
    let rest = value_from size (suc i) n below in
    rw (rest, byte_is i n, next) (omega arith)

pub number_read : (size n : ℕ) → n < 256 ^ size → le_value (le_bytes size n) ≡ n
number_read size n fits =
    let whole : n / 256 ^ 0 ≡ n = div-one n in
    let below : n / 256 ^ 0 < 256 ^ size = omega arith in
    value_from size 0 n below ∙ whole
