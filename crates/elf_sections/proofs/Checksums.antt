-- The steps of the checksum, eight at once.
use Rattle.std.proofs.Common.{◌≡◌, refl, sym, ◌∙◌, ap, ℕ, zero, suc, ◌+◌, ◌*◌, ◌/◌, ◌%◌, ◌<◌, ◌^◌, List, [], ◌∷◌, ◌++◌}
use Rattle.std.proofs.Common.{map, get_or, if◌then◌else◌, nat_eq}
use Rattle.std.proofs.Common.{bit_and, arith}
use Rattle.std.specs.Int.Bits.{bit_xor, xor_assoc, xor_self, xor_zero_l, xor_zero_r}
use Rattle.std.specs.List.{range_with_len, fold}
use Rattle.std.proofs.lemmas.Nat.{xor_comm, xor_lt, xor_shr, xor_mod, xor_block, and_mask}
use Rattle.std.proofs.lemmas.List.FromFn.{get_or-map-range_with_len}
use Rattle.elf_sections.specs.Crc.{bit_step, bit_steps, byte_step, crc32}
use Rattle.elf_sections.specs.declared.crc.TheConstants.{STEPS}

-- what is added where the lowest bit is such
abbrev added : ℕ → ℕ
added zero = 0
added (suc n) = 0xedb88320

step_is : (a d : ℕ) → a % 2 ≡ d → d < 2 → bit_step a ≡ bit_xor (a / 2) (added d)
unfolding bit_step
step_is a zero e h = ap (λ n. if nat_eq n 1 then bit_xor (a / 2) 0xedb88320 else a / 2) e ∙ sym (xor_zero_r (a / 2))
step_is a (suc zero) e h = ap (λ n. if nat_eq n 1 then bit_xor (a / 2) 0xedb88320 else a / 2) e
step_is a (suc (suc d)) e h = absurd (omega arith)

added_xor : (d e : ℕ) → d < 2 → e < 2 → added (bit_xor d e) ≡ bit_xor (added d) (added e)
added_xor zero zero h k = refl
added_xor zero (suc zero) h k = refl
added_xor (suc zero) zero h k = refl
added_xor (suc zero) (suc zero) h k = refl
added_xor zero (suc (suc e)) h k = absurd (omega arith)
added_xor (suc zero) (suc (suc e)) h k = absurd (omega arith)
added_xor (suc (suc d)) e h k = absurd (omega arith)

swap_middle : (a b c d : ℕ) → bit_xor (bit_xor a b) (bit_xor c d) ≡ bit_xor (bit_xor a c) (bit_xor b d)
swap_middle a b c d =
    xor_assoc a b (bit_xor c d)
    ∙ ap (bit_xor a) (sym (xor_assoc b c d) ∙ ap (λ n. bit_xor n d) (xor_comm b c) ∙ xor_assoc c b d)
    ∙ sym (xor_assoc a c (bit_xor b d))

step_xor : (a b : ℕ) → bit_step (bit_xor a b) ≡ bit_xor (bit_step a) (bit_step b)
step_xor a b =
    let low : (n : ℕ) → n % 2 < 2 = λ n. omega arith in
    step_is (bit_xor a b) (bit_xor (a % 2) (b % 2)) (xor_mod a b 1) (xor_lt 1 (a % 2) (b % 2) (low a) (low b))
    ∙ ap (λ n. bit_xor n (added (bit_xor (a % 2) (b % 2)))) (xor_shr a b 1)
    ∙ ap (bit_xor (bit_xor (a / 2) (b / 2))) (added_xor (a % 2) (b % 2) (low a) (low b))
    ∙ swap_middle (a / 2) (b / 2) (added (a % 2)) (added (b % 2))
    ∙ ap (λ n. bit_xor n (bit_xor (b / 2) (added (b % 2)))) (sym (step_is a (a % 2) refl (low a)))
    ∙ ap (bit_xor (bit_step a)) (sym (step_is b (b % 2) refl (low b)))

steps_xor : (n a b : ℕ) → bit_steps n (bit_xor a b) ≡ bit_xor (bit_steps n a) (bit_steps n b)
unfolding bit_steps
steps_xor zero a b = refl
steps_xor (suc n) a b = ap (bit_steps n) (step_xor a b) ∙ steps_xor n (bit_step a) (bit_step b)

-- an even number is halved
half : (n m : ℕ) → n ≡ m * 2 → bit_step n ≡ m
half n m e =
    let even : n % 2 ≡ 0 = omega arith in
    let halved : n / 2 ≡ m = omega arith in
    step_is n 0 even (omega arith) ∙ xor_zero_r (n / 2) ∙ halved

eight_halves : (a : ℕ) → bit_steps 8 (a * 256) ≡ a
unfolding bit_steps
eight_halves a =
    ap (bit_steps 7) (half (a * 256) (a * 128) (omega arith))
    ∙ ap (bit_steps 6) (half (a * 128) (a * 64) (omega arith))
    ∙ ap (bit_steps 5) (half (a * 64) (a * 32) (omega arith))
    ∙ ap (bit_steps 4) (half (a * 32) (a * 16) (omega arith))
    ∙ ap (bit_steps 3) (half (a * 16) (a * 8) (omega arith))
    ∙ ap (bit_steps 2) (half (a * 8) (a * 4) (omega arith))
    ∙ ap (bit_steps 1) (half (a * 4) (a * 2) (omega arith))
    ∙ half (a * 2) a refl

high_and_low : (x : ℕ) → bit_xor (x / 256 * 256) (x % 256) ≡ x
high_and_low x =
    let high : x / 256 * 256 ≡ x / 256 * 2 ^ 8 + 0 = omega arith in
    let low : x % 256 ≡ 0 * 2 ^ 8 + x % 256 = omega arith in
    let whole : x / 256 * 2 ^ 8 + x % 256 ≡ x = omega arith in
    ap (λ n. bit_xor n (x % 256)) high
    ∙ ap (bit_xor (x / 256 * 2 ^ 8 + 0)) low
    ∙ xor_block 8 (x / 256) 0 0 (x % 256) (omega arith) (omega arith)
    ∙ ap (λ n. n * 2 ^ 8 + bit_xor 0 (x % 256)) (xor_zero_r (x / 256))
    ∙ ap (λ n. x / 256 * 2 ^ 8 + n) (xor_zero_l (x % 256))
    ∙ whole

-- the higher bytes move down, and the lowest one makes its part
eight_steps : (x : ℕ) → bit_steps 8 x ≡ bit_xor (x / 256) (bit_steps 8 (x % 256))
eight_steps x =
    ap (bit_steps 8) (sym (high_and_low x))
    ∙ steps_xor 8 (x / 256 * 256) (x % 256)
    ∙ ap (λ n. bit_xor n (bit_steps 8 (x % 256))) (eight_halves (x / 256))

-- the table has that part of each byte
parts : STEPS ≡ map (bit_steps 8) (range_with_len 0 256)
unfolding bit_steps bit_step
parts = refl

by_steps : (crc byte : ℕ) → byte < 256
    → bit_xor (crc / 256) (get_or STEPS (bit_and (bit_xor crc byte) 255) 0) ≡ byte_step crc byte
unfolding byte_step
by_steps crc byte h =
    let x : ℕ = bit_xor crc byte in
    let low : x % 256 < 256 = omega arith in
    let none : byte / 256 ≡ 0 = omega arith in
    let high : bit_xor crc byte / 256 ≡ crc / 256
    = xor_shr crc byte 8 ∙ ap (bit_xor (crc / 256)) none ∙ xor_zero_r (crc / 256) in
    sym (eight_steps x
    ∙ ap (λ n. bit_xor n (bit_steps 8 (x % 256))) high
    ∙ ap (bit_xor (crc / 256)) (sym (ap (λ table. get_or table (bit_and x 255) 0) parts
    ∙ ap (λ i. get_or (map (bit_steps 8) (range_with_len 0 256)) i 0) (and_mask x 8)
    ∙ get_or-map-range_with_len (bit_steps 8) 0 256 (x % 256) (x % 256) 0 low (omega arith))))

pub by_table : (table : List ℕ) (crc byte more : ℕ) → table ≡ STEPS → more ≡ byte → byte < 256
    → bit_xor (crc / 256) (get_or table (bit_and (bit_xor crc more) 255) 0) ≡ byte_step crc byte
by_table table crc byte more is same h =
    ap (λ t. bit_xor (crc / 256) (get_or t (bit_and (bit_xor crc more) 255) 0)) is
    ∙ ap (λ n. bit_xor (crc / 256) (get_or STEPS (bit_and (bit_xor crc n) 255) 0)) same
    ∙ by_steps crc byte h

-- more bytes
pub fold_append : (f : ℕ → ℕ → ℕ) (a : ℕ) (xs ys : List ℕ) → fold f a (xs ++ ys) ≡ fold f (fold f a xs) ys
fold_append f a [] ys = refl
fold_append f a (x ∷ xs) ys = fold_append f (f a x) xs ys

twice : (n m : ℕ) → bit_xor (bit_xor n m) m ≡ n
twice n m = xor_assoc n m m ∙ ap (bit_xor n) (xor_self m) ∙ xor_zero_r n

pub more : (sum start end : ℕ) (before bytes : List ℕ) → start ≡ bit_xor sum 0xffffffff
    → fold byte_step start bytes ≡ end
    → sum ≡ crc32 before → bit_xor end 0xffffffff ≡ crc32 (before ++ bytes)
more sum start end before bytes begins ends is =
    ap (λ n. bit_xor n 0xffffffff) (sym ends
    ∙ ap (λ n. fold byte_step n bytes)
    (begins ∙ ap (λ n. bit_xor n 0xffffffff) is ∙ twice (fold byte_step 0xffffffff before) 0xffffffff)
    ∙ sym (fold_append byte_step 0xffffffff before bytes))
