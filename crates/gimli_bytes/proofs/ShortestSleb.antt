-- The written spelling of a signed number is the shortest.
use Rattle.std.specs.Prelude.{◌≡◌, ◌+◌, ◌-◌, ◌*◌, ◌/◌, ◌%◌, ◌^◌, ◌<◌, ◌≤◌, ◌∷◌, ◌-ℤ◌, if◌then◌else◌}
use Rattle.gimli_bytes.proofs
use proofs.Common
use Common.{ℕ, zero, suc, Bool, true, false, List, [], length, refl, sym, ap, ◌∙◌, arith, inl, inr, ℤ, pos, negsuc, w64}
use Common.{FitsSigned, pow-succ', pow-add, ints, cases_lt, lt-ltb, le-ltb, leb-true, leb-false, IsLeb128, is_negative}
use Common.{signed_value, SpellsSleb128, IsShortest, high_bits, has_seven_bits}
use lib.Signed.{mag}
use Rattle.gimli_bytes.specs.Number.{sleb, sleb_within}
use proofs.LebLemmas.{sleb_last, sleb_more}
use proofs.ShortestUleb.{IsLeb128-below, IsLeb128-cons}

-- seven bits a byte
power_of_128 : (k : ℕ) → 2 ^ (7 * k) ≡ 128 ^ k
power_of_128 zero = refl
power_of_128 (suc k) =
    let more : 7 * suc k ≡ 7 * k + 7 = omega arith in
    let split : 2 ^ (7 * suc k) ≡ 2 ^ (7 * k) * 2 ^ 7 = ap (λ i. 2 ^ i) more ∙ pow-add 2 (7 * k) 7 in
    omega (arith, power_of_128 k)

-- ---- any spelling: the last byte is the sign, and the number is within what the bytes hold

IsLeb128-positive : (b : ℕ) (bytes : List ℕ) (n : ℕ) → IsLeb128 (b ∷ bytes) n → is_negative (b ∷ bytes) ≡ false
    → n < 64 * 128 ^ length bytes
IsLeb128-positive b [] n h sign = omega (arith, leb-false 64 b sign)
IsLeb128-positive b (c ∷ bytes) n h sign =
    let high : h.1 < 64 * 128 ^ length bytes = IsLeb128-positive c bytes h.1 h.3 sign in
    let power : 128 ^ suc (length bytes) ≡ 128 * 128 ^ length bytes = pow-succ' 128 (length bytes) in
    omega (arith)

IsLeb128-negative : (b : ℕ) (bytes : List ℕ) (n : ℕ) → IsLeb128 (b ∷ bytes) n → is_negative (b ∷ bytes) ≡ true
    → 64 * 128 ^ length bytes ≤ n
IsLeb128-negative b [] n h sign = omega (arith, leb-true 64 b sign)
IsLeb128-negative b (c ∷ bytes) n h sign =
    let high : 64 * 128 ^ length bytes ≤ h.1 = IsLeb128-negative c bytes h.1 h.3 sign in
    let power : 128 ^ suc (length bytes) ≡ 128 * 128 ^ length bytes = pow-succ' 128 (length bytes) in
    omega (arith)

within_positive : (n k : ℕ) (z : ℤ) → n < k → pos n ≡ z → mag z < k
within_positive n k (pos m) h e = omega (arith, ints)
within_positive n k (negsuc m) h e = absurd (omega (arith, ints))

within_negative : (n k : ℕ) (z : ℤ) → 64 * k ≤ n → n < 128 * k → pos n -ℤ pos (128 * k) ≡ z → mag z < 64 * k
within_negative n k (pos m) h below e = absurd (omega (arith, ints))
within_negative n k (negsuc m) h below e = omega (arith, ints)

-- what the sign takes, and nothing where it isn't set
sign_taken : (negative : Bool) (n p : ℕ)
    → pos n -ℤ pos (if negative then p else 0) ≡ (if negative then pos n -ℤ pos p else pos n)
sign_taken true n p = refl
sign_taken false n p = omega (arith, ints)

within : (b : ℕ) (bytes : List ℕ) (n : ℕ) (z : ℤ) → IsLeb128 (b ∷ bytes) n → signed_value (b ∷ bytes) n ≡ z
    → mag z < 64 * 128 ^ length bytes
within b bytes n z h value = by (is_negative (b ∷ bytes)) refl (sym (sign_taken _ n _) ∙ value)
  where
    by : (sign : Bool) → is_negative (b ∷ bytes) ≡ sign
        → (if sign then pos n -ℤ pos (2 ^ (7 * suc (length bytes))) else pos n) ≡ z
        → mag z < 64 * 128 ^ length bytes
    by false sign e = within_positive n _ z (IsLeb128-positive b _ n h sign) e
    by true sign e =
        let power : 2 ^ (7 * suc (length bytes)) ≡ 128 * 128 ^ length bytes = power_of_128 _
        ∙ pow-succ' 128 (length bytes) in
        let below : n
        < 128 * 128 ^ length bytes = omega (arith, IsLeb128-below (b ∷ bytes) n h, pow-succ' 128 (length bytes)) in
        within_negative n _ z (IsLeb128-negative b _ n h sign) below (ap (λ p. pos n -ℤ pos p) (sym power) ∙ e)

-- ---- the written one: no more groups than hold the number

more_bits : (z : ℤ) → has_seven_bits z ≡ false → 64 ≤ mag z
more_bits (pos n) h = grind (arith)
more_bits (negsuc n) h = grind (arith)

high_within : (z : ℤ) (k : ℕ) → mag z < 128 * k → mag (high_bits z) < k
high_within (pos n) k h = omega arith
high_within (negsuc n) k h = omega arith

length-sleb_within : (more j : ℕ) (z : ℤ) → mag z < 64 * 128 ^ j → length (sleb_within more z) ≤ suc j
unfolding sleb_within
length-sleb_within zero j z h = omega arith
length-sleb_within (suc more) j z h = by (has_seven_bits z) refl j h (λ i. length-sleb_within more i (high_bits z))
  where
    by : (b : Bool) → has_seven_bits z ≡ b → (j : ℕ) → mag z < 64 * 128 ^ j
        → ((i : ℕ) → mag (high_bits z) < 64 * 128 ^ i → length (sleb_within more (high_bits z)) ≤ suc i)
        → length (sleb_within (suc more) z) ≤ suc j
    by true e j h rest = omega (arith, ap length (sleb_last (suc more) z e))
    by false e zero h rest = absurd (omega (arith, h, more_bits z e))
    by false e (suc i) h rest =
        let power : 128 ^ suc i ≡ 128 * 128 ^ i = pow-succ' 128 i in
        let high : mag (high_bits z) < 64 * 128 ^ i = high_within z _ (omega (arith, h, power)) in
        omega (arith, ap length (sleb_more more z e), rest i high)

-- ---- the written one is a spelling

-- one more group in front leaves the sign
sign-cons : (b : ℕ) (bytes : List ℕ) (n : ℕ) → IsLeb128 bytes n → is_negative (b ∷ bytes) ≡ is_negative bytes
sign-cons b [] n h = absurd h
sign-cons b (c ∷ bytes) n h = refl

-- a number that isn't negative is its groups
record Positive (n : ℕ) (bytes : List ℕ) : Type 0 where
  groups : IsLeb128 bytes n
  sign : is_negative bytes ≡ false

positive_last : (n : ℕ) → n < 64 → Positive n (n % 128 ∷ [])
positive_last n h = grind (arith)

positive : (more n : ℕ) → n < 64 * 128 ^ more → Positive n (sleb_within more (pos n))
unfolding sleb_within
positive zero n h = positive_last n (omega (arith, h))
positive (suc more) n h = elim (cases_lt n 64) [
  | inl low ↦ rw (sleb_last (suc more) _ (lt-ltb n 64 low)) (positive_last n low)
  | inr high ↦
      let power : 128 ^ suc more ≡ 128 * 128 ^ more = pow-succ' 128 more in
      let rest : Positive (n / 128) (sleb_within more (pos (n / 128))) =
      positive more (n / 128) (omega (arith, h, power)) in
      rw (sleb_more more _ (le-ltb n 64 high)) (record {
        groups = IsLeb128-cons (n % 128 + 128) _ n _ (omega arith) (omega arith) rest.groups;
        sign = sign-cons (n % 128 + 128) _ _ rest.groups ∙ rest.sign;
      })
]

-- the groups of a negative number are short of the next power by its size
record Negative (n : ℕ) (bytes : List ℕ) : Type 0 where
  unsigned : ℕ
  groups : IsLeb128 bytes unsigned
  short_by : unsigned + suc n ≡ 128 ^ length bytes
  sign : is_negative bytes ≡ true

negative_last : (n : ℕ) → n < 64 → Negative n ((127 - n % 128) ∷ [])
negative_last n h = grind (arith)

negative : (more n : ℕ) → n < 64 * 128 ^ more → Negative n (sleb_within more (negsuc n))
unfolding sleb_within
negative zero n h = negative_last n (omega (arith, h))
negative (suc more) n h = elim (cases_lt n 64) [
  | inl low ↦ rw (sleb_last (suc more) _ (lt-ltb n 64 low)) (negative_last n low)
  | inr high ↦
      let power : 128 ^ suc more ≡ 128 * 128 ^ more = pow-succ' 128 more in
      let tail : List ℕ = sleb_within more (negsuc (n / 128)) in
      let rest : Negative (n / 128) tail = negative more (n / 128) (omega (arith, h, power)) in
      let next : 128 ^ suc (length tail) ≡ 128 * 128 ^ length tail = pow-succ' 128 (length tail) in
      rw (sleb_more more _ (le-ltb n 64 high)) (record {
        unsigned = 127 - n % 128 + 128 * rest.unsigned;
        groups =
            IsLeb128-cons (127 - n % 128 + 128) _ (127 - n % 128 + 128 * rest.unsigned) _ (omega arith) (omega arith)
            rest.groups;
        short_by = omega (arith, next, rest.short_by);
        sign = sign-cons (127 - n % 128 + 128) _ _ rest.groups ∙ rest.sign;
      })
]

spells : (z : ℤ) → FitsSigned w64 z → SpellsSleb128 (sleb_within 9 z) z
spells (pos n) h =
    let size : n < 64 * 128 ^ 9 = omega (arith) in
    let p : Positive n (sleb_within 9 (pos n)) = positive 9 n size in
    record {
      unsigned = n;
      groups = p.groups;
      value_is = sign_taken _ n _
          ∙ ap (λ b. if b then pos n -ℤ pos (2 ^ (7 * length (sleb_within 9 (pos n)))) else pos n) p.sign;
      short = length-sleb_within 9 9 _ size;
      fits = h;
    }
spells (negsuc n) h =
    let size : n < 64 * 128 ^ 9 = omega (arith) in
    let bytes : List ℕ = sleb_within 9 (negsuc n) in
    let p : Negative n bytes = negative 9 n size in
    let power : 2 ^ (7 * length bytes) ≡ p.unsigned + suc n = power_of_128 _ ∙ sym p.short_by in
    record {
      unsigned = p.unsigned;
      groups = p.groups;
      value_is = sign_taken (is_negative bytes) p.unsigned (2 ^ (7 * length bytes))
          ∙ ap (λ b. if b then pos p.unsigned -ℤ pos (2 ^ (7 * length bytes)) else pos p.unsigned) p.sign
          ∙ ap (λ k. pos p.unsigned -ℤ pos k) power
          ∙ (let e : pos p.unsigned -ℤ pos (p.unsigned + suc n) ≡ negsuc n = omega (arith, ints) in e);
      short = length-sleb_within 9 9 _ size;
      fits = h;
    }

-- any spelling is at least as long
least : (other : List ℕ) (z : ℤ) → SpellsSleb128 other z → length (sleb_within 9 z) ≤ length other
least [] z s = absurd s.groups
least (b ∷ bytes) z s = length-sleb_within 9 _ z (within b _ _ z s.groups s.value_is)

pub sleb_shortest : (z : ℤ) → FitsSigned w64 z → IsShortest SpellsSleb128 (sleb z) z
unfolding sleb
sleb_shortest z h = record { spells = spells z h; least = λ other s. least _ z s }
