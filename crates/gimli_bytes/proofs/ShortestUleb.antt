-- The written spelling of an unsigned number is the shortest.
use Rattle.std.specs.Prelude.{◌≡◌, ◌+◌, ◌*◌, ◌/◌, ◌%◌, ◌^◌, ◌<◌, ◌≤◌, ◌∷◌}
use Rattle.gimli_bytes.proofs.Common
use Common.{ℕ, zero, suc, List, [], length, refl, ap, arith, inl, inr, pow-succ', cases_lt, IsLeb128, SpellsUleb128}
use Common.{IsShortest, uleb_within}
use Rattle.gimli_bytes.specs.Number.{uleb}
use Rattle.gimli_bytes.proofs.LebLemmas.{uleb_last, uleb_more}

-- so many groups hold numbers below a power of 128
pub IsLeb128-below : (bytes : List ℕ) (n : ℕ) → IsLeb128 bytes n → n < 128 ^ length bytes
IsLeb128-below [] n h = absurd h
IsLeb128-below (b ∷ []) n h = omega (arith)
IsLeb128-below (b ∷ c ∷ bytes) n h =
    let high : h.1 < 128 ^ length (c ∷ bytes) = IsLeb128-below (c ∷ bytes) h.1 h.3 in
    let power : 128 ^ suc (length (c ∷ bytes)) ≡ 128 * 128 ^ length (c ∷ bytes) = pow-succ' 128 (length (c ∷ bytes)) in
    omega (arith)

-- one more group in front
pub IsLeb128-cons : (b : ℕ) (bytes : List ℕ) (n high : ℕ) → 128 ≤ b → n ≡ b % 128 + 128 * high → IsLeb128 bytes high
    → IsLeb128 (b ∷ bytes) n
IsLeb128-cons b [] n high more so h = absurd h
IsLeb128-cons b (c ∷ bytes) n high more so h = (more, high, so, h)

-- no more groups are written than hold the number
pub length-uleb_within : (more j n : ℕ) → n < 128 ^ suc j → length (uleb_within more n) ≤ suc j
length-uleb_within zero j n h = omega arith
length-uleb_within (suc more) zero n h = grind (arith)
length-uleb_within (suc more) (suc j) n h = elim (cases_lt n 128) [
  | inl low ↦ omega (arith, ap length (uleb_last (suc more) n low))
  | inr high ↦
      let power : 128 ^ suc (suc j) ≡ 128 * 128 ^ suc j = pow-succ' 128 (suc j) in
      let rest : n / 128 < 128 ^ suc j = omega (arith) in
      omega (arith, ap length (uleb_more more n high), length-uleb_within more j (n / 128) rest)
]

-- what is written are groups of the number
pub IsLeb128-uleb_within : (more n : ℕ) → n < 128 ^ suc more → IsLeb128 (uleb_within more n) n
IsLeb128-uleb_within zero n h = grind (arith)
IsLeb128-uleb_within (suc more) n h = elim (cases_lt n 128) [
  | inl low ↦ rw (uleb_last _ n low) (low, refl)
  | inr high ↦
      let power : 128 ^ suc (suc more) ≡ 128 * 128 ^ suc more = pow-succ' 128 (suc more) in
      let rest : n / 128 < 128 ^ suc more = omega (arith) in
      rw (uleb_more _ n high)
      (IsLeb128-cons (n % 128 + 128) _ n _ (omega arith) (omega arith) (IsLeb128-uleb_within more (n / 128) rest))
]

-- any spelling is at least as long
least_uleb : (n : ℕ) (other : List ℕ) → IsLeb128 other n → length (uleb_within 9 n) ≤ length other
least_uleb n [] h = absurd h
least_uleb n (b ∷ bytes) h = length-uleb_within 9 (length bytes) n (IsLeb128-below (b ∷ bytes) n h)

pub uleb_shortest : (n : ℕ) → n < 2 ^ 64 → IsShortest (SpellsUleb128 64) (uleb n) n
unfolding uleb
uleb_shortest n h =
    let below : n < 128 ^ 10 = omega (arith, h) in
    let ten : length (uleb_within 9 n) ≤ 10 = length-uleb_within 9 9 n below in
    record {
      spells = record { groups = IsLeb128-uleb_within 9 n below; short = omega (arith, ten); fits = h };
      least = λ other s. least_uleb n _ s.groups;
    }
