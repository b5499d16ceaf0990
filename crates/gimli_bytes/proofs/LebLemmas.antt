-- The groups of a number, one at a time.
use Rattle.std.specs.Prelude.{◌≡◌, ◌+◌, ◌-◌, ◌/◌, ◌%◌, ◌<◌, ◌≤◌, ◌∷◌, ◌++◌, if◌then◌else◌}
use Rattle.gimli_bytes.proofs.Common
use Common.{ℕ, zero, suc, true, false, List, [], length, take, set, refl, sym, ap, ◌∙◌, arith, append_assoc, ℤ, pos}
use Common.{negsuc, take_more_set, int_div_euclid, uleb_within, low_bits, high_bits, has_seven_bits}
use Rattle.gimli_bytes.specs.Number.{uleb, sleb, sleb_within}

-- the last group
pub uleb_last : (k v : ℕ) → v < 128 → uleb_within k v ≡ v ∷ []
uleb_last zero v h = grind (arith)
uleb_last (suc k) v h = grind (arith)

pub uleb_one : (v : ℕ) → v < 128 → uleb v ≡ v ∷ []
unfolding uleb
uleb_one v h = uleb_last 9 v h

-- a group that isn't the last
pub uleb_more : (k v : ℕ) → 128 ≤ v → uleb_within (suc k) v ≡ (v % 128 + 128) ∷ uleb_within k (v / 128)
uleb_more k v h = grind (arith)

-- one more byte in the buffer
pub uleb_step : (bytes : List ℕ) (i v : ℕ) (all : List ℕ) → i < length bytes → i < 9 → 128 ≤ v
    → take i bytes ++ uleb_within (9 - i) v ≡ all
    → take (i + 1) (set bytes i (v % 128 + 128)) ++ uleb_within (9 - (i + 1)) (v / 128) ≡ all
uleb_step bytes i v all short low high so =
    let down : 9 - i ≡ suc (9 - (i + 1)) = omega arith in
    ap (λ t. t ++ uleb_within (9 - (i + 1)) (v / 128)) (take_more_set _ i _ short)
    ∙ append_assoc (take i bytes) ((v % 128 + 128) ∷ []) (uleb_within (9 - (i + 1)) (v / 128))
    ∙ ap (λ t. take i bytes ++ t) (sym (uleb_more _ v high)) ∙ ap (λ k. take i bytes ++ uleb_within k v) (sym down) ∙ so

-- the last byte in the buffer
pub uleb_end : (bytes : List ℕ) (i v : ℕ) (all : List ℕ) → i < length bytes → v < 128
    → take i bytes ++ uleb_within (9 - i) v ≡ all
    → take (i + 1) (set bytes i v) ≡ all
uleb_end bytes i v all short low so = grind (arith, take_more_set)

-- the same of signed numbers
pub high_bits_is : (z : ℤ) → int_div_euclid z (pos 128) ≡ high_bits z
high_bits_is (pos n) = refl
high_bits_is (negsuc n) = refl

pub sleb_last : (k : ℕ) (z : ℤ) → has_seven_bits z ≡ true → sleb_within k z ≡ low_bits z ∷ []
unfolding sleb_within
sleb_last zero z h = refl
sleb_last (suc k) z h = ap (λ b. if b then low_bits z ∷ [] else (low_bits z + 128) ∷ sleb_within k (high_bits z)) h

pub sleb_one : (z : ℤ) → has_seven_bits z ≡ true → sleb z ≡ low_bits z ∷ []
unfolding sleb
sleb_one z h = sleb_last 9 z h

pub sleb_more : (k : ℕ) (z : ℤ) → has_seven_bits z ≡ false
    → sleb_within (suc k) z ≡ (low_bits z + 128) ∷ sleb_within k (high_bits z)
unfolding sleb_within
sleb_more k z h = ap (λ b. if b then low_bits z ∷ [] else (low_bits z + 128) ∷ sleb_within k (high_bits z)) h

pub sleb_step : (bytes : List ℕ) (i : ℕ) (z : ℤ) (all : List ℕ) → i < length bytes → i < 9 → has_seven_bits z ≡ false
    → take i bytes ++ sleb_within (9 - i) z ≡ all
    → take (i + 1) (set bytes i (low_bits z + 128)) ++ sleb_within (9 - (i + 1)) (int_div_euclid z (pos 128)) ≡ all
sleb_step bytes i z all short low high so =
    let down : 9 - i ≡ suc (9 - (i + 1)) = omega arith in
    ap (λ t. t ++ sleb_within (9 - (i + 1)) (int_div_euclid z (pos 128))) (take_more_set _ i _ short)
    ∙ append_assoc (take i bytes) ((low_bits z + 128) ∷ []) (sleb_within (9 - (i + 1)) (int_div_euclid z (pos 128)))
    ∙ ap (λ rest. take i bytes ++ ((low_bits z + 128) ∷ sleb_within (9 - (i + 1)) rest)) (high_bits_is z)
    ∙ ap (λ t. take i bytes ++ t) (sym (sleb_more (9 - (i + 1)) z high))
    ∙ ap (λ k. take i bytes ++ sleb_within k z) (sym down) ∙ so

pub sleb_end : (bytes : List ℕ) (i : ℕ) (z : ℤ) (all : List ℕ) → i < length bytes → has_seven_bits z ≡ true
    → take i bytes ++ sleb_within (9 - i) z ≡ all
    → take (i + 1) (set bytes i (low_bits z)) ≡ all
sleb_end bytes i z all short low so =
    take_more_set _ i _ short ∙ ap (λ t. take i bytes ++ t) (sym (sleb_last (9 - i) z low)) ∙ so
