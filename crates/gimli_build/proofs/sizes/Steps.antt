-- How many operations one position is after another.
use Rattle.std.specs.Prelude.{◌≡◌, ◌+◌, ◌-◌, ◌*◌, ◌/◌, ◌%◌, ◌<◌, ◌≤◌}
use Rattle.gimli_build.proofs.Common.{ℕ, arith, ap, ◌∙◌, inl, inr, cases_lt}
use Rattle.std.proofs.Math.Nat.{mul-le-mul_right, mul-div_cancel, add-mul, mul_comm}
use Rattle.std.proofs.lemmas.Nat.{div-add-mod', le-div}

-- two multiples of m that differ are at least m apart
apart_by : (m p o : ℕ) → p % m ≡ 0 → o % m ≡ 0 → p < o → m ≤ o - p
apart_by m p o hp ho lt = grind arith

-- the operations from a position to a later one aren't fewer than those of the first in its own instruction
pub operations_above : (m k p j o i : ℕ) → 0 < m → p % m ≡ 0 → o % m ≡ 0 → p ≤ o → (o ≡ p → j ≤ i) → j < k
    → j ≤ (o - p) / m * k + i
operations_above m k p j o i pm hp ho le same jk = elim (cases_lt p o) [
  | inl below ↦
      (let h0 = apart_by m p o hp ho below in
      let one : 1 ≤ (o - p) / m = le-div 1 _ m pm (omega arith) in
      let h : 1 * k ≤ (o - p) / m * k = mul-le-mul_right k one in omega (arith, h))
  | inr above ↦ (let h = same (omega arith) in omega (arith, h))
]

-- whole instructions between two positions
pub whole_steps : (m p o : ℕ) → 1 ≤ m → p % m ≡ 0 → o % m ≡ 0 → p ≤ o → m * ((o - p) / m) + p ≡ o
whole_steps m p o pm hp ho le =
    let ep = div-add-mod' p m in
    let eo = div-add-mod' o m in
    let t = o / m - p / m in
    let up : p / m ≤ o / m = le-div _ o m pm (omega arith) in
    let so : o / m ≡ p / m + t = omega arith in
    let parts = add-mul _ _ _ in
    let step0 = ap (λ x. x * m) so ∙ parts in
    let diff : o - p ≡ t * m = omega arith in
    let quotient : (o - p) / m ≡ t = rw diff (mul-div_cancel t (omega arith)) in
    rw quotient (let c = mul_comm m t in omega arith)

-- the operations of whole instructions and a part of one, taken apart again
pub taken_apart : (k t i : ℕ) → i < k → ((t * k + i) / k ≡ t) × ((t * k + i) % k ≡ i)
taken_apart k t i lt = grind arith

-- a special opcode by its parts
pub special_parts : (g u n : ℕ) → 1 ≤ g → u < g → ((13 + u + n * g - 13) % g ≡ u) × ((13 + u + n * g - 13) / g ≡ n)
special_parts g u n pg lt = grind arith

-- where one special opcode doesn't do, there are as many operations as const_add_pc has
pub enough_of : (g u n q : ℕ) → 1 ≤ g → u < g → 255 < 13 + u + n * g → q * g ≤ 242 → q ≤ n
enough_of g u n q pg lt over le = grind arith

-- the special opcode that advances nothing is no sum of a line advance and operations
pub none_of : (n u g b : ℕ) → u + n * g ≡ b → b < g → n ≡ 0
none_of n u g b h lt = grind arith
