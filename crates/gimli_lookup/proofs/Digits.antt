-- Binary digits, and searches by halves.
use Rattle.std.proofs.Common.{◌≡◌, ℕ, zero, suc, ◌+◌, ◌/◌, ◌<◌, ◌≤◌, ◌^◌, Bool, true, false, if◌then◌else◌, List}
use Rattle.std.proofs.Common.{length, refl, ap, arith}
use Rattle.std.proofs.Math.Nat.{pow-suc}
use Rattle.gimli_line.specs.declared.run.row.LineRow.{LineRow}
use Rattle.gimli_lookup.specs.Probes.{halvings, binary_digits, never_go_down}
use Rattle.gimli_lookup.specs.Scan.{most_probes}

-- a limit that is large enough doesn't matter
enough : (l m n : ℕ) → n ≤ l → n ≤ m → halvings l n ≡ halvings m n
enough zero zero n p q = refl
enough zero (suc m) zero p q = refl
enough zero (suc m) (suc n) p q = absurd (omega arith)
enough (suc l) zero zero p q = refl
enough (suc l) zero (suc n) p q = absurd (omega arith)
enough (suc l) (suc m) zero p q = refl
enough (suc l) (suc m) (suc n) p q = ap (λ k. 1 + k) (enough l m (suc n / 2) (omega arith) (omega arith))

one_more : (m n : ℕ) → m ≤ n → 1 + m ≤ 1 + n
one_more m n le = omega arith

one_within : (m l : ℕ) → m ≤ l → 1 + m ≤ suc l
one_within m l le = omega arith

none_is_least : (n : ℕ) → 0 ≤ n
none_is_least n = omega arith

fewer : (l m n : ℕ) → m ≤ n → halvings l m ≤ halvings l n
fewer zero m n p = none_is_least 0
fewer (suc l) zero n p = none_is_least (halvings (suc l) n)
fewer (suc l) (suc m) zero p = absurd (omega arith)
fewer (suc l) (suc m) (suc n) p =
    one_more (halvings l (suc m / 2)) (halvings l (suc n / 2)) (fewer l (suc m / 2) (suc n / 2) (omega arith))

within_limit : (l n : ℕ) → halvings l n ≤ l
within_limit zero n = none_is_least 0
within_limit (suc l) zero = none_is_least (suc l)
within_limit (suc l) (suc n) = one_within (halvings l (suc n / 2)) l (within_limit l (suc n / 2))

-- at most half of what is left costs a digit less
pub halved : (part size : ℕ) → 0 < size → part ≤ size / 2 → 1 + binary_digits part ≤ binary_digits size
halved part zero some half = absurd (omega arith)
halved part (suc n) some half =
    one_more (halvings part part) (halvings n (suc n / 2))
    (omega (arith, enough part n part (omega arith) (omega arith), fewer n part (suc n / 2) half))

pub digits_few : (n : ℕ) → binary_digits n ≤ n
digits_few n = within_limit n n

pub probes_few : (rows : List LineRow) → most_probes rows ≤ length rows
probes_few rows = at_test (never_go_down rows)
  where
    at_test : (b : Bool) → (if b then binary_digits (length rows) else length rows) ≤ length rows
    at_test true = digits_few (length rows)
    at_test false = omega arith

-- a larger number has no fewer digits
pub digits_grow : (m n : ℕ) → m ≤ n → binary_digits m ≤ binary_digits n
digits_grow m n le = omega (arith, enough m n m (omega arith) le, fewer n m n le)

-- a number below a power of two has no more digits than the power says
halvings_below : (k l n : ℕ) → n < 2 ^ k → halvings l n ≤ k
halvings_below k zero n lt = none_is_least k
halvings_below k (suc l) zero lt = none_is_least k
halvings_below zero (suc l) (suc n) lt = absurd (omega arith)
halvings_below (suc k) (suc l) (suc n) lt =
    one_within (halvings l (suc n / 2)) k (halvings_below k l (suc n / 2) (omega (arith, pow-suc 2 k)))

pub digits_below : (k n : ℕ) → n < 2 ^ k → binary_digits n ≤ k
digits_below k n lt = halvings_below k n n lt
