-- Numbers of fewer than eight bytes, read as numbers of eight whose most significant bytes are zero.
use Rattle.std.proofs.Common.{◌≡◌, ℕ, zero, suc, ◌+◌, ◌-◌, ◌*◌, ◌^◌, ◌≤◌, Bool, true, false, List, [], ◌∷◌, ◌++◌}
use Rattle.std.proofs.Common.{length, take, drop, reverse, Ok, inl, inr, refl, ap, ◌∙◌, arith, pow-suc}
use Rattle.std.proofs.Math.ListN.{replicate}
use Rattle.std.proofs.lemmas.Bool.{cases_lt, le-ltb, lt-ltb}
use Rattle.std.proofs.lemmas.List.{length-append, length-take-le, take_all, take-replicate, drop-replicate}
use Rattle.std.proofs.lemmas.List.{reverse-append, length-replicate}
use Rattle.std.proofs.lemmas.Slice.{take-put_mid}
use borrow.Rule.Slice.PartMut.{put_mid}
use Rattle.gimli_core.specs.Numbers.{le_value, value_of}
use Rattle.gimli_core.specs.Reading.{Read, number_at, split_at}

-- further bytes are worth more
pub le_value-append : (xs ys : List ℕ) → le_value (xs ++ ys) ≡ le_value xs + 256 ^ length xs * le_value ys
le_value-append [] ys = omega arith
le_value-append (x ∷ xs) ys =
    let rest = le_value-append xs ys in
    let worth : 256 ^ length (x ∷ xs) ≡ 256 ^ length xs * 256 = pow-suc 256 (length xs) in
    rw (rest, worth) (omega arith)

-- eight zero bytes
abbrev pub zeros_8 : List ℕ
zeros_8 = 0 ∷ 0 ∷ 0 ∷ 0 ∷ 0 ∷ 0 ∷ 0 ∷ 0 ∷ []

abbrev zeros : ℕ → List ℕ
zeros n = replicate n 0

le_value-zeros : (n : ℕ) → le_value (zeros n) ≡ 0
le_value-zeros zero = refl
le_value-zeros (suc n) = rw (le_value-zeros n) refl

le_value-zeros_reversed : (n : ℕ) → le_value (reverse (zeros n)) ≡ 0
le_value-zeros_reversed zero = refl
le_value-zeros_reversed (suc n) =
    let split : reverse (zeros (suc n)) ≡ reverse (zeros n) ++ 0 ∷ [] = reverse-append (0 ∷ []) (zeros n) in
    rw (split, le_value-append, le_value-zeros_reversed n) (omega arith)

-- zeros above
padded_little : (n : ℕ) (slice : List ℕ) → n ≤ 8 → length slice ≡ n
    → value_of false (take 8 (slice ++ drop n zeros_8)) ≡ value_of false slice
padded_little n slice le is =
    let above : drop n zeros_8 ≡ zeros (8 - n) = drop-replicate n 8 0 in
    let all : length (slice ++ zeros (8 - n))
    ≤ 8 = omega (arith, length-append slice (zeros (8 - n)), length-replicate (8 - n) zero) in
    rw (above, take_all 8 (slice ++ zeros (8 - n)) all, le_value-append, le_value-zeros) (omega arith)

-- zeros in front
padded_big : (n : ℕ) (slice : List ℕ) → n ≤ 8 → length slice ≡ n
    → value_of true (take 8 (put_mid (8 - n) (8 - (8 - n)) zeros_8 slice)) ≡ value_of true slice
padded_big n slice le is =
    let small : 8 - n ≤ 8 = omega arith in
    let whole : 8 ≡ 8 - n + length slice = omega arith in
    let room : 8 - n ≤ length zeros_8 = small in
    let front : take (8 - n) zeros_8 ≡ zeros (8 - n) = take-replicate (8 - n) 8 0 small in
    rw (
      take-put_mid (8 - n) (8 - (8 - n)) zeros_8 slice 8 whole room,
      front,
      reverse-append,
      le_value-append,
      le_value-zeros_reversed,
    )
    (omega arith)

-- bytes that were split off
pub split_ok : (n : ℕ) (bytes slice rest : List ℕ) → ◌≡◌ {A = Read (List ℕ)} (Ok slice, rest) (split_at n bytes)
    → (n ≤ length bytes) × (slice ≡ take n bytes) × (rest ≡ drop n bytes)
split_ok n bytes slice rest e = elim (cases_lt (length bytes) n) [
  | inl lt ↦ let f = ap (λ (r : Read (List ℕ)). r.0) (rw (lt-ltb (length bytes) n lt, split_at) at e) in absurd cc
  | inr le ↦ let f = rw (le-ltb (length bytes) n le, split_at) at e in
      let value = ap (λ (r : Read (List ℕ)). r.0) f in
      (le, cc, ap (λ (r : Read (List ℕ)). r.1) f)
]

-- their number
number_of_split : (is_big : Bool) (n size v : ℕ) (bytes slice rest after : List ℕ) → size ≡ n
    → ◌≡◌ {A = Read (List ℕ)} (Ok slice, after) (split_at size bytes)
    → rest ≡ after
    → (n ≤ length bytes → length slice ≡ n → v ≡ value_of is_big slice)
    → ◌≡◌ {A = Read ℕ} (Ok v, rest) (number_at is_big n bytes)
number_of_split is_big n size v bytes slice rest after same e is value =
    let taken = split_ok n bytes slice after (rw same at e) in
    let len : length slice ≡ n = ap length taken.1 ∙ length-take-le n bytes taken.0 in
    let number : v ≡ value_of is_big (take n bytes) = value taken.0 len ∙ ap (value_of is_big) taken.1 in
    rw (le-ltb (length bytes) n taken.0, number, is, taken.2) refl

pub read_little : (n size v : ℕ) (buf bytes slice rest after : List ℕ) → n ≤ 8 → size ≡ n
    → ◌≡◌ {A = Read (List ℕ)} (Ok slice, after) (split_at size bytes)
    → rest ≡ after
    → buf ≡ slice ++ drop n zeros_8 → v ≡ value_of false (take 8 buf)
    → ◌≡◌ {A = Read ℕ} (Ok v, rest) (number_at false n bytes)
read_little n size v buf bytes slice rest after le same e is written value =
    number_of_split false n size v bytes slice rest after same e is (λ there len.
    value ∙ ap (λ (b : List ℕ). value_of false (take 8 b)) written ∙ padded_little n slice le len)

pub read_big : (n size v : ℕ) (buf bytes slice rest after : List ℕ) → n ≤ 8 → size ≡ n
    → ◌≡◌ {A = Read (List ℕ)} (Ok slice, after) (split_at size bytes)
    → rest ≡ after
    → buf ≡ put_mid (8 - n) (8 - (8 - n)) zeros_8 slice → v ≡ value_of true (take 8 buf)
    → ◌≡◌ {A = Read ℕ} (Ok v, rest) (number_at true n bytes)
read_big n size v buf bytes slice rest after le same e is written value =
    number_of_split true n size v bytes slice rest after same e is (λ there len.
    value ∙ ap (λ (b : List ℕ). value_of true (take 8 b)) written ∙ padded_big n slice le len)
