-- The values of a function at numbers that follow one another.
use Rattle.std.proofs.Common.{◌≡◌, refl, ◌∙◌, ap, ℕ, suc, zero, ◌+◌, ◌<◌, ◌≤◌, map, length, Some, None, slice_get}
use Rattle.std.proofs.Common.{arith}
use Rattle.std.specs.List.{range_with_len}

get_from : {X : Type 0} (f : ℕ → X) (n first index : ℕ) → index < n
    → slice_get (map f (range_with_len first n)) index ≡ Some (f (first + index))
get_from f zero first index h = absurd (omega arith)
get_from f (suc n) first zero h = let same : first ≡ first + 0 = omega arith in ap (λ k. Some (f k)) same
get_from f (suc n) first (suc index) h =
    let same : (first + 1) + index ≡ first + suc index = omega arith in
    let less : index < n = omega arith in
    get_from f n (first + 1) index less ∙ ap (λ k. Some (f k)) same

get_past : {X : Type 0} (f : ℕ → X) (n first index : ℕ) → n ≤ index
    → slice_get (map f (range_with_len first n)) index ≡ None
get_past f zero first index h = refl
get_past f (suc n) first zero h = absurd (omega arith)
get_past f (suc n) first (suc index) h = let less : n ≤ index = omega arith in get_past f n (first + 1) index less

-- the value of an index, and none past them
pub value_at : {X : Type 0} (f : ℕ → X) (n index : ℕ) → index < n
    → slice_get (map f (range_with_len 0 n)) index ≡ Some (f index)
value_at f n index h = let same : 0 + index ≡ index = omega arith in get_from f n 0 index h ∙ ap (λ k. Some (f k)) same

pub no_value_at : {X : Type 0} (f : ℕ → X) (n index : ℕ) → n ≤ index
    → slice_get (map f (range_with_len 0 n)) index ≡ None
no_value_at f n index h = get_past f n 0 index h

length_from : {X : Type 0} (f : ℕ → X) (n first : ℕ) → length (map f (range_with_len first n)) ≡ n
length_from f zero first = refl
length_from f (suc n) first = ap suc (length_from f n (first + 1))

-- how many there are
pub value_count : {X : Type 0} (f : ℕ → X) (n : ℕ) → length (map f (range_with_len 0 n)) ≡ n
value_count f n = length_from f n 0
