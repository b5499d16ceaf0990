-- The starts of an index one by one.
use Rattle.std.proofs.Common.{◌≡◌, ◌∙◌, ◌+◌, ◌<◌, ◌≤◌, ℕ, List, [], ◌∷◌, drop, length, map, ap, arith}
use Rattle.std.specs.List.{range_with_len}
use Rattle.std.proofs.lemmas.List.{drop_all, drop_more}
use Rattle.std.proofs.lemmas.Option.{get_or_from_slice_get}
use Rattle.gimli_index.specs.Meaning.{start_at, starts_of}
use Rattle.gimli_index.specs.Parts.{Index}
use Rattle.gimli_index.proofs.Values.{value_at, value_count}

-- the values of a function from one on, and none past them
pub value_here : {X : Type 0} (f : ℕ → X) (n i : ℕ) → i < n
    → drop i (map f (range_with_len 0 n)) ≡ f i ∷ drop (i + 1) (map f (range_with_len 0 n))
value_here {X} f n i within =
    let values : List X = map f (range_with_len 0 n) in
    let inside : i < length values = omega (arith, within, value_count f n) in
    drop_more values i (f i) inside
    ∙ ap (λ (x : X). x ∷ drop (i + 1) values) (get_or_from_slice_get values i (f i) (f i) (value_at f n i within))

pub no_value_here : {X : Type 0} (f : ℕ → X) (n i : ℕ) → n ≤ i → drop i (map f (range_with_len 0 n)) ≡ []
no_value_here f n i past = drop_all i (map f (range_with_len 0 n)) (omega (arith, past, value_count f n))

pub start_here : (index : Index) (i : ℕ) → i < index.starts
    → drop i (starts_of index) ≡ start_at index i ∷ drop (i + 1) (starts_of index)
start_here index i within = value_here (start_at index) index.starts i within

pub no_start : (index : Index) (i : ℕ) → index.starts ≤ i → drop i (starts_of index) ≡ []
no_start index i past = no_value_here (start_at index) index.starts i past
