-- Steps for the values of a function from an index on, and the first index of a value that passes a test.
use Rattle.std.proofs.Common.{◌≡◌, sym, ◌∙◌, ap, ℕ, ◌+◌, ◌<◌, ◌≤◌, ◌∷◌, Bool, true, false, cond, Option, Some, None}
use Rattle.std.proofs.Common.{Result, map, slice_get, arith}
use Rattle.std.specs.List.{filter, position_from, range_with_len}
use Rattle.elf_sections.specs.Steps.{◌>>=◌, steps}
use Rattle.elf_sections.proofs.Headers.{values, values_step, values_end, get_from, get_past}

-- a step for each value from an index on
abbrev pub steps_from : {S X E : Type 0} → (S → X → Result S E) → (ℕ → X) → ℕ → ℕ → S → Result S E
steps_from step f n index s = steps step s (values f n index)

pub steps_next : {S X E : Type 0} (step : S → X → Result S E) (f : ℕ → X) (n index : ℕ) (s : S) (x : X) → index < n
    → x ≡ f index
    → steps_from step f n index s ≡ (step s x >>= λ s. steps_from step f n (index + 1) s)
steps_next step f n index s x h is =
    ap (steps step s) (values_step f n index h) ∙ ap (λ y. steps step s (y ∷ values f n (index + 1))) (sym is)

-- a step for each value from an index on that passes a test
abbrev pub kept_from : {S X E : Type 0} → (S → X → Result S E) → (X → Bool) → (ℕ → X) → ℕ → ℕ → S → Result S E
kept_from step q f n index s = steps step s (filter q (values f n index))

kept_next : {S X E : Type 0} (step : S → X → Result S E) (q : X → Bool) (f : ℕ → X) (n index : ℕ) (s : S) (x : X)
    → index < n → x ≡ f index
    → kept_from step q f n index s ≡ steps step s (filter q (x ∷ values f n (index + 1)))
kept_next step q f n index s x h is =
    ap (λ xs. steps step s (filter q xs)) (values_step f n index h)
    ∙ ap (λ y. steps step s (filter q (y ∷ values f n (index + 1)))) (sym is)

pub kept_passes : {S X E : Type 0} (step : S → X → Result S E) (q : X → Bool) (f : ℕ → X) (n index : ℕ) (s : S) (x : X)
    → index < n → x ≡ f index → q x ≡ true
    → kept_from step q f n index s ≡ (step s x >>= λ s. kept_from step q f n (index + 1) s)
kept_passes step q f n index s x h is passes =
    kept_next step q f n index s x h is
    ∙ ap (λ b. steps step s (cond b (x ∷ filter q (values f n (index + 1))) (filter q (values f n (index + 1))))) passes

pub kept_fails : {S X E : Type 0} (step : S → X → Result S E) (q : X → Bool) (f : ℕ → X) (n index : ℕ) (s : S) (x : X)
    → index < n → x ≡ f index → q x ≡ false
    → kept_from step q f n index s ≡ kept_from step q f n (index + 1) s
kept_fails step q f n index s x h is fails =
    kept_next step q f n index s x h is
    ∙ ap (λ b. steps step s (cond b (x ∷ filter q (values f n (index + 1))) (filter q (values f n (index + 1))))) fails

-- the first index from one on whose value passes a test
abbrev pub first_index : {X : Type 0} → (X → Bool) → (ℕ → X) → ℕ → ℕ → Option ℕ
first_index p f n index = position_from p index (values f n index)

index_next : {X : Type 0} (p : X → Bool) (f : ℕ → X) (n index : ℕ) (x : X) → index < n → x ≡ f index
    → first_index p f n index ≡ cond (p x) (Some index) (first_index p f n (index + 1))
index_next p f n index x h is =
    ap (position_from p index) (values_step f n index h)
    ∙ ap (λ y. position_from p index (y ∷ values f n (index + 1))) (sym is)

pub index_found : {X : Type 0} (p : X → Bool) (f : ℕ → X) (n index : ℕ) (x : X) → index < n → x ≡ f index → p x ≡ true
    → first_index p f n index ≡ Some index
index_found p f n index x h is passes =
    index_next p f n index x h is ∙ ap (λ b. cond b (Some index) (first_index p f n (index + 1))) passes

pub index_passed : {X : Type 0} (p : X → Bool) (f : ℕ → X) (n index : ℕ) (x : X) → index < n → x ≡ f index → p x ≡ false
    → first_index p f n index ≡ first_index p f n (index + 1)
index_passed p f n index x h is fails =
    index_next p f n index x h is ∙ ap (λ b. cond b (Some index) (first_index p f n (index + 1))) fails

pub index_end : {X : Type 0} (p : X → Bool) (f : ℕ → X) (n index : ℕ) → n ≤ index → first_index p f n index ≡ None
index_end p f n index h = ap (position_from p index) (values_end f n index h)

-- the value of an index, and none past them
pub value_at : {X : Type 0} (f : ℕ → X) (n index : ℕ) → index < n
    → slice_get (map f (range_with_len 0 n)) index ≡ Some (f index)
value_at f n index h = let same : 0 + index ≡ index = omega arith in get_from f n 0 index h ∙ ap (λ k. Some (f k)) same

pub no_value_at : {X : Type 0} (f : ℕ → X) (n index : ℕ) → n ≤ index
    → slice_get (map f (range_with_len 0 n)) index ≡ None
no_value_at f n index h = get_past f n 0 index h
