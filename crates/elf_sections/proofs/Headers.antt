-- The section headers from an index on.
use Rattle.std.proofs.Common.{◌≡◌, refl, sym, ◌∙◌, ap, ℕ, suc, zero, ◌+◌, ◌-◌, ◌*◌, ◌<◌, ◌≤◌, List, [], ◌∷◌, map, drop}
use Rattle.std.proofs.Common.{Bool, true, false, cond, Option, Some}
use Rattle.std.proofs.Common.{None, slice_get, arith}
use Rattle.std.specs.List.{range_with_len, find, filter}
use Rattle.elf_sections.specs.SectionHeader.{section_header}
use Rattle.elf_sections.specs.Table.{section_headers}
use Rattle.elf_sections.specs.declared.layout.Layout.{Layout}
use Rattle.elf_sections.specs.declared.section_header.SectionHeader.{SectionHeader}

-- the header of an index
abbrev pub header_of : Layout → ℕ → List ℕ → ℕ → SectionHeader
header_of layout entry_size bytes index = section_header layout (drop (index * entry_size) bytes)

-- the values of a function from a number on
abbrev pub values : {X : Type 0} → (ℕ → X) → ℕ → ℕ → List X
values f n index = map f (range_with_len index (n - index))

-- the first of these
pub values_step : {X : Type 0} (f : ℕ → X) (n index : ℕ) → index < n
    → values f n index ≡ f index ∷ values f n (index + 1)
values_step f n index h =
    let more : n - index ≡ suc (n - (index + 1)) = omega arith in
    ap (λ k. map f (range_with_len index k)) more

-- none from the last on
pub values_end : {X : Type 0} (f : ℕ → X) (n index : ℕ) → n ≤ index → values f n index ≡ []
values_end f n index h =
    let none : n - index ≡ 0 = omega arith in
    ap (λ k. map f (range_with_len index k)) none

pub get_from : {X : Type 0} (f : ℕ → X) (n first index : ℕ) → index < n
    → slice_get (map f (range_with_len first n)) index ≡ Some (f (first + index))
get_from f zero first index h = absurd (omega arith)
get_from f (suc n) first zero h = let same : first ≡ first + 0 = omega arith in ap (λ k. Some (f k)) same
get_from f (suc n) first (suc index) h =
    let same : (first + 1) + index ≡ first + suc index = omega arith in
    let less : index < n = omega arith in
    get_from f n (first + 1) index less ∙ ap (λ k. Some (f k)) same

pub get_past : {X : Type 0} (f : ℕ → X) (n first index : ℕ) → n ≤ index
    → slice_get (map f (range_with_len first n)) index ≡ None
get_past f zero first index h = refl
get_past f (suc n) first zero h = absurd (omega arith)
get_past f (suc n) first (suc index) h = let less : n ≤ index = omega arith in get_past f n (first + 1) index less

-- the header of an index among all
pub header_at_index : (layout : Layout) (entry_size count : ℕ) (bytes : List ℕ) (index : ℕ) → index < count
    → slice_get (section_headers layout entry_size count bytes) index ≡ Some (header_of layout entry_size bytes index)
header_at_index layout entry_size count bytes index h =
    let same : 0 + index ≡ index = omega arith in
    get_from (header_of layout entry_size bytes) count 0 index h
    ∙ ap (λ k. Some (header_of layout entry_size bytes k)) same

-- no header is past them
pub no_header_at_index : (layout : Layout) (entry_size count : ℕ) (bytes : List ℕ) (index : ℕ) → count ≤ index
    → slice_get (section_headers layout entry_size count bytes) index ≡ None
no_header_at_index layout entry_size count bytes index h = get_past (header_of layout entry_size bytes) count 0 index h

-- all of them
pub values_all : {X : Type 0} (f : ℕ → X) (n : ℕ) → map f (range_with_len 0 n) ≡ values f n 0
values_all f n = let same : n ≡ n - 0 = omega arith in ap (λ k. map f (range_with_len 0 k)) same

-- the first from an index on that passes p, of those that pass q
abbrev pub first_from : {X : Type 0} → (X → Bool) → (X → Bool) → (ℕ → X) → ℕ → ℕ → Option X
first_from p q f n index = find p (filter q (values f n index))

pub first_step : {X : Type 0} (p q : X → Bool) (f : ℕ → X) (n index : ℕ) (x : X) → index < n → x ≡ f index
    → first_from p q f n index ≡ find p (filter q (x ∷ values f n (index + 1)))
first_step p q f n index x h is =
    ap (λ xs. find p (filter q xs)) (values_step f n index h)
    ∙ ap (λ y. find p (filter q (y ∷ values f n (index + 1)))) (sym is)

pub first_found : {X : Type 0} (p q : X → Bool) (f : ℕ → X) (n index : ℕ) (x : X) → index < n → x ≡ f index → q x ≡ true
    → p x ≡ true
    → first_from p q f n index ≡ Some x
first_found p q f n index x h is passes_q passes_p =
    first_step p q f n index x h is
    ∙ ap (λ b. find p (cond b (x ∷ filter q (values f n (index + 1))) (filter q (values f n (index + 1))))) passes_q
    ∙ ap (λ b. cond b (Some x) (find p (filter q (values f n (index + 1))))) passes_p

pub first_passed : {X : Type 0} (p q : X → Bool) (f : ℕ → X) (n index : ℕ) (x : X) → index < n → x ≡ f index
    → q x ≡ true → p x ≡ false
    → first_from p q f n index ≡ first_from p q f n (index + 1)
first_passed p q f n index x h is passes_q fails_p =
    first_step p q f n index x h is
    ∙ ap (λ b. find p (cond b (x ∷ filter q (values f n (index + 1))) (filter q (values f n (index + 1))))) passes_q
    ∙ ap (λ b. cond b (Some x) (find p (filter q (values f n (index + 1))))) fails_p

pub first_left : {X : Type 0} (p q : X → Bool) (f : ℕ → X) (n index : ℕ) (x : X) → index < n → x ≡ f index → q x ≡ false
    → first_from p q f n index ≡ first_from p q f n (index + 1)
first_left p q f n index x h is fails_q =
    first_step p q f n index x h is
    ∙ ap (λ b. find p (cond b (x ∷ filter q (values f n (index + 1))) (filter q (values f n (index + 1))))) fails_q

pub first_end : {X : Type 0} (p q : X → Bool) (f : ℕ → X) (n index : ℕ) → n ≤ index → first_from p q f n index ≡ None
first_end p q f n index h = ap (λ xs. find p (filter q xs)) (values_end f n index h)

-- those from an index on that pass p and q
abbrev pub kept_from : {X : Type 0} → (X → Bool) → (X → Bool) → (ℕ → X) → ℕ → ℕ → List X
kept_from p q f n index = filter p (filter q (values f n index))

kept_step : {X : Type 0} (p q : X → Bool) (f : ℕ → X) (n index : ℕ) (x : X) → index < n → x ≡ f index
    → kept_from p q f n index ≡ filter p (filter q (x ∷ values f n (index + 1)))
kept_step p q f n index x h is =
    ap (λ xs. filter p (filter q xs)) (values_step f n index h)
    ∙ ap (λ y. filter p (filter q (y ∷ values f n (index + 1)))) (sym is)

pub kept : {X : Type 0} (p q : X → Bool) (f : ℕ → X) (n index : ℕ) (x : X) → index < n → x ≡ f index → q x ≡ true
    → p x ≡ true
    → kept_from p q f n index ≡ x ∷ kept_from p q f n (index + 1)
kept p q f n index x h is passes_q passes_p =
    kept_step p q f n index x h is
    ∙ ap (λ b. filter p (cond b (x ∷ filter q (values f n (index + 1))) (filter q (values f n (index + 1))))) passes_q
    ∙ ap (λ b. cond b (x ∷ filter p (filter q (values f n (index + 1)))) (filter p (filter q (values f n (index + 1)))))
    passes_p

pub passed : {X : Type 0} (p q : X → Bool) (f : ℕ → X) (n index : ℕ) (x : X) → index < n → x ≡ f index → q x ≡ true
    → p x ≡ false
    → kept_from p q f n index ≡ kept_from p q f n (index + 1)
passed p q f n index x h is passes_q fails_p =
    kept_step p q f n index x h is
    ∙ ap (λ b. filter p (cond b (x ∷ filter q (values f n (index + 1))) (filter q (values f n (index + 1))))) passes_q
    ∙ ap (λ b. cond b (x ∷ filter p (filter q (values f n (index + 1)))) (filter p (filter q (values f n (index + 1)))))
    fails_p

pub left : {X : Type 0} (p q : X → Bool) (f : ℕ → X) (n index : ℕ) (x : X) → index < n → x ≡ f index → q x ≡ false
    → kept_from p q f n index ≡ kept_from p q f n (index + 1)
left p q f n index x h is fails_q =
    kept_step p q f n index x h is
    ∙ ap (λ b. filter p (cond b (x ∷ filter q (values f n (index + 1))) (filter q (values f n (index + 1))))) fails_q

pub kept_end : {X : Type 0} (p q : X → Bool) (f : ℕ → X) (n index : ℕ) → n ≤ index → kept_from p q f n index ≡ []
kept_end p q f n index h = ap (λ xs. filter p (filter q xs)) (values_end f n index h)
