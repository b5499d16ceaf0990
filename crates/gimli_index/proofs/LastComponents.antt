-- The last component of a text, as it is written.
use Rattle.std.proofs.Common.{◌≡◌, ◌-◌, ◌+◌, ◌<◌, ◌≤◌, ℕ, Bool, true, false, cond, List, [], ◌∷◌, ◌++◌, length, get_or}
use Rattle.std.proofs.Common.{take, drop, refl, sym, ap}
use Rattle.std.proofs.Common.{◌∙◌, arith}
use Rattle.std.specs.Prelude.{All}
use Rattle.std.specs.List.{slice_split, onto_first}
use Rattle.std.proofs.lemmas.List.{drop_more, take-append-drop}
use Rattle.std.proofs.lemmas.List.Elements.{All-cons}
use Rattle.std.proofs.lemmas.List.Splits.{slice_split-cons_yes, slice_split_none}
use Rattle.gimli_lookup.specs.Paths.{is_separator}
use Rattle.gimli_lookup.specs.Components.{resolved, with_component}
use Rattle.gimli_lookup.proofs.ComponentLists.{resolved_last}

-- none of these bytes parts components
abbrev pub HaveNoSeparator : List ℕ → Type 0
HaveNoSeparator bytes = All (λ b. is_separator b ≡ false) bytes

module _ {X : Type 0} (p : X → Bool) where
  -- there is always a first part
  first_part : (xs : List X) → (part : List X) × (parts : List (List X)) × (slice_split p xs ≡ part ∷ parts)
  first_part [] = ([], [], refl)
  first_part (x ∷ xs) = by_test (p x) (first_part xs)
    where
      by_test : (b : Bool) → (part : List X) × (parts : List (List X)) × (slice_split p xs ≡ part ∷ parts)
          → (part : List X) × (parts : List (List X))
          × (cond b ([] ∷ slice_split p xs) (onto_first x (slice_split p xs)) ≡ part ∷ parts)
      by_test true h = ([], slice_split p xs, refl)
      by_test false h = (x ∷ h.0, h.1, ap (onto_first x) h.2)

  one_more : (x : X) (xs : List X) (last : List X) (b : Bool)
      → cond b ([] ∷ (slice_split p xs ++ last ∷ [])) (onto_first x (slice_split p xs ++ last ∷ []))
      ≡ cond b ([] ∷ slice_split p xs) (onto_first x (slice_split p xs)) ++ last ∷ []
  one_more x xs last true = refl
  one_more x xs last false =
      let h = first_part xs in
      ap (λ parts. onto_first x (parts ++ last ∷ [])) h.2 ∙ sym (ap (λ parts. onto_first x parts ++ last ∷ []) h.2)

  -- what comes after the last separator is the last part
  pub split_last : (xs : List X) (s : X) (last : List X) → p s ≡ true → All (λ x. p x ≡ false) last
      → slice_split p (xs ++ s ∷ last) ≡ slice_split p xs ++ last ∷ []
  split_last [] s last parts_it clean =
      slice_split-cons_yes p s last parts_it ∙ ap (λ parts. [] ∷ parts) (slice_split_none p last clean)
  split_last (x ∷ xs) s last parts_it clean =
      ap (λ parts. cond (p x) ([] ∷ parts) (onto_first x parts)) (split_last xs s last parts_it clean)
      ∙ one_more x xs last (p x)

-- the text is parted at the separator before an index
pub parted : (text : List ℕ) (first : ℕ) → 0 < first → first ≤ length text
    → is_separator (get_or text (first - 1) 0) ≡ true
    → HaveNoSeparator (drop first text) → (before : List (List ℕ))
    → resolved before (slice_split is_separator text)
    ≡ with_component (resolved before (slice_split is_separator (take (first - 1) text))) (drop first text)
parted text first some within parts_it clean before =
    let k = first - 1 in
    let inside : k < length text = omega arith in
    let next : k + 1 ≡ first = omega arith in
    let rest : drop k text ≡ get_or text k 0 ∷ drop first text = drop_more text k 0 inside
    ∙ ap (λ n. get_or text k 0 ∷ drop n text) next in
    let whole : text ≡ take k text ++ get_or text k 0 ∷ drop first text = sym (take-append-drop k text)
    ∙ ap (λ xs. take k text ++ xs) rest in
    ap (λ xs. resolved before (slice_split is_separator xs)) whole
    ∙ ap (resolved before) (split_last is_separator (take k text) (get_or text k 0) (drop first text) parts_it clean)
    ∙ resolved_last before (slice_split is_separator (take k text)) (drop first text)

-- a text without a separator is one component
pub whole_text : (text : List ℕ) → HaveNoSeparator (drop 0 text) → (before : List (List ℕ))
    → resolved before (slice_split is_separator text)
    ≡ with_component (resolved before (slice_split is_separator (take (0 - 1) text))) (drop 0 text)
whole_text [] clean before = refl
whole_text (b ∷ text) clean before = ap (resolved before) (slice_split_none is_separator (b ∷ text) clean)

-- one byte more
pub one_byte_more : (text : List ℕ) (first : ℕ) → 0 < first → first ≤ length text
    → is_separator (get_or text (first - 1) 0) ≡ false
    → HaveNoSeparator (drop first text) → HaveNoSeparator (drop (first - 1) text)
one_byte_more text first some within here clean =
    let k = first - 1 in
    let inside : k < length text = omega arith in
    let next : k + 1 ≡ first = omega arith in
    let rest : drop k text ≡ get_or text k 0 ∷ drop first text = drop_more text k 0 inside
    ∙ ap (λ n. get_or text k 0 ∷ drop n text) next in
    rw rest (All-cons (λ b. is_separator b ≡ false) (get_or text k 0) (drop first text) here clean)
