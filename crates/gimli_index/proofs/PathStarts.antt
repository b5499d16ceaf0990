-- Where the components of a path begin.
use Rattle.std.proofs.Common.{◌≡◌, ◌∙◌, ◌-◌, ℕ, zero, suc, Bool, true, false, List, [], ◌∷◌, drop, if◌then◌else◌, refl}
use Rattle.std.proofs.Common.{sym, ap, subst, arith}
use Rattle.std.specs.List.{slice_split}
use Rattle.gimli_lookup.specs.Paths.{is_separator}
use Rattle.gimli_lookup.specs.Components.{resolved, with_component}
use Rattle.gimli_lookup.specs.inside.Paths.{up_by}
use Rattle.gimli_lookup.proofs.ComponentLists.{up_by_root, up_by_nothing}
use Rattle.std.proofs.lemmas.List.Splits.{slice_split_none}
use Rattle.gimli_index.proofs.LastComponents.{HaveNoSeparator}

-- those that are left of a text, by what comes before it
abbrev left : ℕ → Bool → List ℕ → List (List ℕ)
left ups root text = up_by ups (resolved (if root then [] ∷ [] else []) (slice_split is_separator text))

-- at the beginning of a path that begins at the root
pub at_root : (ups : ℕ) (root : Bool) (text : List ℕ) → text ≡ [] → root ≡ true
    → left ups root text ≡ [] ∷ resolved [] (slice_split is_separator text)
at_root ups root text nothing yes_root =
    ap (left ups root) nothing ∙ ap (λ b. left ups b []) yes_root ∙ up_by_root ups
    ∙ sym (ap (λ xs. [] ∷ resolved [] (slice_split is_separator xs)) nothing)

-- and of one that begins anywhere
pub at_dots : (ups : ℕ) (root : Bool) (text : List ℕ) → text ≡ [] → root ≡ false → (ups ≡ 0 → ⊥)
    → left ups root text ≡ (46 ∷ 46 ∷ []) ∷ left (ups - 1) root text
at_dots zero root text nothing no_root some = absurd (some refl)
at_dots (suc n) root text nothing no_root some =
    let same : n ≡ suc n - 1 = omega arith in
    ap (left (suc n) root) nothing ∙ ap (λ b. left (suc n) b []) no_root ∙ up_by_nothing (suc n)
    ∙ ap (λ cs. (46 ∷ 46 ∷ []) ∷ cs) (sym (up_by_nothing n))
    ∙ sym (ap (λ xs. (46 ∷ 46 ∷ []) ∷ left n root xs) nothing ∙ ap (λ b. (46 ∷ 46 ∷ []) ∷ left n b []) no_root)
    ∙ ap (λ m. (46 ∷ 46 ∷ []) ∷ left m root text) same

-- a text without a separator is one component
pub one_component : (text : List ℕ) (first : ℕ) → first ≡ 0 → HaveNoSeparator (drop first text)
    → (before : List (List ℕ))
    → resolved before (slice_split is_separator text) ≡ with_component before text
one_component [] first is clean before = refl
one_component (b ∷ text) first is clean before =
    let all : HaveNoSeparator (b ∷ text) = subst (λ (n : ℕ). HaveNoSeparator (drop n (b ∷ text))) is clean in
    ap (resolved before) (slice_split_none is_separator (b ∷ text) all)
