-- The least and the greatest of numbers, and the bounds of sections, found one after the other.
use Rattle.std.proofs.Common.{◌≡◌, refl, sym, ◌∙◌, ap, subst, ℕ, suc, zero, ◌≤◌, min, max, ◌⊎◌, inl, inr, List, [], ◌∷◌}
use Rattle.std.proofs.Common.{map, Option, Some, None}
use Rattle.std.proofs.Common.{MatchOption, arith}
use Rattle.std.proofs.Math.Nat.{zero-min, min-zero, suc-min-suc, min-le_left, min-le_right, le-max_left, le-max_right}
use Rattle.std.proofs.Math.Nat.{max-add-min}
use Rattle.std.specs.List.{All, Contains}
use Rattle.elf_sections.specs.File.{IsLeast, IsGreatest}
use Rattle.elf_sections.specs.SectionHeader.{end_of}
use Rattle.elf_sections.specs.CodeBounds.{bounds_with}
use Rattle.elf_sections.specs.declared.section_header.SectionHeader.{SectionHeader}
use Rattle.elf_sections.specs.declared.code_bounds.CodeBounds.{CodeBounds}

-- one of two numbers, to which both stand as R says
record Picks (pick : ℕ → ℕ → ℕ) (R : ℕ → ℕ → Type 0) : Type 0 where
  one : (a b : ℕ) → (pick a b ≡ a) ⊎ (pick a b ≡ b)
  same : (a : ℕ) → R a a
  left : (r a b : ℕ) → R r (pick a b) → R r a
  right : (r a b : ℕ) → R r (pick a b) → R r b

min_cases : (a b : ℕ) → (min a b ≡ a) ⊎ (min a b ≡ b)
min_cases zero b = inl (zero-min b)
min_cases (suc a) zero = inr (min-zero (suc a))
min_cases (suc a) (suc b) =
    elim (min_cases a b) [ inl e ↦ inl (suc-min-suc a b ∙ ap suc e) | inr e ↦ inr (suc-min-suc a b ∙ ap suc e) ]

picks_min : Picks min (λ r n. r ≤ n)
picks_min = record {
  one = min_cases;
  same = λ a. omega arith;
  left = λ r a b h. omega (arith, min-le_left a b);
  right = λ r a b h. omega (arith, min-le_right a b);
}

picks_max : Picks max (λ r n. n ≤ r)
picks_max = record {
  one = λ a b.
      elim (min_cases a b)
      [ inl e ↦ inr (omega (arith, max-add-min a b)) | inr e ↦ inl (omega (arith, max-add-min a b)) ];
  same = λ a. omega arith;
  left = λ r a b h. omega (arith, le-max_left a b);
  right = λ r a b h. omega (arith, le-max_right a b);
}

-- the number that is left where one of two is picked each time
abbrev picked : (ℕ → ℕ → ℕ) → ℕ → List ℕ → ℕ
picked pick n [] = n
picked pick n (m ∷ numbers) = picked pick (pick n m) numbers

is_one : (pick : ℕ → ℕ → ℕ) (R : ℕ → ℕ → Type 0) → Picks pick R → (m n r : ℕ) (numbers : List ℕ)
    → Contains (pick m n ∷ numbers) r
    → Contains (m ∷ n ∷ numbers) r
is_one pick R picks m n r numbers (zero, inside, is) =
    elim (picks.one m n) [ inl e ↦ (0, omega arith, sym e ∙ is) | inr e ↦ (1, omega arith, sym e ∙ is) ]
is_one pick R picks m n r numbers (suc k, inside, is) = (suc (suc k), omega arith, is)

holds : (pick : ℕ → ℕ → ℕ) (R : ℕ → ℕ → Type 0) → Picks pick R → (m n r : ℕ) (numbers : List ℕ)
    → All (R r) (pick m n ∷ numbers)
    → All (R r) (m ∷ n ∷ numbers)
holds pick R picks m n r numbers h zero d inside = picks.left r m n (h 0 d (omega arith))
holds pick R picks m n r numbers h (suc zero) d inside = picks.right r m n (h 0 d (omega arith))
holds pick R picks m n r numbers h (suc (suc k)) d inside = h (suc k) d (omega arith)

-- it is one of the numbers, to which all stand as R says
best : (pick : ℕ → ℕ → ℕ) (R : ℕ → ℕ → Type 0) → Picks pick R → (m : ℕ) (numbers : List ℕ)
    → Contains (m ∷ numbers) (picked pick m numbers) × All (R (picked pick m numbers)) (m ∷ numbers)
best pick R picks m [] = ((0, omega arith, refl), only)
  where
    only : All (R m) (m ∷ [])
    only zero d inside = picks.same m
    only (suc k) d inside = absurd (omega arith)
best pick R picks m (n ∷ numbers) =
    let later = best pick R picks (pick m n) numbers in (
      is_one pick R picks m n (picked pick m (n ∷ numbers)) numbers later.0,
      holds pick R picks m n (picked pick m (n ∷ numbers)) numbers later.1,
    )

-- the bounds of sections, and of those before them
abbrev pub bounds_of : Option CodeBounds → List SectionHeader → Option CodeBounds
bounds_of bounds [] = bounds
bounds_of bounds (header ∷ headers) = bounds_of (Some (bounds_with bounds header)) headers

bounds_some : (bounds : CodeBounds) (headers : List SectionHeader) → bounds_of (Some bounds) headers ≡ Some (record {
  lowest = picked min bounds.lowest (map (λ header. header.address) headers);
  end = picked max bounds.end (map end_of headers);
})
bounds_some bounds [] = refl
bounds_some bounds (header ∷ headers) = bounds_some (bounds_with (Some bounds) header) headers

-- they begin at the least address, or there are none
pub lowest_of_all : (headers : List SectionHeader)
    → MatchOption (bounds_of None headers) (map (λ header. header.address) headers ≡ [])
    (λ bounds. IsLeast (map (λ header. header.address) headers) bounds.lowest)
lowest_of_all [] = refl
lowest_of_all (header ∷ headers) =
    let addresses : List ℕ = map (λ header. header.address) (header ∷ headers) in
    let least = best min (λ r n. r ≤ n) picks_min header.address (map (λ header. header.address) headers) in
    subst (λ (o : Option CodeBounds). MatchOption o (addresses ≡ []) (λ bounds. IsLeast addresses bounds.lowest))
    (sym (bounds_some (bounds_with None header) headers)) (record { is_one = least.0; is_least = least.1 })

-- they end at the greatest end
pub end_of_all : (headers : List SectionHeader)
    → MatchOption (bounds_of None headers) (map end_of headers ≡ []) (λ bounds.
    IsGreatest (map end_of headers) bounds.end)
end_of_all [] = refl
end_of_all (header ∷ headers) =
    let ends : List ℕ = map end_of (header ∷ headers) in
    let greatest = best max (λ r n. n ≤ r) picks_max (end_of header) (map end_of headers) in
    subst (λ (o : Option CodeBounds). MatchOption o (ends ≡ []) (λ bounds. IsGreatest ends bounds.end))
    (sym (bounds_some (bounds_with None header) headers)) (record { is_one = greatest.0; is_greatest = greatest.1 })
