-- The least and the greatest of addresses, and what starts between them need.
use Rattle.std.proofs.Common.{◌≡◌, ◌∙◌, ◌<◌, ◌≤◌, ◌+◌, ◌-◌, ◌^◌, ℕ, zero, suc, Bool, true, false, cond, List, [], ◌∷◌}
use Rattle.std.proofs.Common.{◌++◌}
use Rattle.std.proofs.Common.{fold, get_or, map, nat_lt, refl, sym, subst, arith, inl, inr}
use Rattle.std.specs.Prelude.{min, max, All}
use Rattle.std.specs.List.{Contains}
use Rattle.std.proofs.Math.Nat.{le-max_left, le-max_right, le-min, min-le_left, min-le_right}
use Rattle.std.proofs.lemmas.Bool.{cases_lt, ltb-true}
use Rattle.std.proofs.lemmas.List.Elements.{All-contains}
use Rattle.gimli_index.specs.Header.{highest_base}
use Rattle.gimli_index.specs.Made.{all_addresses, base_for, greatest, least, size_for}
use Rattle.gimli_index.specs.declared.contents.Entry.{Entry}
use Rattle.gimli_index.specs.declared.contents.Statement.{Statement}
use Rattle.gimli_index.specs.declared.header.StartSize.{StartSize}
use Rattle.gimli_index.specs.declared.header.StartSize.TheVariants.{Four, Eight}

-- ---- bounds

min_first : (n : ℕ) (ns : List ℕ) → fold min n ns ≤ n
min_first n [] = omega arith
min_first n (m ∷ ns) =
    let rest : fold min n (m ∷ ns) ≤ min n m = min_first (min n m) ns in omega (arith, rest, min-le_left n m)

min_each : (n : ℕ) (ns : List ℕ) → All (λ m. fold min n ns ≤ m) ns
min_each n [] k d within = absurd (omega (arith, within))
min_each n (m ∷ ns) zero d within =
    let rest : fold min n (m ∷ ns) ≤ min n m = min_first (min n m) ns in omega (arith, rest, min-le_right n m)
min_each n (m ∷ ns) (suc k) d within = min_each (min n m) ns k d (omega (arith, within))

max_first : (n : ℕ) (ns : List ℕ) → n ≤ fold max n ns
max_first n [] = omega arith
max_first n (m ∷ ns) =
    let rest : max n m ≤ fold max n (m ∷ ns) = max_first (max n m) ns in omega (arith, rest, le-max_left n m)

max_each : (n : ℕ) (ns : List ℕ) → All (λ m. m ≤ fold max n ns) ns
max_each n [] k d within = absurd (omega (arith, within))
max_each n (m ∷ ns) zero d within =
    let rest : max n m ≤ fold max n (m ∷ ns) = max_first (max n m) ns in omega (arith, rest, le-max_right n m)
max_each n (m ∷ ns) (suc k) d within = max_each (max n m) ns k d (omega (arith, within))

least_each : (ns : List ℕ) → All (λ n. least ns ≤ n) ns
least_each [] k d within = absurd (omega (arith, within))
least_each (n ∷ ns) zero d within = min_first n ns
least_each (n ∷ ns) (suc k) d within = min_each n ns k d (omega (arith, within))

-- ---- starts between them

four_is : (first last : ℕ) → size_for first last ≡ Four → last - first < 2 ^ 32
four_is first last is = by_test (nat_lt (last - first) (2 ^ 32)) refl is
  where
    by_test : (b : Bool) → nat_lt (last - first) (2 ^ 32) ≡ b → cond b Four Eight ≡ Four → last - first < 2 ^ 32
    by_test true test four = ltb-true (last - first) (2 ^ 32) test
    by_test false test four = absurd cc

base_low : (size : StartSize) (first address : ℕ) → first ≤ address → base_for size first ≤ address
base_low size first address low = omega (arith, low, min-le_left first (highest_base size))

near_four : (size : StartSize) (first last address : ℕ) → size ≡ size_for first last → size ≡ Four → last < 2 ^ 64
    → address ≤ last → address < base_for size first + 2 ^ 32
near_four size first last address size_is four small high =
    subst (λ s. address < base_for s first + 2 ^ 32) (sym four) (elim (cases_lt 0xffff_ffff_0000_0000 first) [
      | inl above ↦
          let base : 0xffff_ffff_0000_0000 ≤ base_for Four first = le-min (omega arith) (omega arith) in
          omega (arith, base, small, high)
      | inr below ↦
          let base : first ≤ base_for Four first = le-min (omega arith) (omega (arith, below)) in
          let far = four_is first last (sym size_is ∙ four) in
          omega (arith, base, far, high)
    ])

-- ---- entries and statements

left : {X : Type 0} (P : ℕ → Type 0) (f : X → ℕ) (xs : List X) (ns : List ℕ) → All P (map f xs ++ ns)
    → All (λ x. P (f x)) xs
left P f [] ns all k d within = absurd (omega (arith, within))
left P f (x ∷ xs) ns all zero d within = all 0 0 (omega arith)
left P f (x ∷ xs) ns all (suc k) d within =
    left P f xs ns (λ i e inside. all (suc i) e (omega (arith, inside))) k d (omega (arith, within))

right : {X : Type 0} (P : ℕ → Type 0) (f : X → ℕ) (xs : List X) (ns : List ℕ) → All P (map f xs ++ ns) → All P ns
right P f [] ns all = all
right P f (x ∷ xs) ns all = right P f xs ns (λ i e inside. all (suc i) e (omega (arith, inside)))

mapped : {X : Type 0} (P : ℕ → Type 0) (f : X → ℕ) (xs : List X) → All P (map f xs) → All (λ x. P (f x)) xs
mapped P f [] all k d within = absurd (omega (arith, within))
mapped P f (x ∷ xs) all zero d within = all 0 0 (omega arith)
mapped P f (x ∷ xs) all (suc k) d within =
    mapped P f xs (λ i e inside. all (suc i) e (omega (arith, inside))) k d (omega (arith, within))

abbrev of_entry : Entry → ℕ
of_entry e = e.address

abbrev of_statement : Statement → ℕ
of_statement s = s.address

module _ (entries : List Entry) (statements : List Statement) where
  abbrev all : List ℕ
  all = all_addresses entries statements

  entries_all : (P : ℕ → Type 0) → All P all → All (λ (e : Entry). P e.address) entries
  entries_all P each = left P of_entry entries (map of_statement statements) each

  statements_all : (P : ℕ → Type 0) → All P all → All (λ (s : Statement). P s.address) statements
  statements_all P each =
      mapped P of_statement statements (right P of_entry entries (map of_statement statements) each)

  all_low : (size : StartSize) → All (λ a. base_for size (least all) ≤ a) all
  all_low size k d within =
      base_low size (least all) (get_or all k d) (least_each all k d within)

  all_near : (size : StartSize) → size ≡ size_for (least all) (greatest all) → size ≡ Four → greatest all < 2 ^ 64
      → All (λ a. a < base_for size (least all) + 2 ^ 32) all
  all_near size size_is four small k d within =
      near_four size (least all) (greatest all) (get_or all k d) size_is four small (max_each 0 all k d within)

  pub entries_low : (size : StartSize) → All (λ (e : Entry). base_for size (least all) ≤ e.address) entries
  entries_low size = entries_all (λ a. base_for size (least all) ≤ a) (all_low size)

  pub entries_near : (size : StartSize) → size ≡ size_for (least all) (greatest all) → size ≡ Four
      → greatest all < 2 ^ 64
      → All (λ (e : Entry). e.address < base_for size (least all) + 2 ^ 32) entries
  entries_near size size_is four small =
      entries_all (λ a. a < base_for size (least all) + 2 ^ 32) (all_near size size_is four small)

  -- those among the statements
  pub among_low : (size : StartSize) (some : List Statement) → All (Contains statements) some
      → All (λ (s : Statement). base_for size (least all) ≤ s.address) some
  among_low size some inside k d within =
      All-contains (λ (s : Statement). base_for size (least all) ≤ s.address) statements (get_or some k d)
      (statements_all (λ a. base_for size (least all) ≤ a) (all_low size)) (inside k d within)

  pub among_near : (size : StartSize) (some : List Statement) → All (Contains statements) some
      → size ≡ size_for (least all) (greatest all) → size ≡ Four → greatest all < 2 ^ 64
      → All (λ (s : Statement). s.address < base_for size (least all) + 2 ^ 32) some
  among_near size some inside size_is four small k d within =
      All-contains (λ (s : Statement). s.address < base_for size (least all) + 2 ^ 32) statements (get_or some k d)
      (statements_all (λ a. a < base_for size (least all) + 2 ^ 32) (all_near size size_is four small))
      (inside k d within)
