-- Paths, each once, and their bytes.
use Rattle.std.proofs.Common.{◌≡◌, ◌≢◌, ◌⊎◌, ◌∙◌, ℕ, suc, zero, ◌+◌, ◌^◌, ◌<◌, ◌≤◌, List, [], ◌∷◌, ◌++◌, length, get_or}
use Rattle.std.proofs.Common.{take, Some, Ok}
use Rattle.std.proofs.Common.{refl, sym, ap, subst, inl, inr}
use Rattle.std.proofs.Common.{arith, append_assoc, append-nil, length-append}
use Rattle.std.specs.Prelude.{min, slice_get, All, AllPairs}
use Rattle.std.proofs.lemmas.Bool.{cases_order}
use Rattle.std.proofs.lemmas.List.{take-append-le, take_all}
use Rattle.std.proofs.lemmas.List.Quantifiers.{all_pairs_push}
use Rattle.std.proofs.lemmas.Grind.{flat_map-append}
use Rattle.std.proofs.lemmas.Option.{slice_get_within, get_or_from_slice_get}
use Rattle.gimli_index.specs.Meaning.{path_in}
use Rattle.gimli_index.specs.Short.{joined, IsSpanOf}
use Rattle.gimli_index.specs.inside.Paths.{ArePaths, IsPlaced, PathList, no_paths}
use Rattle.gimli_index.proofs.Lists.{get_before, get_last, get_pushed, path_appended, path_goes_on_at, zero_appended}

pub none_are : {limit : ℕ} → ArePaths limit no_paths
none_are = record {
  bytes = refl;
  within = omega arith;
  few = omega arith;
  count = refl;
  firsts = λ k first there. absurd cc;
  distinct = λ i j d lt within. absurd (omega (arith, within));
}

pub joined_push : (known : List (List ℕ)) (path : List ℕ)
    → joined (known ++ path ∷ []) ≡ joined known ++ (path ++ 0 ∷ [])
joined_push known path =
    flat_map-append (λ p. p ++ 0 ∷ []) known (path ∷ []) ∙ ap (λ xs. joined known ++ xs) (append-nil (path ++ 0 ∷ []))

-- the bytes before a path, the path, and those after it
around : (known : List (List ℕ)) (k : ℕ) (path : List ℕ) → slice_get known k ≡ Some path
    → (more : List ℕ) × (joined known ≡ (joined (take k known) ++ (path ++ 0 ∷ [])) ++ more)
around [] k path there = absurd cc
around (p ∷ known) zero path there =
    let same : p ≡ path = cc in
    (joined known, ap (λ (x : List ℕ). (x ++ 0 ∷ []) ++ joined known) same)
around (p ∷ known) (suc k) path there =
    let rest = around known k path there in (
      rest.0,
      ap (λ xs. (p ++ 0 ∷ []) ++ xs) rest.1
          ∙ sym (append_assoc (p ++ 0 ∷ []) (joined (take k known) ++ (path ++ 0 ∷ [])) rest.0)
          ∙ ap (λ xs. xs ++ rest.0) (sym (append_assoc (p ++ 0 ∷ []) (joined (take k known)) (path ++ 0 ∷ []))),
    )

-- a path that stands there is read, and isn't longer than all of them
pub span_read : {limit : ℕ} (p : PathList) (first : ℕ) (path : List ℕ) → ArePaths limit p → IsSpanOf p.known first path
    → path_in p.bytes first (length path) ≡ Ok path
span_read p first path are span =
    let parts = around p.known span.0 path span.1 in
    let before = joined (take span.0 p.known) in
    ap (λ bs. path_in bs first (length path)) (are.bytes ∙ parts.1)
    ∙ ap (λ n. path_in ((before ++ (path ++ 0 ∷ [])) ++ parts.0) n (length path)) span.2
    ∙ path_goes_on_at (before ++ (path ++ 0 ∷ [])) parts.0 (length before) (length path) (zero_appended before path)
    ∙ path_appended before path

pub span_short : {limit : ℕ} (p : PathList) (first : ℕ) (path : List ℕ) → ArePaths limit p → IsSpanOf p.known first path
    → length path < 2 ^ 32
span_short p first path are span =
    let parts = around p.known span.0 path span.1 in
    let before = joined (take span.0 p.known) in
    omega (
      arith,
      are.few,
      ap (λ (bs : List ℕ). length bs) (are.bytes ∙ parts.1),
      length-append (before ++ (path ++ 0 ∷ [])) parts.0,
      length-append before (path ++ 0 ∷ []),
      length-append path (0 ∷ []),
    )

-- a path stays where it is, where one more comes last
pub span_stays : (known more : List (List ℕ)) (first : ℕ) (path : List ℕ) → IsSpanOf known first path
    → IsSpanOf (known ++ more) first path
span_stays known more first path span = (
  span.0,
  get_before known more span.0 path span.1,
  span.2
      ∙ ap (λ xs. length (joined xs))
      (sym (take-append-le span.0 known more (omega (arith, slice_get_within known span.0 path span.1)))),
)

-- ---- a path that comes last

pub placed_last : {limit : ℕ} (old new : PathList) (path : List ℕ) (first : ℕ) → ArePaths limit old
    → All (λ x. x ≢ path) old.known → first ≡ length old.bytes
    → length old.bytes + length path + 1 ≤ min limit 0xffff_ffff
    → new.bytes ≡ old.bytes ++ (path ++ 0 ∷ []) → new.known ≡ old.known ++ path ∷ []
    → new.firsts ≡ old.firsts ++ first ∷ [] → IsPlaced limit old new path first
placed_last old new path first are absent first_is fits bytes known firsts = record {
  are = record {
    bytes =
        bytes ∙ ap (λ bs. bs ++ (path ++ 0 ∷ [])) are.bytes ∙ sym (joined_push old.known path)
        ∙ ap joined (sym known);
    within =
        omega (
          arith,
          fits,
          ap (λ (bs : List ℕ). length bs) bytes,
          length-append old.bytes (path ++ 0 ∷ []),
          length-append path (0 ∷ []),
        );
    few =
        omega (
          arith,
          fits,
          ap (λ (bs : List ℕ). length bs) bytes,
          length-append old.bytes (path ++ 0 ∷ []),
          length-append path (0 ∷ []),
        );
    count = omega (
      arith,
      are.count,
      ap (λ (xs : List ℕ). length xs) firsts,
      length-append old.firsts (first ∷ []),
      ap (λ (xs : List (List ℕ)). length xs) known,
      length-append old.known (path ∷ []),
    );
    firsts =
        λ k n there. ap_known k n (get_pushed old.firsts first k n (ap (λ xs. slice_get xs k) (sym firsts) ∙ there));
    distinct =
        subst (AllPairs (λ x y. x ≢ y)) (sym known) (all_pairs_push (λ x y. x ≢ y) old.known path are.distinct absent);
  };
  bytes = (path ++ 0 ∷ [], bytes);
  known = inr known;
  span = (
    length old.known,
    ap (λ xs. slice_get xs (length old.known)) known ∙ get_last old.known path,
    at_end first first_is,
  );
}
  where
    -- where the new path begins
    at_end : (n : ℕ) → n ≡ length old.bytes → n ≡ length (joined (take (length old.known) new.known))
    at_end n is =
        is ∙ ap (λ (bs : List ℕ). length bs) are.bytes
        ∙ ap (λ (xs : List (List ℕ)). length (joined xs))
        (sym (ap (take (length old.known)) known ∙ take-append-le (length old.known) old.known (path ∷ []) (omega arith)
        ∙ take_all (length old.known) old.known (omega arith)))

    ap_known : (k n : ℕ) → (slice_get old.firsts k ≡ Some n) ⊎ ((k ≡ length old.firsts) × (first ≡ n))
        → n ≡ length (joined (take k new.known))
    ap_known k n (inl before) =
        are.firsts k n before
        ∙ ap (λ (xs : List (List ℕ)). length (joined xs))
        (sym (ap (take k) known
        ∙ take-append-le k old.known (path ∷ [])
        (omega (arith, slice_get_within old.firsts k n before, are.count))))
    ap_known k n (inr last) =
        at_end n (sym last.1 ∙ first_is)
        ∙ ap (λ m. length (joined (take m new.known))) (sym (last.0 ∙ are.count))

-- ---- one path

-- of two places of one path there is one
pub one_span : (known : List (List ℕ)) (m n : ℕ) (path : List ℕ) → AllPairs (λ x y. x ≢ y) known → IsSpanOf known m path
    → IsSpanOf known n path → m ≡ n
one_span known m n path distinct one other =
    one.2 ∙ ap (λ k. length (joined (take k known))) same ∙ sym other.2
  where
    at : (k : ℕ) → slice_get known k ≡ Some path → get_or known k path ≡ path
    at k there = get_or_from_slice_get known k path path there

    not_below : (i j : ℕ) → slice_get known i ≡ Some path → slice_get known j ≡ Some path → i < j → ⊥
    not_below i j first second lt =
        distinct i j path lt (slice_get_within known j path second) (at i first ∙ sym (at j second))

    same : one.0 ≡ other.0
    same = elim (cases_order one.0 other.0) [
      | inl is ↦ is
      | inr (inl less) ↦ absurd (not_below one.0 other.0 one.1 other.1 less)
      | inr (inr more) ↦ absurd (not_below other.0 one.0 other.1 one.1 more)
    ]
