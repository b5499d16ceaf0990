-- The first of some pairs that an address stands between.
use Rattle.std.proofs.Common.{◌≡◌, ℕ, ◌+◌, ◌<◌, ◌≤◌, Bool, true, false, ◌&&◌, ◌||◌, cond, List, [], ◌∷◌, ◌++◌, length}
use Rattle.std.proofs.Common.{take, refl, sym, ap, subst, ◌∙◌, ◌⊎◌, inl, inr}
use Rattle.std.proofs.Common.{append_assoc}
use Rattle.std.proofs.Common.{arith}
use Rattle.std.specs.Prelude.{Option, Some, None, All, is_none, is_some, slice_index_or}
use Rattle.std.specs.Option.{option_or}
use Rattle.std.specs.List.{list_any}
use Rattle.std.proofs.lemmas.Bool.{true≢false, or_cases, or_from, or_left, or_right}
use Rattle.std.proofs.lemmas.List.{append-nil, take_more}
use Rattle.std.proofs.lemmas.List.Elements.{All-cons, All-more, All-weaker}
use Rattle.gimli_lookup.specs.declared.section_lookup.CoveringRows.{CoveringRows}
use Rattle.gimli_lookup.specs.inside.UnitSearch.{is_covered, first_covering, finds_more, AreClear}
use Rattle.gimli_lookup.specs.inside.UnitSearch.{AreKeptBehind}

-- ---- pairs one after the other

-- pairs behind others
by_cover : (b : Bool) (p : CoveringRows) (o q r : Option CoveringRows) → o ≡ option_or q r
    → cond b (Some p) o ≡ option_or (cond b (Some p) q) r
by_cover true p o q r e = refl
by_cover false p o q r e = e

pub covering_append : (a : ℕ) (xs ys : List CoveringRows)
    → first_covering a (xs ++ ys) ≡ option_or (first_covering a xs) (first_covering a ys)
covering_append a [] ys = refl
covering_append a (x ∷ xs) ys =
    by_cover (is_covered a x) x (first_covering a (xs ++ ys)) (first_covering a xs) (first_covering a ys)
    (covering_append a xs ys)

-- ---- pairs that are kept where they are wanted

any_weaker : (f g : ℕ → Bool) → ((a : ℕ) → f a ≡ true → g a ≡ true) → (addresses : List ℕ)
    → list_any f addresses ≡ true → list_any g addresses ≡ true
any_weaker f g weaker [] some = some
any_weaker f g weaker (a ∷ addresses) some = elim (or_cases (f a) (list_any f addresses) some) [
  | inl here ↦ or_left (g a) (list_any g addresses) (weaker a here)
  | inr later ↦ or_right (g a) (list_any g addresses) (any_weaker f g weaker addresses later)
]

found_now : (b : Bool) (p : CoveringRows) (o : Option CoveringRows) → (b && is_none o) ≡ true
    → (is_none o && is_some (option_or o (cond b (Some p) None))) ≡ true
found_now true p None is = refl
found_now true p (Some q) is = is
found_now false p o is = absurd (true≢false (sym is))

-- what pairs find is found by more pairs too
still_some : (o p : Option CoveringRows) (b : Bool) → (b && is_some o) ≡ true → (b && is_some (option_or o p)) ≡ true
still_some (Some q) p b is = is
still_some None p true is = absurd (true≢false (sym is))
still_some None p false is = is

-- what more pairs don't find isn't found by fewer
before_none : (o p q : Option CoveringRows) → (is_none (option_or o p) && is_some q) ≡ true
    → (is_none o && is_some q) ≡ true
before_none None None q is = is
before_none None (Some r) q is = absurd (true≢false (sym is))
before_none (Some r) p q is = is

finds_more_later : (addresses : List ℕ) (old new more after : List CoveringRows) → after ≡ new ++ more
    → finds_more addresses old new ≡ true → finds_more addresses old after ≡ true
finds_more_later addresses old new more after is some =
    any_weaker (λ a. is_none (first_covering a old) && is_some (first_covering a new))
    (λ a. is_none (first_covering a old) && is_some (first_covering a after))
    (λ a here.
    ap (λ o. is_none (first_covering a old) && is_some o) (ap (first_covering a) is ∙ covering_append a new more)
    ∙ still_some (first_covering a new) (first_covering a more) (is_none (first_covering a old)) here)
    addresses some

finds_more_before : (addresses : List ℕ) (old more new after : List CoveringRows) → new ≡ old ++ more
    → finds_more addresses new after ≡ true → finds_more addresses old after ≡ true
finds_more_before addresses old more new after is some =
    any_weaker (λ a. is_none (first_covering a new) && is_some (first_covering a after))
    (λ a. is_none (first_covering a old) && is_some (first_covering a after))
    (λ a here. before_none (first_covering a old) (first_covering a more) (first_covering a after)
    (sym (ap (λ o. is_none o && is_some (first_covering a after))
    (ap (first_covering a) is ∙ covering_append a old more)) ∙ here))
    addresses some

not_both : (o : Option CoveringRows) → (is_none o && is_some o) ≡ false
not_both None = refl
not_both (Some p) = refl

-- the same pairs find no more
pub finds_no_more : (addresses : List ℕ) (old new : List CoveringRows) → new ≡ old
    → finds_more addresses old new ≡ false
finds_no_more addresses old new same =
    ap (λ pairs. finds_more addresses old pairs) same ∙ none_more addresses
  where
    none_more : (as_asked : List ℕ) → finds_more as_asked old old ≡ false
    none_more [] = refl
    none_more (a ∷ rest) =
        or_from (is_none (first_covering a old) && is_some (first_covering a old)) (finds_more rest old old)
        (not_both (first_covering a old)) (none_more rest)

pub pair_kept : (addresses : List ℕ) (old : List CoveringRows) (p : CoveringRows)
    → list_any (λ a. is_covered a p && is_none (first_covering a old)) addresses ≡ true
    → AreKeptBehind addresses old (p ∷ []) (old ++ p ∷ [])
pair_kept addresses old p wanted = record {
  more = p ∷ [];
  parts = refl;
  first = λ k d lt. covering_append (slice_index_or addresses k d) old (p ∷ []);
  needed =
      inr (any_weaker (λ a. is_covered a p && is_none (first_covering a old))
      (λ a. is_none (first_covering a old) && is_some (first_covering a (old ++ p ∷ [])))
      (λ a here.
      ap (λ o. is_none (first_covering a old) && is_some o) (covering_append a old (p ∷ []))
      ∙ found_now (is_covered a p) p (first_covering a old) here)
      addresses wanted);
}

by_need : (b : Bool) (p : CoveringRows) (o : Option CoveringRows) → (b && is_none o) ≡ false
    → o ≡ option_or o (cond b (Some p) None)
by_need b p (Some q) none = refl
by_need true p None none = absurd (true≢false none)
by_need false p None none = refl

neither : (b c : Bool) → (b || c) ≡ false → (b ≡ false) × (c ≡ false)
neither true c e = absurd (true≢false e)
neither false c e = (refl, e)

none_of : (f : ℕ → Bool) (xs : List ℕ) → list_any f xs ≡ false → All (λ a. f a ≡ false) xs
none_of f [] none = λ k d lt. absurd (omega arith)
none_of f (x ∷ xs) none =
    let both = neither (f x) (list_any f xs) none in
    All-cons (λ a. f a ≡ false) x xs both.0 (none_of f xs both.1)

pub pair_let_go : (addresses : List ℕ) (old : List CoveringRows) (p : CoveringRows)
    → list_any (λ a. is_covered a p && is_none (first_covering a old)) addresses ≡ false
    → AreKeptBehind addresses old (p ∷ []) old
pair_let_go addresses old p none = record {
  more = [];
  parts = sym (append-nil old);
  needed = inl refl;
  first = λ k d lt.
      by_need (is_covered (slice_index_or addresses k d) p) p (first_covering (slice_index_or addresses k d) old)
      (none_of (λ a. is_covered a p && is_none (first_covering a old)) addresses none k d lt);
}

or_assoc : (o p q : Option CoveringRows) → option_or (option_or o p) q ≡ option_or o (option_or p q)
or_assoc None p q = refl
or_assoc (Some x) p q = refl

-- none is kept of none
pub none_kept : (addresses : List ℕ) (old : List CoveringRows) → AreKeptBehind addresses old [] old
none_kept addresses old = record {
  more = [];
  parts = sym (append-nil old);
  needed = inl refl;
  first = λ k d lt. at (first_covering (slice_index_or addresses k d) old);
}
  where
    at : (o : Option CoveringRows) → o ≡ option_or o None
    at None = refl
    at (Some x) = refl

pub kept_both : (addresses : List ℕ) (old pairs new : List CoveringRows) (p : CoveringRows) (after : List CoveringRows)
    → AreKeptBehind addresses old pairs new
    → AreKeptBehind addresses new (p ∷ []) after → AreKeptBehind addresses old (pairs ++ p ∷ []) after
kept_both addresses old pairs new p after f g = record {
  more = f.more ++ g.more;
  parts = g.parts ∙ ap (λ (ps : List CoveringRows). ps ++ g.more) f.parts ∙ append_assoc old f.more g.more;
  first = λ k d lt.
      let a = slice_index_or addresses k d in
      g.first k d lt
      ∙ ap (λ (o : Option CoveringRows). option_or o (first_covering a (p ∷ []))) (f.first k d lt)
      ∙ or_assoc (first_covering a old) (first_covering a pairs) (first_covering a (p ∷ []))
      ∙ ap (option_or (first_covering a old)) (sym (covering_append a pairs (p ∷ [])));
  needed = by_needs f.needed g.needed;
}
  where
    by_needs : (f.more ≡ []) ⊎ (finds_more addresses old new ≡ true)
        → (g.more ≡ []) ⊎ (finds_more addresses new after ≡ true)
        → (f.more ++ g.more ≡ []) ⊎ (finds_more addresses old after ≡ true)
    by_needs needed (inr later) = inr (finds_more_before addresses old f.more new after f.parts later)
    by_needs (inr earlier) (inl none) = inr (finds_more_later addresses old new g.more after g.parts earlier)
    by_needs (inl no_more) (inl none) =
        inl (ap (λ (ps : List CoveringRows). ps ++ g.more) no_more ∙ none)

pub kept_next : (addresses : List ℕ) (old found : List CoveringRows) (i : ℕ) (new : List CoveringRows)
    (p : CoveringRows) (after : List CoveringRows)
    → i < length found → p ≡ slice_index_or found i p → AreKeptBehind addresses old (take i found) new
    → AreKeptBehind addresses new (p ∷ []) after → AreKeptBehind addresses old (take (i + 1) found) after
kept_next addresses old found i new p after lt is f g =
    subst (λ (ps : List CoveringRows). AreKeptBehind addresses old ps after)
    (ap (λ (q : CoveringRows). take i found ++ q ∷ []) is ∙ sym (take_more found i p lt))
    (kept_both addresses old (take i found) new p after f g)

-- ---- the next address that is asked for

pub clear_next : (addresses : List ℕ) (i from clear new : ℕ) → i < length addresses
    → AreClear (take i addresses) from clear → new ≤ clear
    → (from ≤ slice_index_or addresses i 0 → new ≤ slice_index_or addresses i 0)
    → AreClear (take (i + 1) addresses) from new
clear_next addresses i from clear new lt before less at =
    All-more (λ a. from ≤ a → new ≤ a) addresses i 0 lt
    (All-weaker (λ a. from ≤ a → clear ≤ a) (λ a. from ≤ a → new ≤ a) (λ a is le. omega (arith, is le, less))
    (take i addresses) before)
    at
