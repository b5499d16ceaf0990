-- Statements that are kept of others: what says nothing more is dropped.
use Rattle.std.proofs.Common.{◌≡◌, ◌∙◌, ◌<◌, ◌≤◌, ◌+◌, ◌-◌, ◌*◌, ◌^◌, ℕ, zero, suc, Bool, true, false, ◌||◌, ◌&&◌, List}
use Rattle.std.proofs.Common.{[]}
use Rattle.std.proofs.Common.{◌∷◌, ◌++◌, cond, get_or, length, map, take, nat_eq, if◌then◌else◌, Option, Some, None}
use Rattle.std.proofs.Common.{Result}
use Rattle.std.proofs.Common.{Err, refl, sym, ap, subst, arith, length-append, slice_get}
use Rattle.std.specs.Prelude.{All}
use Rattle.std.specs.List.{filter, list_any, Contains}
use Rattle.std.specs.List.Sorted.{IsPermutation}
use Rattle.std.specs.Option.{option_map_or}
use Rattle.std.proofs.lemmas.Bool.{or_right}
use Rattle.std.proofs.lemmas.List.{get_or-map, length-map, map-append, take_all, take_more}
use Rattle.std.proofs.lemmas.List.Elements.{filter-append, All-push}
use Rattle.std.proofs.lemmas.List.Folds.{list_any-append}
use Rattle.std.proofs.lemmas.List.Sorted.{IsNonDecreasingBy-push, IsNonDecreasingBy-short, IsPermutation-map}
use Rattle.std.proofs.lemmas.List.Sorted.{list_any-IsPermutation}
use Rattle.gimli_lookup.specs.Statements.{ascending_once}
use Rattle.gimli_lookup.proofs.AscendingOnce.{has, ascending_once_append, ascending_once_parts, same_ascending_once}
use Rattle.gimli_index.specs.Contents.{Contents, path_at, source_path, statement_in}
use Rattle.gimli_index.specs.Lines.{addresses_in, addresses_of, is_of}
use Rattle.gimli_index.specs.Made.{SayTheSameLines}
use Rattle.gimli_index.specs.Meaning.{path_in}
use Rattle.gimli_index.specs.Meaning.{Statement as StatementMeaning}
use Rattle.gimli_index.specs.Order.{rank_of, AreOrdered}
use Rattle.gimli_index.specs.declared.contents.Source.{Source}
use Rattle.gimli_index.specs.declared.contents.Statement.{Statement}
use Rattle.gimli_index.specs.declared.ordering.Ranked.{Ranked}
use Rattle.gimli_index.specs.declared.place.NoPath.{NoPath}
use Rattle.gimli_index.specs.declared.place.NoPath.TheVariants.{Outside, Reason}
use Rattle.gimli_index.specs.inside.Ranks.{nothing, AreRanked}

-- ---- statements that say the same

pub same_path : (paths : List ℕ) (a b : Source) → a.first ≡ b.first → a.size ≡ b.size → a.reason ≡ b.reason
    → source_path paths a ≡ source_path paths b
same_path paths a b first size reason =
    ap (λ n. by_numbers n a.first a.size) reason
    ∙ ap (λ n. by_numbers b.reason n a.size) first
    ∙ ap (λ n. by_numbers b.reason b.first n) size
  where
    by_numbers : ℕ → ℕ → ℕ → Result (List ℕ) NoPath
    by_numbers reason first size = if nat_eq reason 0 then path_in paths first size else Err (Reason reason)

pub same_statement : (c : Contents) (x y : Statement) (a b : Source) → x.line ≡ y.line → x.address ≡ y.address
    → slice_get c.sources x.source ≡ Some a → slice_get c.sources y.source ≡ Some b
    → source_path c.paths a ≡ source_path c.paths b → statement_in c x ≡ statement_in c y
same_statement c x y a b line address one other same =
    ap (λ n. by_parts (path_at c x.source) n x.address) line
    ∙ ap (λ n. by_parts (path_at c x.source) y.line n) address
    ∙ ap (λ (o : Option Source). by_parts (option_map_or (source_path c.paths) o (Err Outside)) y.line y.address) one
    ∙ ap (λ path. by_parts path y.line y.address) same
    ∙ sym
    (ap (λ (o : Option Source). by_parts (option_map_or (source_path c.paths) o (Err Outside)) y.line y.address) other)
  where
    by_parts : Result (List ℕ) NoPath → ℕ → ℕ → StatementMeaning
    by_parts path line address = record { path = path; line = line; address = address }

-- ---- the addresses of a line

addresses_append : (path : List ℕ) (line : ℕ) (xs ys : List StatementMeaning)
    → addresses_in path line (xs ++ ys) ≡ addresses_in path line xs ++ addresses_in path line ys
addresses_append path line xs ys =
    ap (map (λ (s : StatementMeaning). s.address)) (filter-append (is_of path line) xs ys)
    ∙ map-append (λ (s : StatementMeaning). s.address) (filter (is_of path line) xs) (filter (is_of path line) ys)

-- more statements after some that give the same addresses
more_said : (path : List ℕ) (line : ℕ) (xs ys zs : List StatementMeaning)
    → addresses_of path xs line ≡ addresses_of path ys line
    → addresses_of path (xs ++ zs) line ≡ addresses_of path (ys ++ zs) line
more_said path line xs ys zs same =
    let own = addresses_in path line xs in
    let others = addresses_in path line ys in
    let more = addresses_in path line zs in
    ap ascending_once (addresses_append path line xs zs)
    ∙ sym (ascending_once_parts own more)
    ∙ ap (λ (ns : List ℕ). ascending_once (ns ++ ascending_once more)) same
    ∙ ascending_once_parts others more
    ∙ sym (ap ascending_once (addresses_append path line ys zs))

-- a statement twice
said_twice : (path : List ℕ) (line : ℕ) (xs : List StatementMeaning) (s : StatementMeaning)
    → addresses_of path ((xs ++ s ∷ []) ++ s ∷ []) line ≡ addresses_of path (xs ++ s ∷ []) line
said_twice path line xs s =
    ap ascending_once (addresses_append path line (xs ++ s ∷ []) (s ∷ []))
    ∙ ascending_once_append (addresses_in path line (xs ++ s ∷ [])) (addresses_in path line (s ∷ [])) (λ a is.
    ap (has a) (addresses_append path line xs (s ∷ []))
    ∙ list_any-append (nat_eq a) (addresses_in path line xs) (addresses_in path line (s ∷ []))
    ∙ or_right (has a (addresses_in path line xs)) (has a (addresses_in path line (s ∷ []))) is)

-- whether an address is among them, by a test of statements
has_address : (path : List ℕ) (line a : ℕ) (xs : List StatementMeaning)
    → has a (addresses_in path line xs) ≡ list_any (λ s. is_of path line s && nat_eq a s.address) xs
has_address path line a [] = refl
has_address path line a (s ∷ xs) = by_test (is_of path line s) (has_address path line a xs)
  where
    by_test : (b : Bool)
        → has a (addresses_in path line xs) ≡ list_any (λ x. is_of path line x && nat_eq a x.address) xs
        → has a (map (λ (x : StatementMeaning). x.address)
        (cond b (s ∷ filter (is_of path line) xs) (filter (is_of path line) xs)))
        ≡ ((b && nat_eq a s.address) || list_any (λ x. is_of path line x && nat_eq a x.address) xs)
    by_test true later = ap (λ h. nat_eq a s.address || h) later
    by_test false later = later

-- statements in another order give the same addresses
pub moved_same : (c : Contents) (xs ys : List Statement) → IsPermutation xs ys → SayTheSameLines c xs ys
moved_same c xs ys moved path line =
    let own = map (statement_in c) xs in
    let others = map (statement_in c) ys in
    same_ascending_once (addresses_in path line own) (addresses_in path line others) (λ a.
    has_address path line a own
    ∙ list_any-IsPermutation (λ (s : StatementMeaning). is_of path line s && nat_eq a s.address) own others
    (IsPermutation-map (statement_in c) xs ys moved)
    ∙ sym (has_address path line a others))

-- ---- one statement after the other

abbrev pub statements_of_ranked : List Ranked → List Statement
statements_of_ranked ranked = map (λ (r : Ranked). r.statement) ranked

-- statements that were kept of the first of some: they are in order, none after those that are left,
-- and give the same addresses
pub record AreKept (c : Contents) (ranked : List Ranked) (count : ℕ) (kept : List Statement) : Type 0 where
  pub rise : AreOrdered (map (statement_in c) kept)
  pub below : (j : ℕ) → count ≤ j → j < length ranked
      → All (λ m. rank_of m ≤ (get_or ranked j nothing).rank) (map (statement_in c) kept)
  pub same : SayTheSameLines c (statements_of_ranked (take count ranked)) kept
  pub few : length kept ≤ length (take count ranked)
  pub within : All (Contains (statements_of_ranked ranked)) kept

none_taken : (ranked : List Ranked) → take 0 ranked ≡ []
none_taken [] = refl
none_taken (r ∷ ranked) = refl

pub none_kept : (c : Contents) (ranked : List Ranked) → AreKept c ranked 0 []
none_kept c ranked = record {
  rise = IsNonDecreasingBy-short rank_of [] (omega arith);
  below = λ j from inside k d within. absurd (omega (arith, within));
  same = λ path line.
      ap (λ (rs : List Ranked). addresses_of path (map (statement_in c) (statements_of_ranked rs)) line)
      (none_taken ranked);
  few = omega arith;
  within = λ k d within. absurd (omega (arith, within));
}

module _ (c : Contents) (ranked : List Ranked) (are : AreRanked c ranked) (count : ℕ) (kept : List Statement)
    (before : AreKept c ranked count kept) (inside : count < length ranked) where
  abbrev one : ℕ → Statement
  one k = (get_or ranked k nothing).statement

  said : (k : ℕ) → k < length ranked
      → map (statement_in c) (statements_of_ranked (take (k + 1) ranked))
      ≡ map (statement_in c) (statements_of_ranked (take k ranked)) ++ statement_in c (one k) ∷ []
  said k within =
      ap (λ (rs : List Ranked). map (statement_in c) (statements_of_ranked rs)) (take_more ranked k nothing within)
      ∙ ap (map (statement_in c))
      (map-append (λ (r : Ranked). r.statement) (take k ranked) (get_or ranked k nothing ∷ []))
      ∙ map-append (statement_in c) (statements_of_ranked (take k ranked)) (one k ∷ [])

  longer : map (statement_in c) (kept ++ one count ∷ []) ≡ map (statement_in c) kept ++ statement_in c (one count) ∷ []
  longer = map-append (statement_in c) kept (one count ∷ [])

  rank_is : (get_or ranked count nothing).rank ≡ rank_of (statement_in c (one count))
  rank_is = are.each count nothing inside

  below_next : (k : ℕ) (d : StatementMeaning) → k < length (map (statement_in c) kept)
      → rank_of (get_or (map (statement_in c) kept) k d) ≤ rank_of (statement_in c (one count))
  below_next k d within =
      subst (λ n. rank_of (get_or (map (statement_in c) kept) k d) ≤ n) rank_is
      (before.below count (omega arith) inside k d within)

  pub one_kept : AreKept c ranked (count + 1) (kept ++ one count ∷ [])
  one_kept = record {
    rise =
        subst AreOrdered (sym longer)
        (IsNonDecreasingBy-push rank_of (map (statement_in c) kept) (statement_in c (one count)) before.rise
        (λ d some. below_next (length (map (statement_in c) kept) - 1) d (omega (arith, some))));
    below = λ j from within.
        subst (All (λ m. rank_of m ≤ (get_or ranked j nothing).rank)) (sym longer)
        (All-push (λ m. rank_of m ≤ (get_or ranked j nothing).rank) (map (statement_in c) kept)
        (statement_in c (one count)) (before.below j (omega arith) within)
        (subst (λ n. n ≤ (get_or ranked j nothing).rank) rank_is (are.rise count j nothing (omega arith) within)));
    same = λ path line.
        ap (λ (ms : List StatementMeaning). addresses_of path ms line) (said count inside)
        ∙ more_said path line (map (statement_in c) (statements_of_ranked (take count ranked)))
        (map (statement_in c) kept) (statement_in c (one count) ∷ []) (before.same path line)
        ∙ sym (ap (λ (ms : List StatementMeaning). addresses_of path ms line) longer);
    few =
        omega (
          arith,
          before.few,
          length-append kept (one count ∷ []),
          ap (λ (rs : List Ranked). length rs) (take_more ranked count nothing inside),
          length-append (take count ranked) (get_or ranked count nothing ∷ []),
        );
    within =
        All-push (Contains (statements_of_ranked ranked)) kept (one count) before.within (
          count,
          (omega (arith, inside, length-map ranked (λ (r : Ranked). r.statement))),
          get_or-map (λ (r : Ranked). r.statement) ranked count nothing (one count) inside,
        );
  }

  pub one_dropped : 0 < count → statement_in c (one (count - 1)) ≡ statement_in c (one count)
      → AreKept c ranked (count + 1) kept
  one_dropped some repeated = record {
    rise = before.rise;
    below = λ j from within. before.below j (omega arith) within;
    same = λ path line.
        let earlier = map (statement_in c) (statements_of_ranked (take (count - 1) ranked)) in
        let last = statement_in c (one count) in
        let step : (count - 1) + 1 ≡ count = omega arith in
        let so_far : map (statement_in c) (statements_of_ranked (take count ranked)) ≡ earlier ++ last ∷ [] =
        ap (λ k. map (statement_in c) (statements_of_ranked (take k ranked))) (sym step)
        ∙ said (count - 1) (omega arith)
        ∙ ap (λ (m : StatementMeaning). earlier ++ m ∷ []) repeated in
        ap (λ (ms : List StatementMeaning). addresses_of path ms line) (said count inside)
        ∙ ap (λ (ms : List StatementMeaning). addresses_of path (ms ++ last ∷ []) line) so_far
        ∙ said_twice path line earlier last
        ∙ ap (λ (ms : List StatementMeaning). addresses_of path ms line) (sym so_far)
        ∙ before.same path line;
    few =
        omega (
          arith,
          before.few,
          ap (λ (rs : List Ranked). length rs) (take_more ranked count nothing inside),
          length-append (take count ranked) (get_or ranked count nothing ∷ []),
        );
    within = before.within;
  }

-- all of them
pub all_kept : (c : Contents) (ranked : List Ranked) (count : ℕ) (kept : List Statement) → length ranked ≤ count
    → AreKept c ranked count kept
    → SayTheSameLines c (statements_of_ranked ranked) kept × (length kept ≤ length ranked)
all_kept c ranked count kept end are = (
  subst (λ (rs : List Ranked). SayTheSameLines c (statements_of_ranked rs) kept) (take_all count ranked end) are.same,
  (omega (arith, are.few, ap (λ (rs : List Ranked). length rs) (take_all count ranked end))),
)
