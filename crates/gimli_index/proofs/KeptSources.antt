-- The sources that are kept, and what entries and statements say by their new numbers.
use Rattle.std.proofs.Common.{◌≡◌, ◌⊎◌, ◌∙◌, ℕ, zero, suc, ◌+◌, ◌<◌, ◌≤◌, ◌^◌, Bool, true, false, ◌||◌, List, []}
use Rattle.std.proofs.Common.{◌∷◌, ◌++◌, length, map, drop, replicate, Option, None, Some, Result, Ok, Err, refl, sym}
use Rattle.std.proofs.Common.{ap}
use Rattle.std.proofs.Common.{subst, arith, inl, inr, if◌then◌else◌, append_assoc}
use Rattle.std.specs.Prelude.{◌==◌, All, IfSome, OnOk, slice_get, slice_index_or}
use Rattle.std.specs.List.{list_any, Contains}
use Rattle.std.specs.Option.{option_map, option_map_or, option_and_then}
use Rattle.std.proofs.lemmas.Bool.{eq-eqb, eqb-true}
use Rattle.std.proofs.lemmas.List.{drop_more, length-map, length-replicate, get_or-replicate}
use Rattle.std.proofs.lemmas.List.Folds.{list_any_at}
use Rattle.std.proofs.lemmas.Option.{get_or_from_slice_get, same_Some, slice_get_within, slice_get-map}
use Rattle.gimli_lookup.specs.RowFiles.{AreMarked}
use Rattle.gimli_index.specs.Contents.{HasColumn, entry_start, index_bytes, line_in, source_path}
use Rattle.gimli_index.specs.Contents.{statement_in}
use Rattle.gimli_index.specs.Contents.{Fits, FitsCounts}
use Rattle.gimli_index.specs.Lines.{addresses_of}
use Rattle.gimli_index.specs.Made.{EntriesAscend, HasOrder, SayTheSameLines, contents_of}
use Rattle.gimli_index.specs.Meaning.{Place, Start}
use Rattle.gimli_index.specs.Meaning.{Statement as StatementMeaning}
use Rattle.gimli_index.specs.Named.{IsNamedBy, number_in}
use Rattle.gimli_index.specs.Order.{AreOrdered}
use Rattle.gimli_index.specs.declared.contents.Contents.{Contents as Made}
use Rattle.gimli_index.specs.declared.contents.Entry.{Entry}
use Rattle.gimli_index.specs.declared.contents.Source.{Source}
use Rattle.gimli_index.specs.declared.contents.SourceLine.{SourceLine}
use Rattle.gimli_index.specs.declared.contents.Statement.{Statement}
use Rattle.gimli_index.specs.declared.place.NoPath.TheVariants.{Outside}
use Rattle.gimli_index.specs.inside.Kept.{are_named, entries_name, entry_by, kept, line_by, number_by, numbers_from}
use Rattle.gimli_index.specs.inside.Kept.{statement_by, statements_name, IsKeptWritten, IsNamedWritten}
use Rattle.gimli_index.proofs.Lists.{at_index, get_inside}
use Rattle.gimli_index.proofs.TurnSteps.{here_at}

-- ---- marks

abbrev HasOne : {X : Type 0} → (X → Bool) → List X → Type 0
HasOne {X} p xs = (i : ℕ) × (x : X) × (slice_get xs i ≡ Some x) × (p x ≡ true)

by_first : {X : Type 0} (p : X → Bool) (x : X) (xs : List X) (b : Bool) → p x ≡ b → (b || list_any p xs) ≡ true
    → (list_any p xs ≡ true → HasOne p xs)
    → HasOne p (x ∷ xs)
by_first p x xs true at any rest = (0, x, refl, at)
by_first p x xs false at any rest = let later = rest any in (suc later.0, later.1, later.2, later.3)

some_of : {X : Type 0} (p : X → Bool) (xs : List X) → list_any p xs ≡ true → HasOne p xs
some_of p [] is = absurd cc
some_of p (x ∷ xs) is = by_first p x xs (p x) refl is (λ any. some_of p xs any)

any_of : {X : Type 0} (p : X → Bool) (xs : List X) (i : ℕ) (x : X) → slice_get xs i ≡ Some x → p x ≡ true
    → list_any p xs ≡ true
any_of p xs i x there is =
    list_any_at p xs i x (slice_get_within xs i x there) (ap p (get_or_from_slice_get xs i x x there) ∙ is)

one_of : (a b : Bool) → (a || b) ≡ true → (a ≡ true) ⊎ (b ≡ true)
one_of true b is = inl refl
one_of false b is = inr is

left_of : (a b : Bool) → a ≡ true → (a || b) ≡ true
left_of a b is = ap (λ (x : Bool). x || b) is

right_of : (a b : Bool) → b ≡ true → (a || b) ≡ true
right_of true b is = refl
right_of false b is = is

pub marked_length : (p : ℕ → Bool) (old new : List Bool) → AreMarked p old new → length new ≡ length old
marked_length p [] [] are = refl
marked_length p [] (y ∷ ys) are = let bad : Some y ≡ None = are 0 in absurd cc
marked_length p (x ∷ xs) [] are = let bad : None ≡ Some (x || p 0) = are 0 in absurd cc
marked_length p (x ∷ xs) (y ∷ ys) are = ap suc (marked_length (λ (n : ℕ). p (suc n)) xs ys (λ n. are (suc n)))

-- a mark is set where the test says so
mark_is : (p : ℕ → Bool) (count : ℕ) (named : List Bool) → AreMarked p (replicate count false) named → (k : ℕ)
    → k < count
    → slice_get named k ≡ Some (p k)
mark_is p count named are k within =
    let none : slice_get (replicate count false) k ≡ Some false =
    here_at (replicate count false) k false (omega (arith, within, length-replicate count false))
    ∙ ap (λ (b : Bool). Some b) (get_or-replicate count k false false within) in
    are k ∙ ap (option_map (λ (b : Bool). b || p k)) none

module _ (entries : List Entry) (statements : List Statement) (count : ℕ) (named : List Bool)
    (are : AreMarked (are_named entries statements) (replicate count false) named) where
  pub marks_are : length named ≡ count
  marks_are =
      marked_length (are_named entries statements) (replicate count false) named are ∙ length-replicate count false

  pub named_if : (k : ℕ) → k < count → slice_get named k ≡ Some true → IsNamedBy entries statements k
  named_if k within set =
      let test : are_named entries statements k ≡ true =
      same_Some (are_named entries statements k) true
      (sym (mark_is (are_named entries statements) count named are k within) ∙ set) in
      elim (one_of (entries_name entries k) (statements_name statements k) test) [
        | inl is ↦
            let found = some_of (λ (e : Entry). number_in e.place == k) entries is in
            inl (found.0, found.1, found.2, eqb-true (number_in found.1.place) k found.3)
        | inr is ↦
            let found = some_of (λ (s : Statement). s.source == k) statements is in
            inr (found.0, found.1, found.2, eqb-true found.1.source k found.3)
      ]

  pub entry_marked : (i : ℕ) (e : Entry) → slice_get entries i ≡ Some e → IfSome e.place (λ l. l.source < count)
      → IfSome e.place (λ l. slice_get named l.source ≡ Some true)
  entry_marked i e there within = by_place e.place refl within
    where
      by_place : (p : Option SourceLine) → e.place ≡ p → IfSome p (λ l. l.source < count)
          → IfSome p (λ l. slice_get named l.source ≡ Some true)
      by_place None is lt = tt
      by_place (Some l) is lt =
          let names : entries_name entries l.source ≡ true =
          any_of (λ (x : Entry). number_in x.place == l.source) entries i e there
          (eq-eqb (number_in e.place) l.source (ap number_in is)) in
          mark_is (are_named entries statements) count named are l.source lt
          ∙ ap (λ (b : Bool). Some b)
          (left_of (entries_name entries l.source) (statements_name statements l.source) names)

  pub statement_marked : (i : ℕ) (s : Statement) → slice_get statements i ≡ Some s → s.source < count
      → slice_get named s.source ≡ Some true
  statement_marked i s there within =
      let names : statements_name statements s.source ≡ true =
      any_of (λ (x : Statement). x.source == s.source) statements i s there (eq-eqb s.source s.source refl) in
      mark_is (are_named entries statements) count named are s.source within
      ∙ ap (λ (b : Bool). Some b)
      (right_of (entries_name entries s.source) (statements_name statements s.source) names)

-- ---- those that are kept

pub kept_few : (named : List Bool) (sources : List Source) → length (kept named sources) ≤ length sources
kept_few [] sources = omega arith
kept_few (mark ∷ named) [] = omega arith
kept_few (true ∷ named) (s ∷ sources) = let few = kept_few named sources in omega (arith, few)
kept_few (false ∷ named) (s ∷ sources) = let few = kept_few named sources in omega (arith, few)

kept_from : (named : List Bool) (sources : List Source) (j : ℕ) (s : Source)
    → slice_get (kept named sources) j ≡ Some s
    → (k : ℕ) × (slice_get sources k ≡ Some s)
kept_from [] sources j s there = absurd cc
kept_from (mark ∷ named) [] j s there = absurd cc
kept_from (true ∷ named) (x ∷ sources) zero s there = (0, there)
kept_from (true ∷ named) (x ∷ sources) (suc j) s there =
    let later = kept_from named sources j s there in (suc later.0, later.1)
kept_from (false ∷ named) (x ∷ sources) j s there =
    let later = kept_from named sources j s there in (suc later.0, later.1)

-- a source whose mark is set stands at its new number
kept_at : (named : List Bool) (sources : List Source) (n k : ℕ) (s : Source) → slice_get named k ≡ Some true
    → slice_get sources k ≡ Some s
    → (d : ℕ) × (slice_get (numbers_from n named) k ≡ Some (n + d)) × (slice_get (kept named sources) d ≡ Some s)
kept_at [] sources n k s set there = absurd cc
kept_at (mark ∷ named) [] n k s set there = absurd cc
kept_at (true ∷ named) (x ∷ sources) n zero s set there =
    let same : n ≡ n + 0 = omega arith in (0, ap (λ (m : ℕ). Some m) same, there)
kept_at (false ∷ named) (x ∷ sources) n zero s set there = absurd cc
kept_at (true ∷ named) (x ∷ sources) n (suc k) s set there =
    let later = kept_at named sources (n + 1) k s set there in
    let same : (n + 1) + later.0 ≡ n + suc later.0 = omega arith in
    (suc later.0, later.1 ∙ ap (λ (m : ℕ). Some m) same, later.2)
kept_at (false ∷ named) (x ∷ sources) n (suc k) s set there = kept_at named sources n k s set there

from_none : (d : ℕ) → 0 + d ≡ d
from_none d = omega arith

-- each new number is that of a source whose mark is set
kept_of : (named : List Bool) (sources : List Source) (n j : ℕ) → j < length (kept named sources)
    → (k : ℕ) × (slice_get named k ≡ Some true) × (slice_get (numbers_from n named) k ≡ Some (n + j))
kept_of [] sources n j within = absurd (omega (arith, within))
kept_of (mark ∷ named) [] n j within = absurd (omega (arith, within))
kept_of (true ∷ named) (x ∷ sources) n zero within =
    let same : n ≡ n + 0 = omega arith in (0, refl, ap (λ (m : ℕ). Some m) same)
kept_of (true ∷ named) (x ∷ sources) n (suc j) within =
    let later = kept_of named sources (n + 1) j (omega (arith, within)) in
    let same : (n + 1) + j ≡ n + suc j = omega arith in
    (suc later.0, later.1, later.2 ∙ ap (λ (m : ℕ). Some m) same)
kept_of (false ∷ named) (x ∷ sources) n j within =
    let later = kept_of named sources n j within in (suc later.0, later.1, later.2)

-- one more step of the loop that keeps them
pub one_kept : (named : List Bool) (sources : List Source) (i : ℕ) (b : Bool) (d : Source) → i < length named
    → i < length sources
    → (old : List Source)
    → (old ++ (if slice_index_or named i b then slice_index_or sources i d ∷ [] else []))
    ++ kept (drop (i + 1) named) (drop (i + 1) sources)
    ≡ old ++ kept (drop i named) (drop i sources)
one_kept named sources i b d mark_there source_there old =
    let s = slice_index_or sources i d in
    let rest = kept (drop (i + 1) named) (drop (i + 1) sources) in
    let parts : kept (drop i named) (drop i sources)
    ≡ kept (slice_index_or named i b ∷ drop (i + 1) named) (s ∷ drop (i + 1) sources) =
    ap (λ (bs : List Bool). kept bs (drop i sources)) (drop_more named i b mark_there)
    ∙ ap (λ (ss : List Source). kept (slice_index_or named i b ∷ drop (i + 1) named) ss)
    (drop_more sources i d source_there) in
    by_mark (slice_index_or named i b) s rest ∙ ap (λ (ss : List Source). old ++ ss) (sym parts)
  where
    by_mark : (mark : Bool) (s : Source) (rest : List Source)
        → (old ++ (if mark then s ∷ [] else [])) ++ rest ≡ old ++ (if mark then s ∷ rest else rest)
    by_mark true s rest = append_assoc old (s ∷ []) rest
    by_mark false s rest = append_assoc old [] rest

-- ---- contents without the others

-- what an entry and a statement say, by sources and the bytes of paths
abbrev start_with : List Source → List ℕ → Entry → Start
start_with sources paths e = record {
  address = e.address;
  place = option_and_then (λ (l : SourceLine). option_map (line_in paths l) (slice_get sources l.source)) e.place;
}

abbrev statement_with : List Source → List ℕ → Statement → StatementMeaning
statement_with sources paths s = record {
  path = option_map_or (source_path paths) (slice_get sources s.source) (Err Outside);
  line = s.line;
  address = s.address;
}

module _ (sources : List Source) (paths : List ℕ) (named : List Bool) (marks : length named ≡ length sources) where
  abbrev numbers : List ℕ
  numbers = numbers_from 0 named

  same_source : (k : ℕ) → slice_get named k ≡ Some true
      → slice_get (kept named sources) (number_by numbers k) ≡ slice_get sources k
  same_source k set =
      let known = get_inside sources k (omega (arith, marks, slice_get_within named k true set)) in
      let at = kept_at named sources 0 k known.0 set known.1 in
      ap (λ (o : Option ℕ). slice_get (kept named sources) (option_map_or (λ (n : ℕ). n) o k)) at.1
      ∙ ap (slice_get (kept named sources)) (from_none at.0)
      ∙ at.2 ∙ sym known.1

  same_places : (p : Option SourceLine) → IfSome p (λ l. slice_get named l.source ≡ Some true)
      → option_and_then (λ (l : SourceLine). option_map (line_in paths l) (slice_get (kept named sources) l.source))
      (option_map (line_by numbers) p)
      ≡ option_and_then (λ (l : SourceLine). option_map (line_in paths l) (slice_get sources l.source)) p
  same_places None set = refl
  same_places (Some l) set = ap (option_map (line_in paths l)) (same_source l.source set)

  pub same_starts : (entries : List Entry)
      → ((i : ℕ) (e : Entry) → slice_get entries i ≡ Some e
      → IfSome e.place (λ l. slice_get named l.source ≡ Some true))
      → map (start_with (kept named sources) paths) (map (entry_by numbers) entries)
      ≡ map (start_with sources paths) entries
  same_starts [] set = refl
  same_starts (e ∷ entries) set =
      ap (λ (p : Option Place). let s : Start = record { address = e.address; place = p } in
      s ∷ map (start_with (kept named sources) paths) (map (entry_by numbers) entries))
      (same_places e.place (set 0 e refl))
      ∙ ap (λ (ss : List Start). start_with sources paths e ∷ ss)
      (same_starts entries (λ i x there. set (suc i) x there))

  pub same_meanings : (statements : List Statement)
      → ((i : ℕ) (s : Statement) → slice_get statements i ≡ Some s → slice_get named s.source ≡ Some true)
      → map (statement_with (kept named sources) paths) (map (statement_by numbers) statements)
      ≡ map (statement_with sources paths) statements
  same_meanings [] set = refl
  same_meanings (s ∷ statements) set =
      ap (λ (o : Option Source).
      let m : StatementMeaning =
      record { path = option_map_or (source_path paths) o (Err Outside); line = s.line; address = s.address } in
      m ∷ map (statement_with (kept named sources) paths) (map (statement_by numbers) statements))
      (same_source s.source (set 0 s refl))
      ∙ ap (λ (ms : List StatementMeaning). statement_with sources paths s ∷ ms)
      (same_meanings statements (λ i x there. set (suc i) x there))

-- entries with other sources ascend as they did
pub still_ascend : (numbers : List ℕ) (entries : List Entry) → EntriesAscend entries
    → EntriesAscend (map (entry_by numbers) entries)
still_ascend numbers entries ascend i j x y lt first second =
    let one = entry_of i x first in
    let other = entry_of j y second in
    omega (
      arith,
      ascend i j one.0 other.0 lt one.1 other.1,
      ap (λ (e : Entry). e.address) one.2,
      ap (λ (e : Entry). e.address) other.2,
    )
  where
    entry_of : (k : ℕ) (z : Entry) → slice_get (map (entry_by numbers) entries) k ≡ Some z
        → (e : Entry) × (slice_get entries k ≡ Some e) × (entry_by numbers e ≡ z)
    entry_of k z there =
        let known =
        get_inside entries k
        (omega (
          arith,
          slice_get_within (map (entry_by numbers) entries) k z there,
          length-map entries (entry_by numbers),
        )) in (
          known.0,
          known.1,
          same_Some (entry_by numbers known.0) z
              (sym (slice_get-map (entry_by numbers) entries k ∙ ap (option_map (entry_by numbers)) known.1) ∙ there),
        )

pub still_columns : (numbers : List ℕ) (entries : List Entry) → All (λ e. HasColumn e.place) entries
    → All (λ e. HasColumn e.place) (map (entry_by numbers) entries)
still_columns numbers entries columns k d within =
    let known = get_inside entries k (omega (arith, within, length-map entries (entry_by numbers))) in
    let made = slice_get-map (entry_by numbers) entries k ∙ ap (option_map (entry_by numbers)) known.1 in
    subst (λ (e : Entry). HasColumn e.place)
    (sym (get_or_from_slice_get (map (entry_by numbers) entries) k (entry_by numbers known.0) d made))
    (by_place known.0.place (at_index (λ (e : Entry). HasColumn e.place) entries k known.0 known.1 columns))
  where
    by_place : (p : Option SourceLine) → HasColumn p → HasColumn (option_map (line_by numbers) p)
    by_place None has = tt
    by_place (Some l) has = has

-- ---- what is written

module _ (c : Made) (statements : List Statement) (named : List Bool) (old new : List ℕ)
    (few : length c.sources.now < 2 ^ 32)
    (marked : AreMarked (are_named c.entries.now statements) (replicate (length c.sources.now) false) named)
    (ascend : EntriesAscend c.entries.now)
    (order : HasOrder (contents_of c statements))
    (same : SayTheSameLines (contents_of c []) c.statements.now statements) where
  -- where all are named, all are kept
  pub all_written : new ≡ old ++ index_bytes (contents_of c statements) → Fits (contents_of c statements)
      → All (λ mark. mark ≡ true) named
      → IsNamedWritten c old new
  all_written bytes fits all = record {
    contents = contents_of c statements;
    bytes = bytes;
    fits = fits;
    ascending = ascend;
    ordered = order;
    named = λ k within.
        let known =
        get_inside named k
        (omega (arith, within, marks_are c.entries.now statements (length c.sources.now) named marked)) in
        named_if c.entries.now statements (length c.sources.now) named marked k within
        (known.1 ∙ ap (λ (b : Bool). Some b) (at_index (λ (b : Bool). b ≡ true) named k known.0 known.1 all));
    starts = refl;
    lines = λ path line. sym (same path line);
    sources = λ j s there. (j, there);
    paths = refl;
    address_size = refl;
    identity = refl;
  }

  module _
      (inside : (i : ℕ) (e : Entry) → slice_get c.entries.now i ≡ Some e
      → IfSome e.place (λ l. l.source < length c.sources.now))
      (also : (i : ℕ) (s : Statement) → slice_get statements i ≡ Some s → s.source < length c.sources.now)
      (w : IsKeptWritten c statements named old new) where
    abbrev count : ℕ
    count = length c.sources.now

    abbrev own : List ℕ
    own = numbers_from 0 named

    marks : length named ≡ count
    marks = marks_are c.entries.now statements count named marked

    starts_are : map (entry_start w.contents) w.contents.entries
        ≡ map (entry_start (contents_of c [])) c.entries.now
    starts_are =
        ap (map (entry_start w.contents)) w.entries
        ∙ ap (λ (ss : List Source). map (start_with ss w.contents.paths) (map (entry_by own) c.entries.now)) w.sources
        ∙ ap (λ (ps : List ℕ). map (start_with (kept named c.sources.now) ps) (map (entry_by own) c.entries.now))
        w.paths
        ∙ same_starts c.sources.now c.paths.now named marks c.entries.now (λ i e there.
        entry_marked c.entries.now statements count named marked i e there (inside i e there))

    meanings_are : map (statement_in w.contents) w.contents.statements
        ≡ map (statement_in (contents_of c [])) statements
    meanings_are =
        ap (map (statement_in w.contents)) w.statements
        ∙ ap (λ (ss : List Source). map (statement_with ss w.contents.paths) (map (statement_by own) statements))
        w.sources
        ∙ ap (λ (ps : List ℕ). map (statement_with (kept named c.sources.now) ps) (map (statement_by own) statements))
        w.paths
        ∙ same_meanings c.sources.now c.paths.now named marks statements (λ i s there.
        statement_marked c.entries.now statements count named marked i s there (also i s there))

    -- what named a source names it by its new number
    renamed : (k j : ℕ) → k < count → slice_get own k ≡ Some j → IsNamedBy c.entries.now statements k
        → IsNamedBy (map (entry_by own) c.entries.now) (map (statement_by own) statements) j
    renamed k j within number (inl by) =
        inl (
          by.0,
          entry_by own by.1,
          slice_get-map (entry_by own) c.entries.now by.0 ∙ ap (option_map (entry_by own)) by.2,
          by_place by.1.place by.3,
        )
      where
        by_place : (p : Option SourceLine) → number_in p ≡ k → number_in (option_map (line_by own) p) ≡ j
        by_place None is = absurd (omega (arith, is, within, few))
        by_place (Some l) is =
            ap (number_by own) is ∙ ap (λ (o : Option ℕ). option_map_or (λ (n : ℕ). n) o k) number
    renamed k j within number (inr by) =
        inr (
          by.0,
          statement_by own by.1,
          slice_get-map (statement_by own) statements by.0 ∙ ap (option_map (statement_by own)) by.2,
          ap (number_by own) by.3 ∙ ap (λ (o : Option ℕ). option_map_or (λ (n : ℕ). n) o k) number,
        )

    names : (j : ℕ) → j < length (kept named c.sources.now)
        → IsNamedBy (map (entry_by own) c.entries.now) (map (statement_by own) statements) j
    names j within =
        let of = kept_of named c.sources.now 0 j within in
        let there : of.0 < count = omega (arith, slice_get_within named of.0 true of.1, marks) in
        renamed of.0 j there (of.2 ∙ ap (λ (n : ℕ). Some n) (from_none j))
        (named_if c.entries.now statements count named marked of.0 there of.1)

    pub some_written : IsNamedWritten c old new
    some_written = record {
      contents = w.contents;
      bytes = w.bytes;
      fits = w.fits;
      ascending = subst EntriesAscend (sym w.entries) (still_ascend own c.entries.now ascend);
      ordered = subst AreOrdered (sym meanings_are) order;
      named = λ j within.
          subst (λ (es : List Entry). IsNamedBy es w.contents.statements j) (sym w.entries)
          (subst (λ (ss : List Statement). IsNamedBy (map (entry_by own) c.entries.now) ss j) (sym w.statements)
          (names j (omega (arith, within, ap (λ (ss : List Source). length ss) w.sources))));
      starts = starts_are;
      lines = λ path line.
          ap (λ (ms : List StatementMeaning). addresses_of path ms line) meanings_are ∙ sym (same path line);
      sources = λ j s there.
          kept_from named c.sources.now j s (ap (λ (ss : List Source). slice_get ss j) (sym w.sources) ∙ there);
      paths = w.paths;
      address_size = w.address_size;
      identity = w.identity;
    }

-- the counts of the contents that are kept
pub still_few : (c d : Made) (statements : List Statement) (named : List Bool) (numbers : List ℕ)
    → FitsCounts (contents_of c statements)
    → d.sources.now ≡ kept named c.sources.now → d.entries.now ≡ map (entry_by numbers) c.entries.now
    → d.statements.now ≡ map (statement_by numbers) statements → d.paths.now ≡ c.paths.now
    → d.identity.now ≡ c.identity.now
    → FitsCounts (contents_of d d.statements.now)
still_few c d statements named numbers fit sources entries lines paths identity = record {
  entries = omega (
    arith,
    fit.entries,
    ap (λ (es : List Entry). length es) entries,
    length-map c.entries.now (entry_by numbers),
  );
  sources = omega (arith, fit.sources, ap (λ (ss : List Source). length ss) sources, kept_few named c.sources.now);
  paths = omega (arith, fit.paths, ap (λ (ps : List ℕ). length ps) paths);
  identity = omega (arith, fit.identity, ap (λ (ns : List ℕ). length ns) identity);
  statements = omega (
    arith,
    fit.statements,
    ap (λ (ss : List Statement). length ss) lines,
    length-map statements (statement_by numbers),
  );
}

pub both_ok : {T E : Type 0} (r : Result T E) (A B P : Type 0) → OnOk r A → OnOk r B → (A → B → P) → OnOk r P
both_ok (Ok x) A B P a b f = f a b
both_ok (Err e) A B P a b f = tt

pub kept_ok : {T E : Type 0} (r : Result T E) (A P : Type 0) → OnOk r A → (A → P) → OnOk r P
kept_ok (Ok x) A P a f = f a
kept_ok (Err e) A P a f = tt

-- all of a list is in it
pub all_in : {X : Type 0} (xs : List X) → All (Contains xs) xs
all_in xs k d within =
    let known = get_inside xs k within in
    let is = get_or_from_slice_get xs k known.0 d known.1 in
    (k, within, get_or_from_slice_get xs k known.0 (slice_index_or xs k d) known.1 ∙ sym is)

-- where it stands
pub place_in_list : {X : Type 0} (xs : List X) (x : X) → Contains xs x → (k : ℕ) × (slice_get xs k ≡ Some x)
place_in_list {X} xs x in_it =
    (in_it.0, here_at xs in_it.0 x in_it.1 ∙ ap (λ (y : X). Some y) in_it.2)
