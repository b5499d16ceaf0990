-- The entries of an index in the making say what is found at each address so far.
use Rattle.std.proofs.Common.{◌≡◌, ◌⊎◌, ℕ, suc, ◌+◌, ◌-◌, ◌<◌, ◌≤◌, cond, leb, List, [], ◌∷◌, ◌++◌, length, Option}
use Rattle.std.proofs.Common.{None, Some}
use Rattle.std.proofs.Common.{refl, sym, ap, subst, ◌∙◌, inl, inr, arith}
use Rattle.std.specs.Prelude.{IfSome, slice_get, fold, nat_le, if◌then◌else◌}
use Rattle.std.specs.Option.{option_and_then, option_map}
use Rattle.std.proofs.lemmas.Bool.{cases_lt, cond-true, cond-false, le-leb, lt-leb}
use Rattle.std.proofs.lemmas.List.{length-map, map-append}
use Rattle.std.proofs.lemmas.List.Elements.{All-push}
use Rattle.std.proofs.lemmas.List.Sums.{fold-append}
use Rattle.std.proofs.lemmas.Option.{slice_get_within, slice_get-map}
use Rattle.gimli_line.specs.declared.run.row.LineRow.{LineRow}
use Rattle.gimli_lookup.specs.Ranges.{IsBefore, AreFoundIn}
use Rattle.gimli_lookup.specs.inside.FirstPair.{IsFoundAt}
use Rattle.gimli_lookup.specs.Section.{KeptUnit, found_at}
use Rattle.gimli_lookup.specs.declared.ranges.CoveredRange.{CoveredRange}
use Rattle.gimli_lookup.specs.declared.section_lookup.CoveringRows.{CoveringRows}
use Rattle.gimli_index.specs.Contents.{HasColumn, entry_start}
use Rattle.gimli_index.specs.Found.{found_place}
use Rattle.gimli_lookup.specs.ProgramPaths.{Texts}
use Rattle.gimli_index.specs.Meaning.{Place, Start, place_at}
use Rattle.gimli_index.specs.Refused.{AreFound}
use Rattle.gimli_index.specs.declared.contents.Entry.{Entry}
use Rattle.gimli_index.specs.declared.contents.SourceLine.{SourceLine}
use Rattle.gimli_index.specs.Short.{IsShort}
use Rattle.gimli_index.specs.inside.Table.{Table, AreSources, Entered, IsInside, IsPushed, Keeps, SayTheSame, last_said}
use Rattle.gimli_index.specs.inside.Table.{place_in, starts_in, with_table}
use Rattle.gimli_lookup.proofs.FirstPairs.{found_stands}
use Rattle.gimli_index.proofs.CodeRows.{code_before}
use Rattle.gimli_index.proofs.Lists.{get_pushed, get_seam}
use Rattle.gimli_index.proofs.Sources.{inside_stays, place_stays, same_places, say_the_same}

-- ---- what entries say of an address

abbrev said_by : ℕ → Option Place → Start → Option Place
said_by a current s = if nat_le s.address a then s.place else current

pub at_pushed : (table : Table) (a : ℕ) (entries : List Entry) (e : Entry)
    → place_at a (starts_in table (entries ++ e ∷ []))
    ≡ cond (leb e.address a) (place_in table e.place) (place_at a (starts_in table entries))
at_pushed table a entries e =
    ap (place_at a) (map-append (entry_start (with_table table)) entries (e ∷ []))
    ∙ fold-append (said_by a) None (starts_in table entries) (entry_start (with_table table) e ∷ [])

at_last : (table : Table) (a : ℕ) (e : Entry) (entries : List Entry) (current : Option Place) (z : Entry)
    → ((k : ℕ) (x : Entry) → slice_get (e ∷ entries) k ≡ Some x → x.address ≤ a)
    → slice_get (e ∷ entries) (length entries) ≡ Some z
    → fold (said_by a) current (starts_in table (e ∷ entries)) ≡ place_in table z.place
at_last table a e [] current z below last =
    let same : e ≡ z = cc in
    cond-true (leb e.address a) (place_in table e.place) current (le-leb e.address a (below 0 e refl))
    ∙ ap (λ (x : Entry). place_in table x.place) same
at_last table a e (next ∷ entries) current z below last =
    at_last table a next entries (cond (leb e.address a) (place_in table e.place) current) z
    (λ k x there. below (suc k) x there) last

-- where all entries are at or below an address, it is the last one that says
pub at_end : (table : Table) (a : ℕ) (entries : List Entry)
    → ((k : ℕ) (x : Entry) → slice_get entries k ≡ Some x → x.address ≤ a)
    → place_at a (starts_in table entries) ≡ place_in table (last_said entries)
at_end table a [] below = refl
at_end table a (e ∷ entries) below = by_last (slice_get (e ∷ entries) (length entries)) refl
  where
    some_last : (x : Entry) (xs : List Entry) → slice_get (x ∷ xs) (length xs) ≡ None → ⊥
    some_last x [] none = cc
    some_last x (y ∷ xs) none = some_last y xs none

    by_last : (o : Option Entry) → slice_get (e ∷ entries) (length entries) ≡ o
        → place_at a (starts_in table (e ∷ entries)) ≡ place_in table (last_said (e ∷ entries))
    by_last None is = absurd (some_last e entries is)
    by_last (Some z) is =
        let back : length (e ∷ entries) - 1 ≡ length entries = omega arith in
        at_last table a e entries None z below is
        ∙ ap (λ (o : Option Entry). place_in table (option_and_then (λ (x : Entry). x.place) o))
        (sym (ap (slice_get (e ∷ entries)) back ∙ is))

-- ---- entries so far

pub none_entered : (t : Texts) (units : List KeptUnit) {limit : ℕ} (table : Table) → AreSources t units limit table
    → Entered t units limit table [] (Some 0)
none_entered t units table are = record {
  are = are;
  inside = λ k e there. absurd cc;
  below = λ k e there. absurd cc;
  ascending = λ i j x y lt first second. absurd cc;
  columns = λ k d within. absurd (omega (arith, within));
  short = record { first = λ s there. absurd cc; merged = λ k s u first second. absurd cc };
  says = λ a before. absurd (omega (arith, before));
}

pub same_starts : (old new : Table) (entries : List Entry)
    → ((k : ℕ) (e : Entry) → slice_get entries k ≡ Some e → place_in new e.place ≡ place_in old e.place)
    → starts_in new entries ≡ starts_in old entries
same_starts old new [] each = refl
same_starts old new (e ∷ entries) each =
    ap (λ (p : Option Place). let s : Start = record { address = e.address; place = p } in s ∷ starts_in new entries)
    (each 0 e refl)
    ∙ ap (λ (ss : List Start). let s : Start = record { address = e.address; place = place_in old e.place } in s ∷ ss)
    (same_starts old new entries (λ k x there. each (suc k) x there))

-- the table goes on
pub still_entered : (t : Texts) (units : List KeptUnit) {limit : ℕ} (old new : Table) (entries : List Entry)
    (from : Option ℕ)
    → Entered t units limit old entries from
    → Keeps old new → AreSources t units limit new
    → Entered t units limit new entries from
still_entered t units old new entries from h keeps are = record {
  are = are;
  inside = λ k e there. inside_stays old new e.place keeps (h.inside k e there);
  below = h.below;
  ascending = h.ascending;
  columns = h.columns;
  short =
      subst IsShort
      (sym (same_starts old new entries (λ k e there.
      place_stays t units old new e.place h.are keeps (h.inside k e there))))
      h.short;
  says = λ a before.
      ap (place_at a) (same_starts old new entries (λ k e there.
      place_stays t units old new e.place h.are keeps (h.inside k e there)))
      ∙ h.says a before;
}

before_end : (a start : ℕ) (end : Option ℕ) → a < start → IfSome end (λ e. start < e) → IsBefore a end
before_end a start None lt above = tt
before_end a start (Some e) lt above = omega (arith, lt, above)

start_before : (start : ℕ) (end : Option ℕ) → IfSome end (λ e. start < e) → IsBefore start end
start_before start None above = tt
start_before start (Some e) above = above

-- what the last of some starts says; nothing where there is none
abbrev last_place : List Start → Option Place
last_place starts = option_and_then (λ (s : Start). s.place) (slice_get starts (length starts - 1))

pub last_place_is : (table : Table) (entries : List Entry)
    → last_place (starts_in table entries) ≡ place_in table (last_said entries)
last_place_is table entries =
    ap (λ (n : ℕ). option_and_then (λ (s : Start). s.place) (slice_get (starts_in table entries) (n - 1)))
    (length-map entries (entry_start (with_table table)))
    ∙ ap (option_and_then (λ (s : Start). s.place))
    (slice_get-map (entry_start (with_table table)) entries (length entries - 1))
    ∙ by_entry (slice_get entries (length entries - 1))
  where
    by_entry : (o : Option Entry)
        → option_and_then (λ (s : Start). s.place) (option_map (entry_start (with_table table)) o)
        ≡ place_in table (option_and_then (λ (e : Entry). e.place) o)
    by_entry None = refl
    by_entry (Some e) = refl

-- one more start, which says something else than the last one
pub short_push : (starts : List Start) (s : Start) → IsShort starts → (last_place starts ≡ s.place → ⊥)
    → IsShort (starts ++ s ∷ [])
short_push starts s is other = record {
  first = λ x there. at_first x (get_pushed starts s 0 x there);
  merged = λ k x y first second. at_next k x y (get_pushed starts s k x first) (get_pushed starts s (k + 1) y second);
}
  where
    at_first : (x : Start) → (slice_get starts 0 ≡ Some x) ⊎ ((0 ≡ length starts) × (s ≡ x)) → x.place ≡ None → ⊥
    at_first x (inl before) none = is.first x before none
    at_first x (inr last) none =
        let empty : starts ≡ [] = nil_of starts last.0 in
        other (ap last_place empty ∙ sym none ∙ ap (λ (x : Start). x.place) (sym last.1))
      where
        nil_of : (xs : List Start) → 0 ≡ length xs → xs ≡ []
        nil_of [] e = refl
        nil_of (z ∷ xs) e = absurd (omega (arith, e))

    at_next : (k : ℕ) (x y : Start) → (slice_get starts k ≡ Some x) ⊎ ((k ≡ length starts) × (s ≡ x))
        → (slice_get starts (k + 1) ≡ Some y) ⊎ ((k + 1 ≡ length starts) × (s ≡ y)) → x.place ≡ y.place → ⊥
    at_next k x y (inl one) (inl two) same = is.merged k x y one two same
    at_next k x y (inl one) (inr last) same =
        let here : k ≡ length starts - 1 = omega (arith, last.0) in
        other (ap (option_and_then (λ (z : Start). z.place)) (ap (slice_get starts) (sym here) ∙ one) ∙ same
        ∙ ap (λ (z : Start). z.place) (sym last.1))
    at_next k x y (inr last) (inl two) same = absurd (omega (arith, last.0, slice_get_within starts (k + 1) y two))
    at_next k x y (inr last) (inr also) same = absurd (omega (arith, last.0, also.0))

-- an entry that is pushed for a range
module _ (t : Texts) (units : List KeptUnit) {limit : ℕ} (table : Table) (entries new : List Entry)
    (range : CoveredRange) (place : Option SourceLine)
    (h : Entered t units limit table entries (Some range.start))
    (above : IfSome range.end (λ e. range.start < e)) (found : AreFoundIn units range) (inside : IsInside table place)
    (says : place_in table place ≡ found_place t units range.rows) (column : HasColumn place) where
  abbrev entry : Entry
  entry = record { address = range.start; place = place }

  -- what is found from the start on
  from_start : (a : ℕ) → range.start ≤ a → IsBefore a range.end
      → place_in table place ≡ found_place t units (found_at a units)
  from_start a le before = says ∙ ap (found_place t units) (found a le before)

  -- the last of the entries is inside
  last_inside : IsInside table (last_said entries)
  last_inside = by_last (slice_get entries (length entries - 1)) refl
    where
      by_last : (o : Option Entry) → slice_get entries (length entries - 1) ≡ o
          → IsInside table (option_and_then (λ (e : Entry). e.place) (slice_get entries (length entries - 1)))
      by_last None is =
          subst (λ (o : Option Entry). IsInside table (option_and_then (λ (e : Entry). e.place) o)) (sym is) tt
      by_last (Some e) is =
          subst (λ (o : Option Entry). IsInside table (option_and_then (λ (e : Entry). e.place) o)) (sym is)
          (h.inside (length entries - 1) e is)

  appended : (SayTheSame table.sources (last_said entries) place → ⊥)
      → Entered t units limit table (entries ++ entry ∷ []) range.end
  appended other = record {
    are = h.are;
    inside = λ k e there. elim (get_pushed entries entry k e there) [
      | inl earlier ↦ h.inside k e earlier
      | inr last ↦ subst (λ (x : Entry). IsInside table x.place) last.1 inside
    ];
    below = λ k e there. elim (get_pushed entries entry k e there) [
      | inl earlier ↦ before_end e.address range.start range.end (h.below k e earlier) above
      | inr last ↦ subst (λ (x : Entry). IsBefore x.address range.end) last.1 (start_before range.start range.end above)
    ];
    ascending =
        λ i j x y lt first second.
        rises i j x y lt (get_pushed entries entry i x first) (get_pushed entries entry j y second);
    columns = All-push (λ (e : Entry). HasColumn e.place) entries entry h.columns column;
    short =
        subst IsShort (sym (map-append (entry_start (with_table table)) entries (entry ∷ [])))
        (short_push (starts_in table entries) (entry_start (with_table table) entry) h.short
        (λ same. other (say_the_same t units table (last_said entries) place h.are last_inside inside
        (sym (last_place_is table entries) ∙ same))));
    says = λ a before. at_pushed table a entries entry ∙ elim (cases_lt a range.start) [
      | inl low ↦
          cond-false (leb range.start a) (place_in table place) (place_at a (starts_in table entries))
          (lt-leb range.start a low)
          ∙ h.says a low
      | inr high ↦
          cond-true (leb range.start a) (place_in table place) (place_at a (starts_in table entries))
          (le-leb range.start a high)
          ∙ from_start a high before
    ];
  }
    where
      rises : (i j : ℕ) (x y : Entry) → i < j → (slice_get entries i ≡ Some x) ⊎ ((i ≡ length entries) × (entry ≡ x))
          → (slice_get entries j ≡ Some y) ⊎ ((j ≡ length entries) × (entry ≡ y))
          → x.address ≤ y.address
      rises i j x y lt (inl one) (inl other) = h.ascending i j x y lt one other
      rises i j x y lt (inl one) (inr last) = omega (arith, h.below i x one, ap (λ (e : Entry). e.address) last.1)
      rises i j x y lt (inr last) (inl other) = absurd (omega (arith, last.0, lt, slice_get_within entries j y other))
      rises i j x y lt (inr last) (inr also) = absurd (omega (arith, last.0, also.0, lt))

  same_said : place_in table (last_said entries) ≡ place_in table place → Entered t units limit table entries range.end
  same_said same = record {
    are = h.are;
    inside = h.inside;
    below = λ k e there. before_end e.address range.start range.end (h.below k e there) above;
    ascending = h.ascending;
    columns = h.columns;
    short = h.short;
    says = λ a before. elim (cases_lt a range.start) [
      | inl low ↦ h.says a low
      | inr high ↦
          at_end table a entries (λ k e there. let low = h.below k e there in omega (arith, low, high)) ∙ same
          ∙ from_start a high before
    ];
  }

  pub pushed : IsPushed table.sources entries new entry → Entered t units limit table new range.end
  pushed (inl is) = subst (λ (es : List Entry). Entered t units limit table es range.end) (sym is.0) (appended is.1)
  pushed (inr is) =
      subst (λ (es : List Entry). Entered t units limit table es range.end) (sym is.0)
      (same_said (same_places table (last_said entries) place is.1))

stands_at : (units : List KeptUnit) (a : ℕ) (found : Option CoveringRows) → found ≡ found_at a units
    → IsFoundAt units a found
stands_at units a found is = subst (IsFoundAt units a) (sym is) (found_stands a units)

-- what is found in a range stands in a sequence
pub rows_found : (units : List KeptUnit) (range : CoveredRange) → IfSome range.end (λ e. range.start < e)
    → AreFoundIn units range
    → IfSome range.rows (AreFound units)
rows_found units range above found =
    by_rows range.rows
    (stands_at units range.start range.rows
    (found range.start (omega arith) (start_before range.start range.end above)))
  where
    by_rows : (rows : Option CoveringRows) → IsFoundAt units range.start rows → IfSome rows (AreFound units)
    by_rows None none = tt
    by_rows (Some f) first = record {
      unit = first.unit;
      there = first.there;
      rows = first.is_first.rows;
      sequence = length first.is_first.earlier;
      is_sequence = ap (λ (ss : List (List LineRow)). slice_get ss (length first.is_first.earlier)) first.is_first.parts
          ∙ get_seam first.is_first.earlier first.is_first.rows first.is_first.later;
      index = first.is_first.is_first.index;
      stands = code_before first.is_first.rows first.is_first.is_first.index f.row f.next
          first.is_first.is_first.is_pair.first first.is_first.is_first.is_pair.second;
    }

pub unit_within : (units : List KeptUnit) (range : CoveredRange) → IfSome range.end (λ e. range.start < e)
    → AreFoundIn units range
    → IfSome range.rows (λ f. f.unit < length units)
unit_within units range above found =
    by_rows range.rows
    (stands_at units range.start range.rows
    (found range.start (omega arith) (start_before range.start range.end above)))
  where
    by_rows : (rows : Option CoveringRows) → IsFoundAt units range.start rows → IfSome rows (λ f. f.unit < length units)
    by_rows None none = tt
    by_rows (Some f) first = slice_get_within units f.unit first.unit first.there
