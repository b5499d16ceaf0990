-- The entries of sequences in the making agree with the starts of all rows so far.
use Rattle.std.proofs.Common.{◌≡◌, ◌∙◌, ◌⊎◌, ℕ, ◌-◌, ◌<◌, ◌≤◌, leb, List, [], ◌∷◌, ◌++◌, length, Option, None, Some}
use Rattle.std.proofs.Common.{refl, sym, ap, subst}
use Rattle.std.proofs.Common.{inl, inr, arith}
use Rattle.std.specs.Prelude.{slice_get, nat_le, if◌then◌else◌}
use Rattle.std.specs.Option.{option_and_then}
use Rattle.std.proofs.lemmas.Bool.{cases_lt, cond-false, cond-true, le-leb, lt-leb}
use Rattle.std.proofs.lemmas.List.{map-append}
use Rattle.std.proofs.lemmas.List.Elements.{All-push}
use Rattle.std.proofs.lemmas.List.Sums.{fold-append}
use Rattle.std.proofs.lemmas.Option.{slice_get_within}
use Rattle.gimli_lookup.specs.Section.{KeptUnit}
use Rattle.gimli_index.specs.Contents.{HasColumn, entry_start}
use Rattle.gimli_lookup.specs.ProgramPaths.{Texts}
use Rattle.gimli_index.specs.Meaning.{Place, Start, place_at}
use Rattle.gimli_index.specs.Short.{IsShort}
use Rattle.gimli_index.specs.declared.contents.Entry.{Entry}
use Rattle.gimli_index.specs.inside.Table.{Table, AreSources, IsInside, IsPushed, Keeps, SayTheSame, last_said}
use Rattle.gimli_index.specs.inside.Table.{place_in, starts_in, with_table}
use Rattle.gimli_index.specs.inside.Turns.{Agree, Walked}
use Rattle.gimli_index.proofs.Entered.{at_end, last_place_is, same_starts, short_push}
use Rattle.gimli_index.proofs.Lists.{get_pushed}
use Rattle.gimli_index.proofs.Sources.{inside_stays, place_stays, same_places, say_the_same}

-- nothing so far
pub none_walked : (t : Texts) (units : List KeptUnit) {limit : ℕ} (table : Table) → AreSources t units limit table
    → Walked t units limit table [] [] 0
none_walked t units table are = record {
  are = are;
  inside = λ k e there. absurd cc;
  below = λ k e there. absurd cc;
  ascending = λ i j x y lt first second. absurd cc;
  columns = λ k d within. absurd (omega (arith, within));
  short = record { first = λ s there. absurd cc; merged = λ k s u first second. absurd cc };
  agree = λ a. refl;
}

-- the table goes on
pub still_walked : (t : Texts) (units : List KeptUnit) {limit : ℕ} (old new : Table) (entries : List Entry)
    (said : List Start) (end : ℕ)
    → Walked t units limit old entries said end → Keeps old new → AreSources t units limit new
    → Walked t units limit new entries said end
still_walked t units old new entries said end h keeps are =
    let same : starts_in new entries ≡ starts_in old entries =
    same_starts old new entries (λ k e there. place_stays t units old new e.place h.are keeps (h.inside k e there)) in
    record {
      are = are;
      inside = λ k e there. inside_kept k e there;
      below = h.below;
      ascending = h.ascending;
      columns = h.columns;
      short = subst IsShort (sym same) h.short;
      agree = subst (λ (ss : List Start). Agree ss said) (sym same) h.agree;
    }
  where
    inside_kept : (k : ℕ) (e : Entry) → slice_get entries k ≡ Some e → IsInside new e.place
    inside_kept k e there = inside_stays old new e.place keeps (h.inside k e there)

-- ---- one more start

places_push : (starts said : List Start) (s : Start) (a : ℕ) → place_at a starts ≡ place_at a said
    → place_at a (starts ++ s ∷ []) ≡ place_at a (said ++ s ∷ [])
places_push starts said s a same =
    fold-append (λ (c : Option Place) (x : Start). if nat_le x.address a then x.place else c) None starts (s ∷ [])
    ∙ ap (λ (c : Option Place). if nat_le s.address a then s.place else c) same
    ∙ sym (fold-append (λ (c : Option Place) (x : Start). if nat_le x.address a then x.place else c) None said (s ∷ []))

agree_push : (starts said : List Start) (s : Start) → Agree starts said → Agree (starts ++ s ∷ []) (said ++ s ∷ [])
agree_push starts said s h a = places_push starts said s a (h a)

module _ (t : Texts) (units : List KeptUnit) {limit : ℕ} (table : Table) (entries new : List Entry) (e : Entry)
    (said : List Start) (end : ℕ)
    (h : Walked t units limit table entries said end)
    (above : end ≤ e.address) (inside : IsInside table e.place) (column : HasColumn e.place) where
  abbrev start : Start
  start = entry_start (with_table table) e

  -- the last of the entries is inside
  last_inside : IsInside table (last_said entries)
  last_inside = by_last (slice_get entries (length entries - 1)) refl
    where
      by_last : (o : Option Entry) → slice_get entries (length entries - 1) ≡ o
          → IsInside table (option_and_then (λ (e : Entry). e.place) (slice_get entries (length entries - 1)))
      by_last None is =
          subst (λ (o : Option Entry). IsInside table (option_and_then (λ (e : Entry). e.place) o)) (sym is) tt
      by_last (Some x) is =
          subst (λ (o : Option Entry). IsInside table (option_and_then (λ (e : Entry). e.place) o)) (sym is)
          (h.inside (length entries - 1) x is)

  longer : starts_in table (entries ++ e ∷ []) ≡ starts_in table entries ++ start ∷ []
  longer = map-append (entry_start (with_table table)) entries (e ∷ [])

  appended : (SayTheSame table.sources (last_said entries) e.place → ⊥)
      → Walked t units limit table (entries ++ e ∷ []) (said ++ start ∷ []) e.address
  appended other = record {
    are = h.are;
    inside = λ k x there. elim (get_pushed entries e k x there) [
      | inl earlier ↦ h.inside k x earlier
      | inr last ↦ subst (λ (y : Entry). IsInside table y.place) last.1 inside
    ];
    below = λ k x there. elim (get_pushed entries e k x there) [
      | inl earlier ↦ omega (arith, h.below k x earlier, above)
      | inr last ↦ omega (arith, ap (λ (y : Entry). y.address) last.1)
    ];
    ascending =
        λ i j x y lt first second. rises i j x y lt (get_pushed entries e i x first) (get_pushed entries e j y second);
    columns = All-push (λ (x : Entry). HasColumn x.place) entries e h.columns column;
    short =
        subst IsShort (sym longer)
        (short_push (starts_in table entries) start h.short
        (λ same. other (say_the_same t units table (last_said entries) e.place h.are last_inside inside
        (sym (last_place_is table entries) ∙ same))));
    agree =
        subst (λ (ss : List Start). Agree ss (said ++ start ∷ [])) (sym longer)
        (agree_push (starts_in table entries) said start h.agree);
  }
    where
      rises : (i j : ℕ) (x y : Entry) → i < j → (slice_get entries i ≡ Some x) ⊎ ((i ≡ length entries) × (e ≡ x))
          → (slice_get entries j ≡ Some y) ⊎ ((j ≡ length entries) × (e ≡ y))
          → x.address ≤ y.address
      rises i j x y lt (inl one) (inl two) = h.ascending i j x y lt one two
      rises i j x y lt (inl one) (inr last) =
          omega (arith, h.below i x one, above, ap (λ (z : Entry). z.address) last.1)
      rises i j x y lt (inr last) (inl two) = absurd (omega (arith, last.0, lt, slice_get_within entries j y two))
      rises i j x y lt (inr last) (inr also) = absurd (omega (arith, last.0, also.0, lt))

  same_said : place_in table (last_said entries) ≡ place_in table e.place
      → Walked t units limit table entries (said ++ start ∷ []) e.address
  same_said same = record {
    are = h.are;
    inside = h.inside;
    below = λ k x there. omega (arith, h.below k x there, above);
    ascending = h.ascending;
    columns = h.columns;
    short = h.short;
    agree = λ a.
        by_order a (cases_lt a e.address)
        ∙ sym (fold-append (λ (c : Option Place) (x : Start). if nat_le x.address a then x.place else c) None said
        (start ∷ []));
  }
    where
      by_order : (a : ℕ) → (a < e.address) ⊎ (e.address ≤ a)
          → place_at a (starts_in table entries)
          ≡ (if nat_le e.address a then place_in table e.place else place_at a said)
      by_order a (inl low) =
          h.agree a
          ∙ sym (cond-false (leb e.address a) (place_in table e.place) (place_at a said) (lt-leb e.address a low))
      by_order a (inr high) =
          at_end table a entries (λ k x there. omega (arith, h.below k x there, above, high)) ∙ same
          ∙ sym (cond-true (leb e.address a) (place_in table e.place) (place_at a said) (le-leb e.address a high))

  pub walked_push : IsPushed table.sources entries new e → Walked t units limit table new (said ++ start ∷ []) e.address
  walked_push (inl is) =
      subst (λ (es : List Entry). Walked t units limit table es (said ++ start ∷ []) e.address) (sym is.0)
      (appended is.1)
  walked_push (inr is) =
      subst (λ (es : List Entry). Walked t units limit table es (said ++ start ∷ []) e.address) (sym is.0)
      (same_said (same_places table (last_said entries) e.place is.1))
