-- What is found at some addresses in the units of a section, one after the other.
use Rattle.std.proofs.Common.{◌≡◌, ◌⊎◌, ℕ, zero, suc, ◌+◌, ◌<◌, List, [], ◌∷◌, ◌++◌, length, map, take, refl, sym, ap}
use Rattle.std.proofs.Common.{subst}
use Rattle.std.proofs.Common.{◌∙◌, append_assoc, inl, inr}
use Rattle.std.proofs.Common.{arith}
use Rattle.std.specs.Prelude.{Bool, true, false, ◌||◌, ◌&&◌, ◌≢◌, is_none, is_some, Option, Some, None, Result, Ok, Err}
use Rattle.std.specs.Prelude.{All, slice_get, slice_index_or}
use Rattle.std.specs.List.{list_any}
use Rattle.std.specs.Option.{option_or}
use Rattle.std.proofs.lemmas.Bool.{cond-true, cond-false, cond_both, eq-eqb, ne_eqb, or_from, or_left, or_right}
use Rattle.std.proofs.lemmas.Bool.{true≢false}
use Rattle.std.proofs.lemmas.Grind.{flat_map-append}
use Rattle.std.proofs.lemmas.List.{append-nil, map-append, length-append, take-append-le}
use Rattle.std.proofs.lemmas.List.Elements.{All-push, All-nil, All-append, All-head, All-tail}
use Rattle.std.proofs.lemmas.Option.{slice_get_within}
use Rattle.std.proofs.Math.Seq.{take-append_seam}
use Rattle.gimli_core.specs.declared.error.Error.{Error}
use Rattle.gimli_line.specs.declared.run.row.LineRow.{LineRow}
use Rattle.gimli_line.specs.header.Header.{SeenHeader, UnitEntry}
use Rattle.gimli_line.specs.run.Passing.{RunState}
use Rattle.gimli_line.specs.run.Unread.{Unread}
use Rattle.gimli_line.specs.Units.{AreUnits, UnitWalk}
use Rattle.gimli_lookup.specs.declared.section_lookup.CoveringRows.{CoveringRows}
use Rattle.gimli_lookup.specs.inside.FirstPair.{HasNoPair, IsFirstPair, IsFoundAt}
use Rattle.gimli_lookup.specs.Section.{header_of}
use Rattle.gimli_lookup.specs.Section.{ListedUnit, KeptUnit, all_sequences, found_at, header_at, without_header}
use Rattle.gimli_lookup.specs.SectionSearch.{is_of_unit, listed_if, all_listed, AreFoundInSection}
use Rattle.gimli_lookup.specs.SectionUnits.{IsUnitOf}
use Rattle.gimli_lookup.specs.UnitRun.{IsKept}
use Rattle.gimli_lookup.specs.inside.Section.{bare_unit, IsFoundBehind, IsSearched}
use Rattle.gimli_lookup.specs.inside.UnitSearch.{first_covering, finds_more, AreKeptBehind, IsFoundOf}
use Rattle.gimli_lookup.proofs.CoveringSearches.{finds_no_more}
use Rattle.gimli_lookup.proofs.FirstPairs.{found_is, of_each_unit}
use Rattle.gimli_lookup.proofs.SectionUnits.{is_unit_of, IsGiven}

-- ---- lists with one more

get_left : {X : Type 0} (xs ys : List X) (k : ℕ) → k < length xs → slice_get (xs ++ ys) k ≡ slice_get xs k
get_left [] ys k lt = absurd (omega arith)
get_left (x ∷ xs) ys zero lt = refl
get_left (x ∷ xs) ys (suc k) lt = get_left xs ys k (omega arith)

get_seam : {X : Type 0} (xs : List X) (y : X) → slice_get (xs ++ y ∷ []) (length xs) ≡ Some y
get_seam [] y = refl
get_seam (x ∷ xs) y = get_seam xs y

none_of_length : {X : Type 0} (xs ys : List X) → length (xs ++ ys) ≡ length xs → ys ≡ []
none_of_length xs [] same = refl
none_of_length xs (y ∷ ys) same = absurd (omega (arith, same, length-append xs (y ∷ ys)))

same_pairs : (old more new : List CoveringRows) → new ≡ old ++ more → more ≡ [] → new ≡ old
same_pairs old more new parts none = parts ∙ ap (λ (ps : List CoveringRows). old ++ ps) none ∙ append-nil old

-- ---- one unit

or_none : (o : Option CoveringRows) → o ≡ option_or o None
or_none None = refl
or_none (Some p) = refl

pub refused : {R Offset Endian : Type 0} (lowest index : ℕ) (addresses : List ℕ) (e : Error) (offset : ℕ)
    (pairs : List CoveringRows)
    → IsSearched {R = R} {Offset = Offset} {Endian = Endian} lowest index addresses (Err e) (bare_unit offset (Some e))
    pairs pairs
refused lowest index addresses e offset pairs = record {
  unit = bare_unit offset (Some e);
  parts = [];
  outcome = (refl, refl, refl);
  more = [];
  added = sym (append-nil pairs);
  found =
      λ k d lt.
      (None, (λ j s less. absurd (omega arith)), or_none (first_covering (slice_index_or addresses k d) pairs));
  is_listed = refl;
}

pub none_is : (o : Option Error) → is_some o ≡ false → o ≡ None
none_is None is = refl
none_is (Some e) is = absurd (true≢false is)

-- the unit of a run, with its header
abbrev pub whole_unit : ℕ → RunState → Option Error → ListedUnit
whole_unit offset run fault = record {
  offset = offset;
  header = Some (header_at run);
  fault = fault;
  first = 0;
  end = 0;
}

pub searched : {R Offset Endian : Type 0} (lowest index : ℕ) (addresses : List ℕ) (program : SeenHeader R Offset Endian)
    (run : RunState)
    (offset : ℕ) (fault : Option Error) (listed : ListedUnit) (old found new : List CoveringRows)
    (parts : List (List LineRow))
    → IsKept program.layout lowest program.meaning (header_of run) fault parts
    → run.source.layout ≡ program.layout
    → All (λ a. IsFoundOf index parts a (first_covering a found)) addresses → AreKeptBehind addresses old found new
    → (((length new ≢ length old) ⊎ (is_some fault ≡ true)) × (listed ≡ whole_unit offset run fault))
    ⊎ ((length new ≡ length old) × (fault ≡ None) × (listed ≡ bare_unit offset fault))
    → IsSearched lowest index addresses (Ok program) listed old new
searched lowest index addresses program run offset fault listed old found new parts is_kept layout here kept is =
    record {
      unit = unit;
      parts = parts;
      outcome = (header_at run, refl, layout, is_kept);
      more = kept.more;
      added = kept.parts;
      found = λ k d lt. (first_covering (slice_index_or addresses k d) found, here k d lt, kept.first k d lt);
      is_listed = by_length is;
    }
  where
    unit : ListedUnit
    unit = whole_unit offset run fault

    finds : Bool
    finds = finds_more addresses old new

    is_needed : (length new ≢ length old) ⊎ (is_some fault ≡ true) → (kept.more ≡ []) ⊎ (finds ≡ true)
        → (is_some fault || finds) ≡ true
    is_needed (inr faulty) needed = or_left (is_some fault) finds faulty
    is_needed (inl longer) (inr needed) = or_right (is_some fault) finds needed
    is_needed (inl longer) (inl none) =
        absurd (longer (ap (λ (ps : List CoveringRows). length ps) (same_pairs old kept.more new kept.parts none)))

    by_length : (((length new ≢ length old) ⊎ (is_some fault ≡ true)) × (listed ≡ unit))
        ⊎ ((length new ≡ length old) × (fault ≡ None) × (listed ≡ bare_unit offset fault))
        → listed ≡ listed_if finds unit
    by_length (inl whole) =
        whole.1
        ∙ sym (cond-true (is_some fault || finds) unit (without_header unit) (is_needed whole.0 kept.needed))
    by_length (inr bare) =
        let none : kept.more ≡ [] =
        none_of_length old kept.more (sym (ap (λ (ps : List CoveringRows). length ps) kept.parts) ∙ bare.0) in
        bare.2
        ∙ sym (cond-false (is_some fault || finds) unit (without_header unit)
        (or_from (is_some fault) finds (ap is_some bare.1)
        (finds_no_more addresses old new (same_pairs old kept.more new kept.parts none))))

-- ---- a unit more, at one address

module _ (a : ℕ) (units : List KeptUnit) (u : KeptUnit) where
  earlier_stays : (p : CoveringRows) → IsFoundAt units a (Some p) → IsFoundAt (units ++ u ∷ []) a (Some p)
  earlier_stays p found =
      let lt : p.unit < length units = slice_get_within units p.unit found.unit found.there in
      record {
        unit = found.unit;
        there = get_left units (u ∷ []) p.unit lt ∙ found.there;
        none_earlier =
            subst (All (λ (w : KeptUnit). All (HasNoPair a) w.sequences))
            (sym (take-append-le p.unit units (u ∷ []) (omega (arith, lt)))) found.none_earlier;
        is_first = found.is_first;
      }

  none_still : All (HasNoPair a) (all_sequences units) → All (HasNoPair a) u.sequences
      → IsFoundAt (units ++ u ∷ []) a None
  none_still none here =
      subst (All (HasNoPair a))
      (ap (λ (s : List (List LineRow)). all_sequences units ++ s) (sym (append-nil u.sequences))
      ∙ sym (flat_map-append (λ (w : KeptUnit). w.sequences) units (u ∷ [])))
      (All-append (HasNoPair a) (all_sequences units) u.sequences none here)

  comes_here : (p : CoveringRows) → p.unit ≡ length units → All (HasNoPair a) (all_sequences units)
      → IsFirstPair a u.sequences p.row p.next
      → IsFoundAt (units ++ u ∷ []) a (Some p)
  comes_here p is none first =
      let before : take p.unit (units ++ u ∷ []) ≡ units = ap (λ (n : ℕ). take n (units ++ u ∷ [])) is
      ∙ take-append_seam units (u ∷ []) in
      record {
        unit = u;
        there = ap (slice_get (units ++ u ∷ [])) is ∙ get_seam units u;
        none_earlier =
            subst (All (λ (w : KeptUnit). All (HasNoPair a) w.sequences)) (sym before) (of_each_unit a units none);
        is_first = first;
      }

  found_next : (before here after : Option CoveringRows) → IsFoundAt units a before
      → IsFoundOf (length units) u.sequences a here
      → after ≡ option_or before here → IsFoundAt (units ++ u ∷ []) a after
  found_next (Some p) here after found of is =
      subst (IsFoundAt (units ++ u ∷ []) a) (sym is) (earlier_stays p found)
  found_next None None after found of is = subst (IsFoundAt (units ++ u ∷ []) a) (sym is) (none_still found of)
  found_next None (Some p) after found of is =
      subst (IsFoundAt (units ++ u ∷ []) a) (sym is) (comes_here p of.0 found of.1)

-- ---- units as they are listed

any_same : (f g : ℕ → Bool) (addresses : List ℕ) → All (λ a. f a ≡ g a) addresses
    → list_any f addresses ≡ list_any g addresses
any_same f g [] same = refl
any_same f g (a ∷ addresses) same =
    ap (λ b. b || list_any f addresses) (All-head (λ n. f n ≡ g n) a addresses same)
    ∙ ap (λ b. g a || b) (any_same f g addresses (All-tail (λ n. f n ≡ g n) a addresses same))

-- whether rows of the unit at an index are found at one of the addresses
abbrev finds_in : List ℕ → List CoveringRows → ℕ → Bool
finds_in addresses pairs index = list_any (λ a. is_of_unit index (first_covering a pairs)) addresses

any_found : (addresses : List ℕ) (pairs : List CoveringRows) (index : ℕ)
    → list_any (is_of_unit index) (map (λ a. first_covering a pairs) addresses) ≡ finds_in addresses pairs index
any_found [] pairs index = refl
any_found (a ∷ addresses) pairs index =
    ap (λ b. is_of_unit index (first_covering a pairs) || b) (any_found addresses pairs index)

-- a unit more changes nothing for those before it
not_of_earlier : (a index k : ℕ) (parts : List (List LineRow)) (before here after : Option CoveringRows) → k < index
    → IsFoundOf index parts a here → after ≡ option_or before here → is_of_unit k after ≡ is_of_unit k before
not_of_earlier a index k parts (Some p) here after lt of is = ap (is_of_unit k) is
not_of_earlier a index k parts None None after lt of is = ap (is_of_unit k) is
not_of_earlier a index k parts None (Some p) after lt of is =
    let there = of.0 in
    ap (is_of_unit k) is ∙ ne_eqb p.unit k (λ same. omega (arith, same, there, lt))

-- what is found of a unit more is found at no address before
of_this_unit : (a : ℕ) (units : List KeptUnit) (parts : List (List LineRow)) (before here after : Option CoveringRows)
    → IsFoundAt units a before → IsFoundOf (length units) parts a here → after ≡ option_or before here
    → is_of_unit (length units) after ≡ (is_none before && is_some after)
of_this_unit a units parts (Some p) here after found of is =
    let lt : p.unit < length units = slice_get_within units p.unit found.unit found.there in
    ap (is_of_unit (length units)) is ∙ ne_eqb p.unit (length units) (λ same. omega (arith, same, lt))
of_this_unit a units parts None None after found of is = rw is refl
of_this_unit a units parts None (Some p) after found of is =
    ap (is_of_unit (length units)) is ∙ eq-eqb p.unit (length units) of.0 ∙ sym (ap is_some is)

listed_append : (rows : List (Option CoveringRows)) (index : ℕ) (units : List KeptUnit) (u : KeptUnit)
    → all_listed rows index (units ++ u ∷ [])
    ≡ all_listed rows index units ++ listed_if (list_any (is_of_unit (index + length units)) rows) u.unit ∷ []
listed_append rows index [] u =
    let here : index ≡ index + 0 = omega arith in
    ap (λ n. listed_if (list_any (is_of_unit n) rows) u.unit ∷ []) here
listed_append rows index (w ∷ units) u =
    let next : suc index + length units ≡ index + suc (length units) = omega arith in
    ap (λ listed. listed_if (list_any (is_of_unit index) rows) w.unit ∷ listed)
    (listed_append rows (suc index) units u
    ∙ ap (λ n. all_listed rows (suc index) units ++ listed_if (list_any (is_of_unit n) rows) u.unit ∷ []) next)

listed_same : (rows others : List (Option CoveringRows)) (index : ℕ) (units : List KeptUnit)
    → ((k : ℕ) → k < index + length units → list_any (is_of_unit k) rows ≡ list_any (is_of_unit k) others)
    → all_listed rows index units ≡ all_listed others index units
listed_same rows others index [] same = refl
listed_same rows others index (w ∷ units) same =
    ap (λ b. listed_if b w.unit ∷ all_listed rows (suc index) units) (same index (omega arith))
    ∙ ap (λ listed. listed_if (list_any (is_of_unit index) others) w.unit ∷ listed)
    (listed_same rows others (suc index) units (λ k lt. same k (omega (arith, lt))))

as_many : (rows : List (Option CoveringRows)) (index : ℕ) (units : List KeptUnit)
    → length (all_listed rows index units) ≡ length units
as_many rows index [] = refl
as_many rows index (w ∷ units) = ap suc (as_many rows (suc index) units)

-- ---- the walk

-- the units so far were searched, and those that are still to come follow them
pub record AreSearched (section : Unread) (entry : UnitEntry) (lowest : ℕ) (addresses offsets : List ℕ)
    (listed : List ListedUnit) (pairs : List CoveringRows)
    (walk : UnitWalk) : Type 0 where
  pub units : List KeptUnit
  pub each : All (IsUnitOf section entry lowest) units
  pub listed_are : listed ≡ all_listed (map (λ a. first_covering a pairs) addresses) 0 units
  pub to_come : offsets ≡ map (λ (u : KeptUnit). u.unit.offset) units ++ walk.offsets
  pub same_section : walk.section ≡ section
  pub same_entry : walk.entry ≡ entry
  pub found : All (λ a. IsFoundAt units a (first_covering a pairs)) addresses

pub none_searched : (lowest : ℕ) (addresses : List ℕ) (walk : UnitWalk)
    → AreSearched walk.section walk.entry lowest addresses walk.offsets [] [] walk
none_searched lowest addresses walk = record {
  units = [];
  each = All-nil (IsUnitOf walk.section walk.entry lowest);
  listed_are = refl;
  to_come = refl;
  same_section = refl;
  same_entry = refl;
  found = λ k d lt j s less. absurd (omega arith);
}

-- a listed unit has the offset of the unit
same_offset : (u l : ListedUnit) (has_rows : Bool) → l ≡ listed_if has_rows u → l.offset ≡ u.offset
same_offset u l has_rows is =
    ap (λ (x : ListedUnit). x.offset) is
    ∙ cond_both (is_some u.fault || has_rows) u (without_header u) (λ (x : ListedUnit). x.offset ≡ u.offset)
    (λ whole. refl) (λ bare. refl)

pub one_searched : {R Offset Endian : Type 0} (section : Unread) (entry : UnitEntry) (lowest : ℕ)
    (addresses offsets : List ℕ) (listed : List ListedUnit)
    (pairs new : List CoveringRows) (walk after : UnitWalk) (o : ℕ)
    (program : Result (SeenHeader R Offset Endian) Error) (l : ListedUnit)
    → AreSearched section entry lowest addresses offsets listed pairs walk → IsGiven walk after o program → l.offset ≡ o
    → IsSearched lowest (length listed) addresses program l pairs new
    → AreSearched section entry lowest addresses offsets (listed ++ l ∷ []) new after
one_searched section entry lowest addresses offsets listed pairs new walk after o program l are given offset one =
    let units = are.units in
    let u : KeptUnit = record { unit = one.unit; sequences = one.parts } in
    let at : one.unit.offset ≡ o = sym (same_offset one.unit l (finds_more addresses pairs new) one.is_listed)
    ∙ offset in
    let before = map (λ a. first_covering a pairs) addresses in
    let after_it = map (λ a. first_covering a new) addresses in
    let same : length listed ≡ length units = ap (λ (ls : List ListedUnit). length ls) are.listed_are
    ∙ as_many before 0 units in
    let here_of : All (λ a. IsFoundBehind (length units) one.parts (first_covering a pairs) a (first_covering a new))
    addresses =
    subst (λ (n : ℕ). All (λ a. IsFoundBehind n one.parts (first_covering a pairs) a (first_covering a new)) addresses)
    same one.found in
    let earlier : (k : ℕ) → k < 0 + length units → list_any (is_of_unit k) before ≡ list_any (is_of_unit k) after_it =
    λ k lt. any_found addresses pairs k
    ∙ any_same (λ a. is_of_unit k (first_covering a pairs)) (λ a. is_of_unit k (first_covering a new)) addresses
    (λ i d inside.
    let a = slice_index_or addresses i d in
    let f = here_of i d inside in
    sym (not_of_earlier a (length units) k one.parts (first_covering a pairs) f.0 (first_covering a new)
    (omega (arith, lt)) f.1 f.2))
    ∙ sym (any_found addresses new k) in
    let this : list_any (is_of_unit (0 + length units)) after_it ≡ finds_more addresses pairs new =
    ap (λ n. list_any (is_of_unit n) after_it) (omega arith)
    ∙ any_found addresses new (length units)
    ∙ any_same (λ a. is_of_unit (length units) (first_covering a new))
    (λ a. is_none (first_covering a pairs) && is_some (first_covering a new)) addresses
    (λ i d inside.
    let a = slice_index_or addresses i d in
    let f = here_of i d inside in
    of_this_unit a units one.parts (first_covering a
    pairs) f.0 (first_covering a new) (are.found i d inside) f.1 f.2) in
    let here : IsUnitOf walk.section walk.entry lowest u =
    is_unit_of walk.section walk.entry lowest program one.unit o one.parts at given.unit given.refusal given.layout
    one.outcome in
    let there : IsUnitOf section entry lowest u =
    subst (λ (s : Unread). IsUnitOf s entry lowest u) are.same_section
    (subst (λ (e : UnitEntry). IsUnitOf walk.section e lowest u) are.same_entry here) in
    record {
      units = units ++ u ∷ [];
      each = All-push (IsUnitOf section entry lowest) units u are.each there;
      listed_are =
          ap (λ (ls : List ListedUnit). ls ++ l ∷ []) (are.listed_are ∙ listed_same before after_it 0 units earlier)
          ∙ ap (λ (m : ListedUnit). all_listed after_it 0 units ++ m ∷ [])
          (one.is_listed ∙ ap (λ b. listed_if b one.unit) (sym this))
          ∙ sym (listed_append after_it 0 units u);
      to_come = are.to_come
          ∙ ap (λ (os : List ℕ). map (λ (w : KeptUnit). w.unit.offset) units ++ os)
          (given.next ∙ ap (λ (n : ℕ). n ∷ after.offsets) (sym at))
          ∙ sym (append_assoc (map (λ (w : KeptUnit). w.unit.offset) units) (one.unit.offset ∷ []) after.offsets)
          ∙ ap (λ (os : List ℕ). os ++ after.offsets)
          (sym (map-append (λ (w : KeptUnit). w.unit.offset) units (u ∷ [])));
      same_section = given.same_section ∙ are.same_section;
      same_entry = given.same_entry ∙ are.same_entry;
      found = λ k d lt.
          let a = slice_index_or addresses k d in
          let f = here_of k d lt in
          found_next a units u (first_covering a pairs) f.0 (first_covering a new) (are.found k d lt) f.1 f.2;
    }

-- ---- at each address

found_at_each : (units : List KeptUnit) (pairs : List CoveringRows) (addresses : List ℕ)
    → All (λ a. IsFoundAt units a (first_covering a pairs)) addresses
    → map (λ a. first_covering a pairs) addresses ≡ map (λ a. found_at a units) addresses
found_at_each units pairs [] found = refl
found_at_each units pairs (a ∷ addresses) found =
    ap (λ (here : Option CoveringRows). here ∷ map (λ a. first_covering a pairs) addresses)
    (found_is a units (first_covering a pairs)
    (All-head (λ n. IsFoundAt units n (first_covering n pairs)) a addresses found))
    ∙ ap (λ (rows : List (Option CoveringRows)). found_at a units ∷ rows)
    (found_at_each units pairs addresses (All-tail (λ n. IsFoundAt units n (first_covering n pairs)) a addresses found))

pub all_searched : (section : Unread) (entry : UnitEntry) (lowest : ℕ) (addresses offsets : List ℕ)
    (listed : List ListedUnit) (pairs : List CoveringRows)
    (walk : UnitWalk) (rows : List (Option CoveringRows))
    → AreSearched section entry lowest addresses offsets listed pairs walk → walk.offsets ≡ []
    → AreUnits section.layout 0 section.bytes offsets
    → rows ≡ map (λ a. first_covering a pairs) addresses → AreFoundInSection section entry lowest addresses listed rows
all_searched section entry lowest addresses offsets listed pairs walk rows are none offsets_are is = record {
  units = are.units;
  are = record {
    offsets =
        subst (AreUnits section.layout 0 section.bytes)
        (are.to_come ∙ ap (λ (os : List ℕ). map (λ (u : KeptUnit). u.unit.offset) are.units ++ os) none
        ∙ append-nil (map (λ (u : KeptUnit). u.unit.offset) are.units)) offsets_are;
    each = are.each;
  };
  listed_are = are.listed_are ∙ ap (λ (os : List (Option CoveringRows)). all_listed os 0 are.units) (sym is);
  found = is ∙ found_at_each are.units pairs addresses are.found;
}
