-- The first pair of all sequences of a section is that of its unit.
use Rattle.std.proofs.Common.{◌≡◌, ℕ, ◌+◌, ◌-◌, ◌<◌, ◌≤◌, List, length, map, take, drop, sym, ap, subst, ◌∙◌, arith}
use Rattle.std.specs.Prelude.{None, slice_index_or, option_map, All}
use Rattle.std.proofs.lemmas.List.{get_or-map, get_or-take, get_or-drop, length-take, length-take-le, length-drop}
use Rattle.std.proofs.lemmas.Option.{get_or_from_slice_get, slice_get_within, slice_get-get_or, slice_get-map}
use Rattle.gimli_line.specs.declared.run.row.LineRow.{LineRow}
use Rattle.gimli_lookup.specs.inside.FirstPair.{HasNoPair, IsFirstPair}
use Rattle.gimli_lookup.specs.inside.FirstPair.{IsFirstPairIn}
use Rattle.gimli_lookup.specs.Section.{ListedUnit, KeptUnit, with_sequences, AreAdjacent}
use Rattle.gimli_lookup.specs.inside.FirstPair.{IsFirstPairOfUnit}
use Rattle.gimli_lookup.proofs.Pairs.{first_found}
use Rattle.gimli_lookup.proofs.Sections.{HasPlaces, has_indexes, earlier_ends}

-- a part of sequences of which none has a pair
none_in_part : (a : ℕ) (s : List (List LineRow)) (index first end : ℕ) → index ≤ length s → end ≤ index
    → All (HasNoPair a) (take index s)
    → All (HasNoPair a) (take (end - first) (drop first s))
none_in_part a s index first end within le none j d lt =
    let short : j < end - first = omega (arith, lt, length-take (end - first) (drop first s)) in
    let there : first + j < length (take index s) = omega (arith, short, le, length-take-le index s within) in
    let is : slice_index_or (take (end - first) (drop first s)) j d ≡ slice_index_or s (first + j) d =
    get_or-take (end - first) (drop first s) j d short ∙ get_or-drop first s j d in
    let same : slice_index_or (take index s) (first + j) d
    ≡ slice_index_or s (first + j) d = get_or-take index s (first + j) d (omega (arith, short, le)) in
    subst (HasNoPair a) (same ∙ sym is) (none (first + j) d there)

-- the part with the sequence that has the first pair
first_in_part : (a : ℕ) (s : List (List LineRow)) (index first end : ℕ) (x y : LineRow) → first ≤ index → index < end
    → end ≤ length s
    → IsFirstPairIn a s index x y → IsFirstPair a (take (end - first) (drop first s)) x y
first_in_part a s index first end x y from before within f =
    let part = take (end - first) (drop first s) in
    let i = index - first in
    let short : i < end - first = omega (arith, from, before) in
    let inside : i
    < length part = omega
    (arith, short, from, before, within, length-take (end - first) (drop first s), length-drop first s) in
    let back : first + i ≡ index = omega (arith, from) in
    let item : slice_index_or part i f.rows ≡ f.rows =
    get_or-take (end - first) (drop first s) i f.rows short ∙ get_or-drop first s i f.rows
    ∙ ap (λ (n : ℕ). slice_index_or s n f.rows) back
    ∙ get_or_from_slice_get s index f.rows f.rows f.there in
    first_found a part i f.rows x y inside (sym item) (none i part short inside back) f.is_first
  where
    none : (i : ℕ) (part : List (List LineRow)) → i < end - first → i < length (take (end - first) (drop first s))
        → first + i ≡ index
        → All (HasNoPair a) (take i (take (end - first) (drop first s)))
    none i part short inside back j d lt =
        let part = take (end - first) (drop first s) in
        let below : j < i = omega (arith, lt, length-take i part) in
        let all : index ≤ length s = omega (arith, before, within) in
        let there : first + j < length (take index s) = omega (arith, below, back, length-take-le index s all) in
        let is : slice_index_or (take i part) j d ≡ slice_index_or s (first + j) d =
        get_or-take i part j d below ∙ get_or-take (end - first) (drop first s) j d (omega (arith, below, short))
        ∙ get_or-drop first s j d in
        let same : slice_index_or (take index s) (first + j) d
        ≡ slice_index_or s (first + j) d = get_or-take index s (first + j) d (omega (arith, below, back)) in
        subst (HasNoPair a) (same ∙ sym is) (f.none_earlier (first + j) d there)

pub first_of_unit : (a : ℕ) (s : List (List LineRow)) (units : List ListedUnit) (k index : ℕ) (d : ListedUnit)
    (x y : LineRow)
    → AreAdjacent 0 units (length s)
    → k < length units → (slice_index_or units k d).first ≤ index → index < (slice_index_or units k d).end
    → IsFirstPairIn a s index x y → IsFirstPairOfUnit a (map (with_sequences s) units) k x y
first_of_unit a s units k index d x y are lt from before f =
    let u = slice_index_or units k d in
    let indexes : HasPlaces 0 (length s) u = has_indexes 0 units (length s) k d are lt in
    record {
      unit = with_sequences s u;
      there =
          slice_get-map (with_sequences s) units k ∙ ap (option_map (with_sequences s)) (slice_get-get_or units k d lt);
      none_earlier = none;
      is_first = first_in_part a s index u.first u.end x y from before indexes.ends f;
    }
  where
    none : All (λ (w : KeptUnit). All (HasNoPair a) w.sequences) (take k (map (with_sequences s) units))
    none j e short =
        let kept = map (with_sequences s) units in
        let below : j < k = omega (arith, short, length-take k kept) in
        let v = slice_index_or units j d in
        let is : slice_index_or (take k kept) j e ≡ with_sequences s v = get_or-take k kept j e below
        ∙ get_or-map (with_sequences s) units j d e (omega (arith, below, lt)) in
        let ends : v.end ≤ index = omega (arith, earlier_ends 0 units (length s) j k d d are below lt, from) in
        let within : index ≤ length s = omega (arith, slice_get_within s index f.rows f.there) in
        subst (λ (w : KeptUnit). All (HasNoPair a) w.sequences) (sym is)
        (none_in_part a s index v.first v.end within ends f.none_earlier)

-- ---- what an index finds, and the unit of its index

pub index_within : (a : ℕ) (sequences s : List (List LineRow)) (units us : List ListedUnit) (index : ℕ) (x y : LineRow)
    → AreAdjacent 0 units (length sequences)
    → s ≡ sequences → us ≡ units
    → IsFirstPairIn a s index x y → (end : ℕ) × AreAdjacent 0 us end × (index < end)
index_within a sequences s units us index x y are same_s same_us f = (
  length sequences,
  subst (λ (z : List ListedUnit). AreAdjacent 0 z (length sequences)) (sym same_us) are,
  omega (arith, slice_get_within s index f.rows f.there, ap (λ (z : List (List LineRow)). length z) same_s),
)

pub unit_found : (a : ℕ) (sequences s : List (List LineRow)) (units us : List ListedUnit) (kept : List KeptUnit)
    (k index : ℕ) (x y : LineRow)
    → AreAdjacent 0 units (length sequences)
    → map (with_sequences sequences) units ≡ kept → s ≡ sequences → us ≡ units → k < length us
    → ((d : ListedUnit) → (slice_index_or us k d).first ≤ index)
    → ((d : ListedUnit) → index < (slice_index_or us k d).end) → IsFirstPairIn a s index x y
    → IsFirstPairOfUnit a kept k x y
unit_found a sequences s units us kept k index x y are is same_s same_us lt from before f =
    let d : ListedUnit = record { offset = 0; header = None; fault = None; first = 0; end = 0 } in
    subst (λ (z : List KeptUnit). IsFirstPairOfUnit a z k x y) is
    (first_of_unit a sequences units k index d x y are
    (omega (arith, lt, ap (λ (z : List ListedUnit). length z) same_us))
    (subst (λ (z : List ListedUnit). (slice_index_or z k d).first ≤ index) same_us (from d))
    (subst (λ (z : List ListedUnit). index < (slice_index_or z k d).end) same_us (before d))
    (subst (λ (z : List (List LineRow)). IsFirstPairIn a z index x y) same_s f))
