-- The units of a section, and the parts that they have of its sequences.
use Rattle.std.proofs.Common.{◌≡◌, ℕ, zero, suc, ◌+◌, ◌-◌, ◌<◌, ◌≤◌, List, [], ◌∷◌, ◌++◌, length, map, take, drop, refl}
use Rattle.std.proofs.Common.{sym, ap, add-one, ◌∙◌, arith}
use Rattle.std.specs.Prelude.{slice_index_or}
use Rattle.std.proofs.lemmas.List.{get_or-map, length-map, drop_all, drop-drop, take-append-drop}
use Rattle.gimli_line.specs.declared.run.row.LineRow.{LineRow}
use Rattle.gimli_lookup.specs.Section.{ListedUnit, KeptUnit, with_sequences, all_sequences, AreAdjacent}

-- the units as they are listed
pub listed_are : (sequences : List (List LineRow)) (units : List ListedUnit)
    → map (λ (u : KeptUnit). u.unit) (map (with_sequences sequences) units) ≡ units
listed_are sequences [] = refl
listed_are sequences (u ∷ units) = ap (λ us. u ∷ us) (listed_are sequences units)

-- ---- indices

-- the last index is no less than the first
pub up_to_end : (from : ℕ) (units : List ListedUnit) (end : ℕ) → AreAdjacent from units end → from ≤ end
up_to_end from [] end are = omega arith
up_to_end from (u ∷ units) end are = omega (arith, up_to_end u.end units end are.2)

-- the indices of a unit
pub record HasPlaces (from end : ℕ) (u : ListedUnit) : Type 0 where
  pub starts : from ≤ u.first
  pub order : u.first ≤ u.end
  pub ends : u.end ≤ end

pub has_indexes : (from : ℕ) (units : List ListedUnit) (end : ℕ) (k : ℕ) (d : ListedUnit) → AreAdjacent from units end
    → k < length units
    → HasPlaces from end (slice_index_or units k d)
has_indexes from [] end k d are lt = absurd (omega arith)
has_indexes from (u ∷ units) end zero d are lt = record {
  starts = omega (arith, are.0);
  order = are.1;
  ends = up_to_end u.end units end are.2;
}
has_indexes from (u ∷ units) end (suc k) d are lt =
    let later : HasPlaces u.end end (slice_index_or units k d) = has_indexes u.end units end k d are.2 (omega arith) in
    record { starts = omega (arith, are.0, are.1, later.starts); order = later.order; ends = later.ends }

-- the sequences of the unit at an index
pub part_is : (sequences : List (List LineRow)) (units : List ListedUnit) (k : ℕ) (u : ListedUnit) (d : KeptUnit)
    (kept : List KeptUnit)
    → map (with_sequences sequences) units ≡ kept → k < length units → u ≡ slice_index_or units k u
    → take (u.end - u.first) (drop u.first sequences) ≡ (slice_index_or kept k d).sequences
part_is sequences units k u d kept is lt there =
    ap (λ (x : ListedUnit). (with_sequences sequences x).sequences) there
    ∙ sym (ap (λ (x : KeptUnit). x.sequences) (get_or-map (with_sequences sequences) units k u d lt))
    ∙ ap (λ (ks : List KeptUnit). (slice_index_or ks k d).sequences) is

pub within_units : (sequences : List (List LineRow)) (units : List ListedUnit) (k : ℕ) (kept : List KeptUnit)
    → map (with_sequences sequences) units ≡ kept
    → k < length kept → k < length units
within_units sequences units k kept is lt =
    omega (arith, lt, ap (λ (ks : List KeptUnit). length ks) is, length-map units (with_sequences sequences))

-- the units have all sequences, one unit after the other
have_rest : (sequences : List (List LineRow)) (from : ℕ) (units : List ListedUnit)
    → AreAdjacent from units (length sequences)
    → all_sequences (map (with_sequences sequences) units) ≡ drop from sequences
have_rest sequences from [] are = sym (drop_all from sequences (omega (arith, are)))
have_rest sequences from (u ∷ units) are =
    let size = u.end - u.first in
    let there : u.first + size ≡ u.end = omega (arith, are.1) in
    ap (λ (later : List (List LineRow)). take size (drop u.first sequences) ++ later)
    (have_rest sequences u.end units are.2 ∙ ap (λ (n : ℕ). drop n sequences) (sym there)
    ∙ sym (drop-drop size u.first sequences))
    ∙ take-append-drop size (drop u.first sequences)
    ∙ ap (λ (n : ℕ). drop n sequences) are.0

pub have_all : (sequences : List (List LineRow)) (units : List ListedUnit) → AreAdjacent 0 units (length sequences)
    → all_sequences (map (with_sequences sequences) units) ≡ sequences
have_all sequences units are = have_rest sequences 0 units are

-- ---- the unit of a sequence

pub has_units : (units : List ListedUnit) (end index : ℕ) → AreAdjacent 0 units end → index < end → 0 < length units
has_units [] end index are lt = absurd (omega (arith, are, lt))
has_units (u ∷ units) end index are lt = omega arith

pub starts_at : (from : ℕ) (units : List ListedUnit) (end : ℕ) (d : ListedUnit) → AreAdjacent from units end
    → 0 < length units
    → (slice_index_or units 0 d).first ≡ from
starts_at from [] end d are some = absurd (omega arith)
starts_at from (u ∷ units) end d are some = are.0

pub ends_at : (from : ℕ) (units : List ListedUnit) (end k : ℕ) (d : ListedUnit) → AreAdjacent from units end
    → k + 1 ≡ length units
    → (slice_index_or units k d).end ≡ end
ends_at from [] end k d are is = absurd (omega (arith, is))
ends_at from (u ∷ []) end zero d are is = are.2
ends_at from (u ∷ v ∷ units) end zero d are is = absurd (omega (arith, is))
ends_at from (u ∷ units) end (suc k) d are is = ends_at u.end units end k d are.2 (omega (arith, is))

goes_on : (from : ℕ) (units : List ListedUnit) (end k : ℕ) (d : ListedUnit) → AreAdjacent from units end
    → suc k < length units
    → (slice_index_or units (suc k) d).first ≡ (slice_index_or units k d).end
goes_on from [] end k d are lt = absurd (omega arith)
goes_on from (u ∷ units) end zero d are lt = starts_at u.end units end d are.2 (omega (arith, lt))
goes_on from (u ∷ units) end (suc k) d are lt = goes_on u.end units end k d are.2 (omega (arith, lt))

pub goes_on_at : (from : ℕ) (units : List ListedUnit) (end k : ℕ) (d : ListedUnit) → AreAdjacent from units end
    → k + 1 < length units
    → (slice_index_or units (k + 1) d).first ≡ (slice_index_or units k d).end
goes_on_at from units end k d are lt =
    ap (λ (n : ℕ). (slice_index_or units n d).first) (add-one k) ∙ goes_on from units end k d are (omega (arith, lt))

-- an earlier unit ends before a later one
pub earlier_ends : (from : ℕ) (units : List ListedUnit) (end j k : ℕ) (d e : ListedUnit) → AreAdjacent from units end
    → j < k → k < length units
    → (slice_index_or units j d).end ≤ (slice_index_or units k e).first
earlier_ends from [] end j k d e are lt within = absurd (omega arith)
earlier_ends from (u ∷ units) end j zero d e are lt within = absurd (omega arith)
earlier_ends from (u ∷ units) end zero (suc k) d e are lt within =
    let later : HasPlaces u.end end (slice_index_or units k e) = has_indexes u.end units end k e are.2 (omega arith) in
    later.starts
earlier_ends from (u ∷ units) end (suc j) (suc k) d e are lt within =
    earlier_ends u.end units end j k d e are.2 (omega arith) (omega arith)

-- all sequences of a section that is seen as these units
pub all_are : (sequences : List (List LineRow)) (units : List ListedUnit) (seen : List (List LineRow))
    (kept : List KeptUnit)
    → AreAdjacent 0 units (length sequences)
    → map (with_sequences sequences) units ≡ kept → seen ≡ sequences → seen ≡ all_sequences kept
all_are sequences units seen kept are is same = same ∙ sym (have_all sequences units are) ∙ ap all_sequences is
