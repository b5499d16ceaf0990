-- The entries of all sequences of a lookup say what is found at each address.
use Rattle.std.proofs.Common.{◌≡◌, ◌∙◌, ℕ, zero, suc, ◌<◌, true, List, [], ◌∷◌, ◌++◌, length}
use Rattle.std.proofs.Common.{map, Option, Some, None, refl}
use Rattle.std.proofs.Common.{sym}
use Rattle.std.proofs.Common.{ap, subst, arith}
use Rattle.std.specs.Prelude.{flat_map, slice_get, slice_index_or, All}
use Rattle.std.specs.List.{Contains}
use Rattle.std.specs.Option.{option_map}
use Rattle.std.specs.List.Sorted.{IsPermutation}
use Rattle.std.proofs.lemmas.List.{map-append}
use Rattle.std.proofs.lemmas.List.Elements.{Contains-append_left, Contains-append_right}
use Rattle.std.proofs.lemmas.List.Sorted.{All-permutation, Contains-permutation, IsPermutation-map}
use Rattle.std.proofs.lemmas.Option.{get_or_from_slice_get, slice_get_within, slice_get-map}
use Rattle.gimli_line.specs.declared.run.row.LineRow.{LineRow}
use Rattle.gimli_lookup.specs.inside.FirstPair.{HasNoPair}
use Rattle.gimli_lookup.specs.Probes.{never_go_below, never_go_down}
use Rattle.gimli_lookup.specs.inside.FirstPair.{IsFoundAt}
use Rattle.gimli_lookup.specs.Section.{KeptUnit, all_sequences, found_at}
use Rattle.gimli_lookup.specs.Section.{rows_of}
use Rattle.gimli_lookup.specs.declared.section_lookup.CoveringRows.{CoveringRows}
use Rattle.gimli_index.specs.Found.{found_place, row_place}
use Rattle.gimli_lookup.specs.ProgramPaths.{Texts}
use Rattle.gimli_index.specs.Meaning.{place_at}
use Rattle.gimli_index.specs.declared.contents.Entry.{Entry}
use Rattle.gimli_index.specs.declared.turns.Turn.{Turn}
use Rattle.gimli_index.specs.inside.Table.{Entered, Table}
use Rattle.gimli_index.specs.inside.Turns.{AreTurns, UnitRows, Walked, rows_in, rows_of_turns}
use Rattle.gimli_index.specs.inside.Turns.{rows_of_units, starts_of_turn}
use Rattle.gimli_index.specs.inside.Turns.{turn_rows}
use Rattle.gimli_lookup.proofs.FirstPairs.{found_stands}
use Rattle.gimli_index.proofs.Lists.{get_inside, get_seam}
use Rattle.gimli_index.proofs.TurnPlaces.{none_round, one_round, rows_of_all}

abbrev rows_in_unit : UnitRows → List LineRow
rows_in_unit s = s.rows

-- ---- the sequences of all units

sequences_in : (u : KeptUnit) (sequences : List (List LineRow))
    → map rows_in_unit
    (map (λ (rows : List LineRow). let s : UnitRows = record { unit = u.unit; rows = rows } in s) sequences)
    ≡ sequences
sequences_in u [] = refl
sequences_in u (rows ∷ sequences) = ap (λ (rs : List (List LineRow)). rows ∷ rs) (sequences_in u sequences)

sequences_are : (units : List KeptUnit) → map rows_in_unit (rows_of_units units) ≡ all_sequences units
sequences_are [] = refl
sequences_are (u ∷ units) =
    map-append rows_in_unit (rows_in u) (rows_of_units units)
    ∙ ap (λ (rs : List (List LineRow)). rs ++ map rows_in_unit (rows_of_units units)) (sequences_in u u.sequences)
    ∙ ap (λ (rs : List (List LineRow)). u.sequences ++ rs) (sequences_are units)

module _ (units : List KeptUnit) (d : KeptUnit) where
  rows_same : (turns : List Turn) → rows_of_all (map (turn_rows units d) turns) ≡ rows_of_turns turns
  rows_same [] = refl
  rows_same (turn ∷ turns) = ap (λ (rs : List LineRow). rows_of turn.rows ++ rs) (rows_same turns)

  sequences_same : (turns : List Turn)
      → map rows_in_unit (map (turn_rows units d) turns) ≡ map (λ (turn : Turn). rows_of turn.rows) turns
  sequences_same [] = refl
  sequences_same (turn ∷ turns) = ap (λ (rs : List (List LineRow)). rows_of turn.rows ∷ rs) (sequences_same turns)

pub some_unit : KeptUnit
some_unit = record { unit = record { offset = 0; header = None; fault = None; first = 0; end = 0 }; sequences = [] }

-- a sequence of a unit is one of all units
contained_in : (u : KeptUnit) (sequences : List (List LineRow)) (k : ℕ) (rows : List LineRow)
    → slice_get sequences k ≡ Some rows
    → Contains (map (λ (rs : List LineRow). let s : UnitRows = record { unit = u.unit; rows = rs } in s) sequences)
    (record { unit = u.unit; rows = rows })
contained_in u [] k rows there = absurd cc
contained_in u (first ∷ sequences) zero rows there =
    let same : first ≡ rows = cc in
    (0, omega arith, ap (λ (rs : List LineRow). let s : UnitRows = record { unit = u.unit; rows = rs } in s) same)
contained_in u (first ∷ sequences) (suc k) rows there =
    let at = contained_in u sequences k rows there in
    (suc at.0, omega (arith, at.1), at.2)

contained : (units : List KeptUnit) (i k : ℕ) (u : KeptUnit) (rows : List LineRow) → slice_get units i ≡ Some u
    → slice_get u.sequences k ≡ Some rows
    → Contains (rows_of_units units) (record { unit = u.unit; rows = rows })
contained [] i k u rows there stands = absurd cc
contained (w ∷ units) zero k u rows there stands =
    let same : w ≡ u = cc in
    Contains-append_left (rows_in w) (rows_of_units units) (record { unit = u.unit; rows = rows })
    (subst (λ (v : KeptUnit). Contains (rows_in v) (record { unit = u.unit; rows = rows })) (sym same)
    (contained_in u u.sequences k rows stands))
contained (w ∷ units) (suc i) k u rows there stands =
    Contains-append_right (rows_in w) (rows_of_units units) (record { unit = u.unit; rows = rows })
    (contained units i k u rows there stands)

-- what holds of each of some, by its place
each_at : {X : Type 0} (P : X → Type 0) (xs : List X) → All P xs → (k : ℕ) (x : X) → slice_get xs k ≡ Some x → P x
each_at P xs all k x there = subst P (get_or_from_slice_get xs k x x there) (all k x (slice_get_within xs k x there))

all_at : {X Y : Type 0} (P : Y → Type 0) (f : X → Y) (xs : List X) → All P (map f xs) → (k : ℕ) (x : X)
    → slice_get xs k ≡ Some x → P (f x)
all_at {X} P f xs all k x there =
    each_at P (map f xs) all k (f x) (slice_get-map f xs k ∙ ap (option_map f) there)

-- ---- what the entries of all sequences say

module _ (t : Texts) (units : List KeptUnit) (turns : List Turn) (are : AreTurns units turns) where
  abbrev ordered : List UnitRows
  ordered = map (turn_rows units some_unit) turns

  shuffled : IsPermutation (rows_of_units units) ordered
  shuffled = are.all some_unit

  sequences_shuffled : IsPermutation (all_sequences units) (map (λ (turn : Turn). rows_of turn.rows) turns)
  sequences_shuffled =
      subst (λ (ss : List (List LineRow)). IsPermutation ss (map (λ (turn : Turn). rows_of turn.rows) turns))
      (sequences_are units)
      (subst (IsPermutation (map rows_in_unit (rows_of_units units))) (sequences_same units some_unit turns)
      (IsPermutation-map rows_in_unit (rows_of_units units) ordered shuffled))

  -- ---- where no row has an address below that of one before it

  module _ (down : never_go_down (rows_of_turns turns) ≡ true) where
    all_down : never_go_below 0 (rows_of_all ordered) ≡ true
    all_down = ap (never_go_below 0) (rows_same units some_unit turns) ∙ down

    no_pair_in : (a : ℕ) → All (HasNoPair a) (all_sequences units) → (k : ℕ) (s : UnitRows)
        → slice_get ordered k ≡ Some s → HasNoPair a s.rows
    no_pair_in a none k s there =
        all_at (HasNoPair a) rows_in_unit ordered
        (subst (All (HasNoPair a)) (sym (sequences_same units some_unit turns))
        (All-permutation (HasNoPair a) (all_sequences units) (map (λ (turn : Turn). rows_of turn.rows) turns)
        sequences_shuffled none))
        k s there

    pub found_is_said : (a : ℕ) (found : Option CoveringRows) → IsFoundAt units a found
        → place_at a (flat_map (starts_of_turn t) ordered) ≡ found_place t units found
    found_is_said a None none = none_round t a 0 ordered all_down (no_pair_in a none)
    found_is_said a (Some f) first =
        let rows = first.is_first.rows in
        let e = length first.is_first.earlier in
        let at : slice_get first.unit.sequences e ≡ Some rows =
        ap (λ (ss : List (List LineRow)). slice_get ss e) first.is_first.parts
        ∙ get_seam first.is_first.earlier rows first.is_first.later in
        let there =
        Contains-permutation (rows_of_units units) ordered (record { unit = first.unit.unit; rows = rows }) shuffled
        (contained units f.unit e first.unit rows first.there at) in
        one_round t a 0 ordered there.0 (record { unit = first.unit.unit; rows = rows }) first.is_first.is_first.index
        f.row f.next all_down
        (get_there ordered there.0 (record { unit = first.unit.unit; rows = rows }) there.1 there.2)
        first.is_first.is_first.is_pair None
        ∙ sym (ap (option_map (λ (u : KeptUnit). row_place t u.unit f.row)) first.there)
      where
        get_there : {X : Type 0} (xs : List X) (k : ℕ) (x : X) → k < length xs → slice_index_or xs k x ≡ x
            → slice_get xs k ≡ Some x
        get_there {X} xs k x within is =
            let some = get_inside xs k within in
            some.1 ∙ ap (λ (y : X). Some y) (sym (get_or_from_slice_get xs k some.0 x some.1) ∙ is)

    -- so the entries say what is found
    pub all_entered : {limit : ℕ} (table : Table) (entries : List Entry) (end : ℕ)
        → Walked t units limit table entries (flat_map (starts_of_turn t) ordered) end
        → Entered t units limit table entries None
    all_entered table entries end h = record {
      are = h.are;
      inside = h.inside;
      below = λ k e there. tt;
      ascending = h.ascending;
      columns = h.columns;
      short = h.short;
      says = λ a before. h.agree a ∙ found_is_said a (found_at a units) (found_stands a units);
    }
