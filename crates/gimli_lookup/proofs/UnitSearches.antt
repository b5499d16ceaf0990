-- A search in a unit knows at each address what its rows say so far.
use Rattle.std.proofs.Common.{◌≡◌, ℕ, ◌<◌, ◌≤◌, Bool, true, false, leb, ltb, cond, if◌then◌else◌, List, [], ◌∷◌, ◌++◌}
use Rattle.std.proofs.Common.{length, take, refl, sym, ap}
use Rattle.std.proofs.Common.{subst, ◌∙◌}
use Rattle.std.proofs.Common.{inl, inr, arith}
use Rattle.std.specs.Prelude.{◌≢◌, Option, Some, None, Result, Ok, Err, IfOk, OnOk, All, IfSome, MatchOption}
use Rattle.std.specs.Prelude.{slice_index_or}
use Rattle.std.specs.Option.{option_or}
use Rattle.std.specs.List.{filter}
use Rattle.std.proofs.lemmas.Bool.{and_parts, ltb-true, leb-true, true≢false, lt-ltb, le-leb, and_from}
use Rattle.std.proofs.lemmas.List.{append-nil, length-append, take-append-le, take_all}
use Rattle.gimli_core.specs.declared.error.Error.{Error}
use Rattle.gimli_core.specs.declared.error.Error.TheVariants.{OutOfMemory}
use Rattle.gimli_line.specs.declared.run.row.LineRow.{LineRow}
use Rattle.gimli_line.specs.run.Rows.{live_made, FaultIs}
use Rattle.gimli_line.specs.run.Passing.{with_reset_row}
use Rattle.gimli_line.specs.run.Rows.{KeepsHeader}
use Rattle.gimli_line.specs.run.Passing.{RunState}
use Rattle.gimli_lookup.specs.declared.section_lookup.CoveringRows.{CoveringRows}
use Rattle.gimli_lookup.specs.inside.FirstPair.{HasNoPair, IsFirstPair}
use Rattle.gimli_lookup.specs.UnitRun.{has_rows, stands}
use Rattle.gimli_lookup.specs.inside.SequenceCut.{SequenceCut, no_rows, with_part, with_end, with_open, with_place}
use Rattle.gimli_lookup.specs.inside.SequenceCut.{with_row}
use Rattle.gimli_lookup.specs.inside.SequenceCut.{AreTaken}
use Rattle.gimli_lookup.specs.inside.UnitSearch.{UnitSearch, no_pairs, is_covered, first_covering, pair_with, AreClear}
use Rattle.gimli_lookup.specs.inside.UnitSearch.{AreKeptBehind, IsFoundOf, IsLastOf}
use Rattle.gimli_lookup.specs.inside.UnitSearch.{Knows, Sees}
use Rattle.gimli_lookup.proofs.PairSearches.{first_stays, no_rows as none_without_rows, one_row, pair_comes_after}
use Rattle.gimli_lookup.proofs.PairSearches.{none_comes_after, first_ends, first_is_kept}
use Rattle.gimli_lookup.proofs.PairSearches.{none_ends}
use Rattle.gimli_lookup.proofs.RowsTaken.{TakesIn, fault_taken}

-- ---- a row more, at one address

module _ (unit a : ℕ) (parts : List (List LineRow)) (rows : List LineRow) (r : LineRow) where
  -- what was found stays
  found_stays : (p : CoveringRows) → Knows unit parts rows a (Some p) → Knows unit parts (rows ++ r ∷ []) a (Some p)
  found_stays p (same, inl f) = (same, inl f)
  found_stays p (same, inr f) = (same, inr (f.0, first_stays a rows (r ∷ []) p.row p.next f.1))

  -- the row isn't the second of a pair
  apart_stays : (last : LineRow) → IsLastOf rows (Some last) → (last.address ≤ a → a < r.address → ⊥)
      → (o : Option CoveringRows) → Knows unit parts rows a o
      → Knows unit parts (rows ++ r ∷ []) a o
  apart_stays last is apart None known = (known.0, none_comes_after a rows is.0 last r known.1 is.1 apart)
  apart_stays last is apart (Some p) known = found_stays p known

  -- the row after a last one
  after_last : (last : LineRow) → IsLastOf rows (Some last) → (b : Bool)
      → is_covered a (record { unit = unit; row = last; next = r }) ≡ b
      → Knows unit parts rows a None
      → Knows unit parts (rows ++ r ∷ []) a (cond b (Some (record { unit = unit; row = last; next = r })) None)
  after_last last is true covers known =
      let both = and_parts (leb last.address a) (ltb a r.address) covers in (
        refl,
        inr (
          known.0,
          pair_comes_after a rows is.0 last r known.1 is.1 (leb-true last.address a both.0)
              (ltb-true a r.address both.1),
        ),
      )
  after_last last is false covers known = (
    known.0,
    none_comes_after a rows is.0 last r known.1 is.1 (λ from before. true≢false
        (sym (and_from (leb last.address a) (ltb a r.address) (le-leb last.address a from) (lt-ltb a r.address before))
        ∙ covers)),
  )

  -- the first row of a part
  one_of_part : rows ≡ [] → Knows unit parts rows a None → Knows unit parts (rows ++ r ∷ []) a None
  one_of_part none known = (known.0, subst (λ (rs : List LineRow). HasNoPair a (rs ++ r ∷ [])) (sym none) (one_row a r))

  row_more : (last : Option LineRow) → IsLastOf rows last → (o : Option CoveringRows) → Knows unit parts rows a o
      → Knows unit parts (rows ++ r ∷ []) a (option_or o (first_covering a (pair_with unit last r)))
  row_more last is (Some p) known = found_stays p known
  row_more None is None known = one_of_part is known
  row_more (Some last) is None known =
      after_last last is (is_covered a (record { unit = unit; row = last; next = r })) refl known

-- ---- a row more

last_of_more : (rows : List LineRow) (r : LineRow) → IsLastOf (rows ++ r ∷ []) (Some r)
last_of_more rows r = (rows, refl)

module _ (unit : ℕ) (addresses : List ℕ) (cut : SequenceCut) (s : UnitSearch) (r : LineRow)
    (sees : Sees unit addresses cut s) where
  -- where pairs were looked for
  pub placed : (new : UnitSearch) (pairs : List CoveringRows) (clear : ℕ)
      → AreKeptBehind addresses s.pairs (pair_with s.unit s.last r) pairs
      → AreClear addresses r.address clear → new ≡ record s { pairs = pairs; last = Some r; clear = clear }
      → Sees unit addresses (with_open r cut) new
  placed new pairs clear kept are is =
      let first : take s.ended pairs ≡ take s.ended s.pairs = ap (take s.ended) kept.parts
      ∙ take-append-le s.ended s.pairs kept.more sees.pairs_within in
      subst (Sees unit addresses (with_open r cut)) (sym is) (record {
        same_unit = sees.same_unit;
        lowest = sees.lowest;
        last = last_of_more cut.rows r;
        clear = are;
        parts_within = sees.parts_within;
        pairs_within =
            omega (
              arith,
              sees.pairs_within,
              ap (λ (ps : List CoveringRows). length ps) kept.parts,
              length-append s.pairs kept.more,
            );
        known = λ k d lt.
            let a = slice_index_or addresses k d in
            subst (Knows unit cut.parts (cut.rows ++ r ∷ []) a)
            (ap (λ (u : ℕ). option_or (first_covering a s.pairs) (first_covering a (pair_with u s.last r)))
            (sym sees.same_unit)
            ∙ sym (kept.first k d lt))
            (row_more unit a cut.parts cut.rows r s.last sees.last (first_covering a s.pairs) (sees.known k d lt));
        ended = λ k d lt.
            let a = slice_index_or addresses k d in
            subst (λ (ps : List CoveringRows). IsFoundOf unit (take cut.ended cut.parts) a (first_covering a ps))
            (sym first) (sees.ended k d lt);
      })

  -- where the row goes on past no address that is asked for
  pub passed : (new : UnitSearch) (last : LineRow) → s.last ≡ Some last → last.address ≤ r.address → r.address ≤ s.clear
      → new ≡ record s { last = Some r } → Sees unit addresses (with_open r cut) new
  passed new last is from to same =
      let clear : AreClear addresses last.address s.clear =
      subst (λ (o : Option LineRow). IfSome o (λ q. AreClear addresses q.address s.clear)) is sees.clear in
      let before : IsLastOf cut.rows (Some last) = subst (IsLastOf cut.rows) is sees.last in
      subst (Sees unit addresses (with_open r cut)) (sym same) (record {
        same_unit = sees.same_unit;
        lowest = sees.lowest;
        last = last_of_more cut.rows r;
        clear = λ k d lt le. clear k d lt (omega (arith, from, le));
        parts_within = sees.parts_within;
        pairs_within = sees.pairs_within;
        known = λ k d lt.
            let a = slice_index_or addresses k d in
            apart_stays unit a cut.parts cut.rows r last before (λ le less.
            absurd (omega (arith, clear k d lt le, less, to)))
            (first_covering a s.pairs) (sees.known k d lt);
        ended = sees.ended;
      })

  pub passed_on : (new : UnitSearch) → MatchOption s.last ⊥ (λ last. (last.address ≤ r.address) × (r.address ≤ s.clear))
      → new ≡ record s { last = Some r }
      → Sees unit addresses (with_open r cut) new
  passed_on new goes is = by_last s.last refl goes
    where
      by_last : (o : Option LineRow) → s.last ≡ o
          → MatchOption o ⊥ (λ last. (last.address ≤ r.address) × (r.address ≤ s.clear))
          → Sees unit addresses (with_open r cut) new
      by_last None same goes = absurd goes
      by_last (Some last) same goes = passed new last same goes.0 goes.1 is

-- ---- a part or a sequence has ended

known_at_part : (unit a : ℕ) (parts : List (List LineRow)) (rows : List LineRow) (o : Option CoveringRows)
    → Knows unit parts rows a o
    → Knows unit (parts ++ filter has_rows (rows ∷ [])) [] a o
known_at_part unit a parts [] None known =
    (subst (All (HasNoPair a)) (sym (append-nil parts)) known.0, none_without_rows a)
known_at_part unit a parts [] (Some p) (same, inl f) =
    (same, inl (subst (λ (ps : List (List LineRow)). IsFirstPair a ps p.row p.next) (sym (append-nil parts)) f))
known_at_part unit a parts [] (Some p) (same, inr f) = absurd (none_without_rows a f.1.index p.row p.next f.1.is_pair)
known_at_part unit a parts (r ∷ rows) None known = (none_ends a parts (r ∷ rows) known.0 known.1, none_without_rows a)
known_at_part unit a parts (r ∷ rows) (Some p) (same, inl f) =
    (same, inl (first_is_kept a parts (r ∷ rows) p.row p.next f))
known_at_part unit a parts (r ∷ rows) (Some p) (same, inr f) =
    (same, inl (first_ends a parts (r ∷ rows) p.row p.next f.0 f.1))

found_at_end : (unit a : ℕ) (parts : List (List LineRow)) (o : Option CoveringRows) → Knows unit parts [] a o
    → IsFoundOf unit parts a o
found_at_end unit a parts None known = known.0
found_at_end unit a parts (Some p) (same, inl f) = (same, f)
found_at_end unit a parts (Some p) (same, inr f) = absurd (none_without_rows a f.1.index p.row p.next f.1.is_pair)

pub part_ended : (unit : ℕ) (addresses : List ℕ) (cut : SequenceCut) (s new : UnitSearch)
    → new ≡ record s { last = None } → Sees unit addresses cut s
    → Sees unit addresses (with_part cut) new
part_ended unit addresses cut s new is sees =
    let more = filter has_rows (cut.rows ∷ []) in
    subst (Sees unit addresses (with_part cut)) (sym is) (record {
      same_unit = sees.same_unit;
      lowest = sees.lowest;
      last = refl;
      clear = tt;
      parts_within = omega (arith, sees.parts_within, length-append cut.parts more);
      pairs_within = sees.pairs_within;
      known = λ k d lt.
          let a =
          slice_index_or addresses k d in known_at_part unit a cut.parts cut.rows (first_covering a s.pairs)
          (sees.known k d lt);
      ended = λ k d lt.
          let a = slice_index_or addresses k d in
          subst (λ (ps : List (List LineRow)). IsFoundOf unit ps a (first_covering a (take s.ended s.pairs)))
          (sym (take-append-le cut.ended cut.parts more sees.parts_within)) (sees.ended k d lt);
    })

pub sequence_ended : (unit : ℕ) (addresses : List ℕ) (cut : SequenceCut) (s new : UnitSearch)
    → new ≡ record s { ended = length s.pairs }
    → Sees unit addresses (with_part cut) s → Sees unit addresses (with_end cut) new
sequence_ended unit addresses cut s new is sees =
    let parts = (with_part cut).parts in
    subst (Sees unit addresses (with_end cut)) (sym is) (record {
      same_unit = sees.same_unit;
      lowest = sees.lowest;
      last = sees.last;
      clear = sees.clear;
      parts_within = omega arith;
      pairs_within = omega arith;
      known = sees.known;
      ended = λ k d lt.
          let a = slice_index_or addresses k d in
          let pairs : take (length s.pairs) s.pairs ≡ s.pairs = take_all (length s.pairs) s.pairs (omega arith) in
          let all : take (length parts) parts ≡ parts = take_all (length parts) parts (omega arith) in
          subst (λ (ps : List (List LineRow)). IsFoundOf unit ps a (first_covering a (take (length s.pairs) s.pairs)))
          (sym all)
          (subst (λ (ps : List CoveringRows). IsFoundOf unit parts a (first_covering a ps)) (sym pairs)
          (found_at_end unit a parts (first_covering a s.pairs) (sees.known k d lt)));
    })

-- ---- before the first row, and each next one

pub starts_searching : (unit lowest : ℕ) (addresses : List ℕ)
    → Sees unit addresses (no_rows lowest) (no_pairs unit lowest)
starts_searching unit lowest addresses = record {
  same_unit = refl;
  lowest = refl;
  last = refl;
  clear = tt;
  parts_within = omega arith;
  pairs_within = omega arith;
  known = λ k d lt. (λ j e less. absurd (omega arith), none_without_rows (slice_index_or addresses k d));
  ended = λ k d lt j e less. absurd (omega arith);
}

pub on_ok : {A E P Q : Type 0} (r : Result A E) → (P → Q) → OnOk r P → OnOk r Q
on_ok (Ok x) f p = f p
on_ok (Err e) f p = tt

-- a row was placed, or ended its part
pub placed_at : (unit : ℕ) (addresses : List ℕ) (cut : SequenceCut) (r : LineRow) (s : UnitSearch) (b : Bool)
    → stands cut.lowest r ≡ b
    → Sees unit addresses (if b then with_open r cut else with_part cut) s → Sees unit addresses (with_place r cut) s
placed_at unit addresses cut r s b is sees =
    subst (λ (c : SequenceCut). Sees unit addresses c s)
    (ap (λ (b : Bool). if b then with_open r cut else with_part cut) (sym is)) sees

pub row_taken : (unit : ℕ) (addresses : List ℕ) (cut : SequenceCut) (r : LineRow) (s : UnitSearch) (b : Bool)
    → r.end_sequence ≡ b
    → Sees unit addresses (if b then with_end (with_place r cut) else with_place r cut) s
    → Sees unit addresses (with_row r cut) s
row_taken unit addresses cut r s b is sees =
    subst (λ (c : SequenceCut). Sees unit addresses c s)
    (ap (λ (b : Bool). if b then with_end (with_place r cut) else with_place r cut) (sym is)) sees

-- a refusal that isn't for memory is the first fault
pub fault_searched : (addresses : List ℕ) (first old new : RunState) (from to : UnitSearch) (e : Error)
    (answer : Result (Option Error) Error)
    → ((unit : ℕ) (cut : SequenceCut) → Sees unit addresses cut from
    → (last : SequenceCut) × TakesIn first old cut last × Sees unit addresses last to)
    → KeepsHeader old new → FaultIs live_made (with_reset_row old) new e
    → IfOk answer (λ found. (found ≡ Some e) × (e ≢ OutOfMemory))
    → IfOk answer (λ found. (unit : ℕ) (cut : SequenceCut) → Sees unit addresses cut from
    → (last : SequenceCut) × AreTaken first new found cut last × Sees unit addresses last to)
fault_searched addresses first old new from to e (Err d) before keeps is as_is = tt
fault_searched addresses first old new from to e (Ok found) before keeps is as_is = λ unit cut sees.
    let b = before unit cut sees in (b.0, fault_taken first old new cut b.0 e (Ok found) b.1 keeps is as_is, b.2)

-- what is found in a unit is what its parts say
pub unit_searched : (unit : ℕ) (addresses : List ℕ) (cut : SequenceCut) (s : UnitSearch) (parts : List (List LineRow))
    (pairs : List CoveringRows)
    → Sees unit addresses cut s → parts ≡ take cut.ended cut.parts → pairs ≡ take s.ended s.pairs
    → All (λ a. IsFoundOf unit parts a (first_covering a pairs)) addresses
unit_searched unit addresses cut s parts pairs sees is same =
    subst (λ (ps : List (List LineRow)). All (λ a. IsFoundOf unit ps a (first_covering a pairs)) addresses) (sym is)
    (subst
    (λ (qs : List CoveringRows). All (λ a. IsFoundOf unit (take cut.ended cut.parts) a (first_covering a qs))
    addresses)
    (sym same) sees.ended)
