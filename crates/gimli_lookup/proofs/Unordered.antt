-- The sequences whose addresses go down, one after the other, and the first pair of all.
use Rattle.std.proofs.Common.{◌≡◌, ◌⊎◌, ℕ, zero, suc, ◌+◌, ◌-◌, ◌<◌, ◌≤◌, ◌^◌, Bool, true, false, cond, List, [], ◌∷◌}
use Rattle.std.proofs.Common.{length, take, drop, Option, None, Some}
use Rattle.std.proofs.Common.{MatchOption, refl, sym, ap, subst, ◌∙◌, inl, inr, arith}
use Rattle.std.specs.Prelude.{All, Any, sum_by, slice_index_or}
use Rattle.std.proofs.lemmas.Bool.{cond-true, cond-false, cases_lt, cases_Bool, true≢false}
use Rattle.std.proofs.lemmas.List.{length-drop, length-take-le, take-take, get_or-drop, get_or-take, get_or_default}
use Rattle.std.proofs.lemmas.List.{drop-drop, take_all}
use Rattle.std.proofs.lemmas.List.Sums.{sum_by_more, sum_by_more_le_part, sum_by-take-le, sum_by-take-drop, sum_by-le}
use Rattle.std.proofs.lemmas.List.Sums.{sum_by-le-sum_by, sum_by-drop_more}
use Rattle.std.proofs.lemmas.List.Sums.{get_or-le-sum_by}
use Rattle.std.proofs.lemmas.Option.{slice_get-get_or, slice_get_within}
use Rattle.gimli_line.specs.declared.run.row.LineRow.{LineRow}
use Rattle.gimli_lookup.specs.declared.steps.Step.{Step}
use Rattle.gimli_lookup.specs.inside.FirstPair.{HasNoPair, IsFirstPairOf}
use Rattle.gimli_lookup.specs.inside.FirstPair.{IsFirstPairIn}
use Rattle.gimli_lookup.specs.declared.scan.ScanTable.{ScanTable}
use Rattle.gimli_lookup.specs.declared.step_table.Found.{Found}
use Rattle.gimli_lookup.specs.Covering.{covers, covering_index}
use Rattle.gimli_lookup.specs.Scan.{indexes_out_of_order, scan_probes, IsLookedInto, IsScanTableOf}
use Rattle.gimli_lookup.specs.Probes.{never_go_down}
use Rattle.gimli_lookup.specs.Steps.{step_at}
use Rattle.gimli_lookup.specs.inside.Steps.{HaveNoUnorderedPair, IsFirstUnorderedPair}
use Rattle.gimli_lookup.proofs.CoveringPairs.{uncovered_has_none, NoneCovers, all_taken}
use Rattle.gimli_lookup.proofs.StepTables.{covered_steps, none_covers}

-- ---- the indices of the sequences whose addresses go down

-- the next of the indices
pub record IsNextUnordered (first : ℕ) (sequences : List (List LineRow)) (index : ℕ) (indexes : List ℕ) : Type 0 where
  pub at_least : first ≤ index
  pub within : index - first < length sequences
  pub down : (d : List LineRow) → never_go_down (slice_index_or sequences (index - first) d) ≡ false
  pub between : (k : ℕ) (d : List LineRow) → k < index - first → never_go_down (slice_index_or sequences k d) ≡ true
  pub others : indexes ≡ indexes_out_of_order (index + 1) (drop (index + 1 - first) sequences)

pub next_unordered : (first : ℕ) (sequences : List (List LineRow)) (index : ℕ) (indexes : List ℕ)
    → index ∷ indexes ≡ indexes_out_of_order first sequences
    → IsNextUnordered first sequences index indexes
next_unordered first [] index indexes is = cc
next_unordered first (rows ∷ later) index indexes is =
    by_order (never_go_down rows) refl (next_unordered (first + 1) later index indexes) is
  where
    by_order : (b : Bool) → never_go_down rows ≡ b
        → (index ∷ indexes ≡ indexes_out_of_order (first + 1) later → IsNextUnordered (first + 1) later index indexes)
        → index ∷ indexes
        ≡ cond b (indexes_out_of_order (first + 1) later) (first ∷ indexes_out_of_order (first + 1) later)
        → IsNextUnordered first (rows ∷ later) index indexes
    by_order true order later_next e =
        let h = later_next e in
        let after : index - first ≡ suc (index - (first + 1)) = omega (arith, h.at_least) in
        let rest_after : index + 1 - first ≡ suc (index + 1 - (first + 1)) = omega (arith, h.at_least) in
        record {
          at_least = omega (arith, h.at_least);
          within = omega (arith, h.within, after);
          down = λ d. ap (λ (k : ℕ). never_go_down (slice_index_or (rows ∷ later) k d)) after ∙ h.down d;
          between = earlier h after;
          others = h.others ∙ ap (λ (k : ℕ). indexes_out_of_order (index + 1) (drop k (rows ∷ later))) (sym rest_after);
        }
      where
        earlier : IsNextUnordered (first + 1) later index indexes → index - first ≡ suc (index - (first + 1))
            → (k : ℕ) (d : List LineRow) → k < index - first
            → never_go_down (slice_index_or (rows ∷ later) k d) ≡ true
        earlier h after zero d lt = order
        earlier h after (suc k) d lt = h.between k d (omega arith)
    by_order false goes_down later_next e =
        let same : index ≡ first = cc in
        let rest : indexes ≡ indexes_out_of_order (first + 1) later = cc in
        let none : index - first ≡ zero = omega arith in
        let one : index + 1 - first ≡ suc zero = omega arith in
        record {
          at_least = omega arith;
          within = omega arith;
          down = λ d. ap (λ (k : ℕ). never_go_down (slice_index_or (rows ∷ later) k d)) none ∙ goes_down;
          between = λ k d lt. absurd (omega arith);
          others = rest
              ∙ ap (λ (k : ℕ). indexes_out_of_order (k + 1) later) (sym same)
              ∙ ap (λ (k : ℕ). indexes_out_of_order (index + 1) (drop k (rows ∷ later))) (sym one);
        }

pub none_unordered : (first : ℕ) (sequences : List (List LineRow)) → [] ≡ indexes_out_of_order first sequences
    → (k : ℕ) (d : List LineRow) → k < length sequences → never_go_down (slice_index_or sequences k d) ≡ true
none_unordered first [] is k d lt = absurd (omega arith)
none_unordered first (rows ∷ later) is k d lt =
    by_order (never_go_down rows) refl (none_unordered (first + 1) later) is k d lt
  where
    by_order : (b : Bool) → never_go_down rows ≡ b
        → ([] ≡ indexes_out_of_order (first + 1) later → (k : ℕ) (d : List LineRow) → k < length later
        → never_go_down (slice_index_or later k d) ≡ true)
        → [] ≡ cond b (indexes_out_of_order (first + 1) later) (first ∷ indexes_out_of_order (first + 1) later)
        → (k : ℕ) (d : List LineRow) → k < length (rows ∷ later)
        → never_go_down (slice_index_or (rows ∷ later) k d) ≡ true
    by_order true order later_order e zero d lt = order
    by_order true order later_order e (suc k) d lt = later_order e k d (omega arith)
    by_order false goes_down later_order e k d lt = cc

-- ---- what a scan counts

pub scan_down : (rows : List LineRow) → never_go_down rows ≡ false → scan_probes rows ≡ length rows
scan_down rows goes_down = cond-false (never_go_down rows) 0 (length rows) goes_down

pub scan_ordered : (rows : List LineRow) → never_go_down rows ≡ true → scan_probes rows ≡ 0
scan_ordered rows order = cond-true (never_go_down rows) 0 (length rows) order

pub scan_few : (rows : List LineRow) → scan_probes rows ≤ length rows
scan_few rows = at_test (never_go_down rows)
  where
    at_test : (b : Bool) → cond b 0 (length rows) ≤ length rows
    at_test true = omega arith
    at_test false = omega arith

-- rows that go down are some
pub down_some : (rows : List LineRow) → never_go_down rows ≡ false → 0 < length rows
down_some [] goes_down = absurd (true≢false goes_down)
down_some (r ∷ rows) goes_down = omega arith

-- ---- a scan on its way: the sequences before an index are looked at

pub record Scanned (a : ℕ) (sequences : List (List LineRow)) (left : List ℕ) (at_start now : ℕ) : Type 0 where
  pub from : ℕ
  pub within : from ≤ length sequences
  pub indexes : left ≡ indexes_out_of_order from (drop from sequences)
  pub none : (k : ℕ) (d : List LineRow) → k < from → never_go_down (slice_index_or sequences k d) ≡ false
      → HasNoPair a (slice_index_or sequences k d)
  pub grows : at_start ≤ now
  pub at_least : 0 < sum_by scan_probes (take from sequences) → at_start < now
  pub at_most : now ≤ at_start + sum_by scan_probes (take from sequences)

module _ (a : ℕ) (sequences : List (List LineRow)) (index : ℕ) (others : List ℕ) (at_start now : ℕ)
    (scanned : Scanned a sequences (index ∷ others) at_start now) where
  next : IsNextUnordered scanned.from (drop scanned.from sequences) index others
  next = next_unordered scanned.from (drop scanned.from sequences) index others scanned.indexes

  pub next_within : index < length sequences
  next_within = omega (arith, next.within, next.at_least, length-drop scanned.from sequences)

  pub next_down : (d : List LineRow) → never_go_down (slice_index_or sequences index d) ≡ false
  next_down d =
      let there : scanned.from + (index - scanned.from) ≡ index = omega (arith, next.at_least) in
      ap (λ (k : ℕ). never_go_down (slice_index_or sequences k d)) (sym there)
      ∙ ap never_go_down (sym (get_or-drop scanned.from sequences (index - scanned.from) d))
      ∙ next.down d

  -- those before the index have no pair, if their addresses go down
  pub none_before : (k : ℕ) (d : List LineRow) → k < index → never_go_down (slice_index_or sequences k d) ≡ false
      → HasNoPair a (slice_index_or sequences k d)
  none_before k d lt goes_down = elim (cases_lt k scanned.from) [
    | inl before ↦ scanned.none k d before goes_down
    | inr after ↦
        let there : scanned.from + (k - scanned.from) ≡ k = omega arith in
        let order : never_go_down (slice_index_or sequences k d) ≡ true =
        ap (λ (j : ℕ). never_go_down (slice_index_or sequences j d)) (sym there)
        ∙ ap never_go_down (sym (get_or-drop scanned.from sequences (k - scanned.from) d))
        ∙ next.between (k - scanned.from) d (omega arith) in
        absurd (true≢false (sym order ∙ goes_down))
  ]

  so_far : sum_by scan_probes (take scanned.from sequences) ≤ sum_by scan_probes (take index sequences)
  so_far =
      omega (
        arith,
        sum_by-take-le scan_probes (take index sequences) scanned.from,
        ap (sum_by scan_probes) (take-take scanned.from index sequences (next.at_least)),
      )

  -- the count can grow by the rows at the index
  pub next_fits : (rows : List LineRow) → rows ≡ slice_index_or sequences index rows
      → at_start + sum_by length sequences < 2 ^ 64 → now + length rows < 2 ^ 64
  next_fits rows item fits =
      omega (
        arith,
        scanned.at_most,
        so_far,
        sum_by_more_le_part scan_probes length sequences index rows next_within scan_few,
        ap (λ (r : List LineRow). length r) item,
      )

  module _ (rows : List LineRow) (item : rows ≡ slice_index_or sequences index rows) (later : ℕ) (grows : now ≤ later)
      (at_least : 0 < length rows → now < later) (at_most : later ≤ now + length rows) where
    counted : later
        ≤ at_start + (sum_by scan_probes (take index sequences) + scan_probes (slice_index_or sequences index rows))
    counted =
        omega (
          arith,
          scanned.at_most,
          so_far,
          scan_down (slice_index_or sequences index rows) (next_down rows),
          ap (λ (r : List LineRow). length r) item,
        )

    pub more_at_least : at_start < later
    more_at_least = omega (
      arith,
      scanned.grows,
      at_least (down_some rows (ap never_go_down item ∙ next_down rows)),
    )

    pub more_at_most : later ≤ at_start + sum_by scan_probes sequences
    more_at_most =
        omega (
          arith,
          counted,
          sum_by_more scan_probes sequences index rows next_within,
          sum_by-take-le scan_probes sequences (index + 1),
        )

    pub scan_more : HasNoPair a rows → Scanned a sequences others at_start later
    scan_more none = record {
      from = index + 1;
      within = omega (arith, next_within);
      indexes = next.others ∙ ap (indexes_out_of_order (index + 1)) (dropped index next.at_least);
      none = λ k d lt goes_down. elim (cases_lt k index) [
        | inl before ↦ none_before k d before goes_down
        | inr after ↦
            let same : k ≡ index = omega arith in
            let there : rows ≡ slice_index_or sequences k d =
            item ∙ get_or_default sequences index rows d next_within
            ∙ ap (λ (j : ℕ). slice_index_or sequences j d) (sym same) in
            subst (HasNoPair a) there none
      ];
      grows = omega (arith, grows, scanned.grows);
      at_least = λ some. more_at_least;
      at_most = omega (arith, counted, sum_by_more scan_probes sequences index rows next_within);
    }
      where
        dropped : (p : ℕ) → scanned.from ≤ p
            → drop (p + 1 - scanned.from) (drop scanned.from sequences) ≡ drop (p + 1) sequences
        dropped p le =
            let same : scanned.from + (p + 1 - scanned.from) ≡ p + 1 = omega arith in
            drop-drop (p + 1 - scanned.from) scanned.from sequences ∙ ap (λ (k : ℕ). drop k sequences) same

  pub first_unordered : (end : ℕ) (rows : List LineRow) (x y : LineRow) → index < end
      → rows ≡ slice_index_or sequences index rows → IsFirstPairOf a rows x y
      → IsFirstUnorderedPair a end sequences index x y
  first_unordered end rows x y before item first = record {
    rows = rows;
    before_end = before;
    there = slice_get-get_or sequences index rows next_within ∙ ap (λ (r : List LineRow). Some r) (sym item);
    none_earlier =
        all_taken (λ (r : List LineRow). never_go_down r ≡ false → HasNoPair a r) sequences index
        (omega (arith, next_within)) none_before;
    is_first = first;
  }

  -- an end at or before the index
  pub none_before_end : (end : ℕ) → end ≤ index → HaveNoUnorderedPair a (take end sequences)
  none_before_end end le =
      all_taken (λ (r : List LineRow). never_go_down r ≡ false → HasNoPair a r) sequences end
      (omega (arith, next_within))
      (λ k d lt goes_down. none_before k d (omega arith) goes_down)

-- ---- a scan at its end: no index is left

module _ (a : ℕ) (sequences : List (List LineRow)) (at_start now : ℕ)
    (scanned : Scanned a sequences [] at_start now) where
  ordered_after : (k : ℕ) (d : List LineRow) → k < length (drop scanned.from sequences)
      → never_go_down (slice_index_or (drop scanned.from sequences) k d) ≡ true
  ordered_after = none_unordered scanned.from (drop scanned.from sequences) scanned.indexes

  none_at_all : (k : ℕ) (d : List LineRow) → k < length sequences → never_go_down (slice_index_or sequences k d) ≡ false
      → HasNoPair a (slice_index_or sequences k d)
  none_at_all k d lt goes_down = elim (cases_lt k scanned.from) [
    | inl before ↦ scanned.none k d before goes_down
    | inr after ↦
        let there : scanned.from + (k - scanned.from) ≡ k = omega arith in
        let order : never_go_down (slice_index_or sequences k d) ≡ true =
        ap (λ (j : ℕ). never_go_down (slice_index_or sequences j d)) (sym there)
        ∙ ap never_go_down (sym (get_or-drop scanned.from sequences (k - scanned.from) d))
        ∙ ordered_after (k - scanned.from) d (omega (arith, length-drop scanned.from sequences, scanned.within)) in
        absurd (true≢false (sym order ∙ goes_down))
  ]

  pub none_scanned : (end : ℕ) → end ≤ length sequences → HaveNoUnorderedPair a (take end sequences)
  none_scanned end le =
      all_taken (λ (r : List LineRow). never_go_down r ≡ false → HasNoPair a r) sequences end le
      (λ k d lt goes_down. none_at_all k d (omega arith) goes_down)

  all_counted : sum_by scan_probes sequences ≡ sum_by scan_probes (take scanned.from sequences)
  all_counted =
      let rest =
      sum_by-le scan_probes 0 (drop scanned.from sequences) (λ k d lt.
      omega (arith, scan_ordered (slice_index_or (drop scanned.from sequences) k d) (ordered_after k d lt))) in
      omega (arith, sum_by-take-drop scan_probes sequences scanned.from, rest)

  pub end_at_least : 0 < sum_by scan_probes sequences → at_start < now
  end_at_least some = scanned.at_least (omega (arith, all_counted))

-- ---- the first pair of all

uncovered_none : (a : ℕ) (rows : List LineRow) → covers a rows ≡ false → (never_go_down rows ≡ false → HasNoPair a rows)
    → HasNoPair a rows
uncovered_none a rows isnt down_none = elim (cases_Bool (never_go_down rows)) [
  | inl order ↦ uncovered_has_none a rows order isnt
  | inr goes_down ↦ down_none goes_down
]

pub none_before_covering : (a end : ℕ) (sequences : List (List LineRow)) → end ≤ length sequences
    → NoneCovers a end sequences
    → HaveNoUnorderedPair a (take end sequences) → All (HasNoPair a) (take end sequences)
none_before_covering a end sequences within uncovered none =
    all_taken (HasNoPair a) sequences end within
    (λ k d lt. uncovered_none a (slice_index_or sequences k d) (uncovered k d lt)
    (λ goes_down. let inside : k < length (take end sequences) = omega (arith, length-take-le end sequences within) in
    let same = get_or-take end sequences k d lt in
    subst (HasNoPair a) same (none k d inside (ap never_go_down same ∙ goes_down))))

pub first_of_unordered : (a end : ℕ) (sequences : List (List LineRow)) (index : ℕ) (x y : LineRow)
    → NoneCovers a end sequences
    → IsFirstUnorderedPair a end sequences index x y → IsFirstPairIn a sequences index x y
first_of_unordered a end sequences index x y uncovered first =
    let within : index ≤ length sequences = omega (arith, slice_get_within sequences index first.rows first.there) in
    record {
      rows = first.rows;
      there = first.there;
      none_earlier =
          none_before_covering a index sequences within (λ k d lt. uncovered k d (omega (arith, first.before_end)))
          first.none_earlier;
      is_first = first.is_first;
    }

pub first_of_covering : (a : ℕ) (sequences : List (List LineRow)) (index : ℕ) (rows : List LineRow) (x y : LineRow)
    → index < length sequences
    → rows ≡ slice_index_or sequences index rows → NoneCovers a index sequences
    → HaveNoUnorderedPair a (take index sequences) → IsFirstPairOf a rows x y
    → IsFirstPairIn a sequences index x y
first_of_covering a sequences index rows x y within item uncovered none first = record {
  rows = rows;
  there = slice_get-get_or sequences index rows within ∙ ap (λ (r : List LineRow). Some r) (sym item);
  none_earlier = none_before_covering a index sequences (omega arith) uncovered none;
  is_first = first;
}

-- ---- the counts of a search

-- a sequence that covers some address gives steps, and one whose addresses go down gives rows to scan
looked_into : (sequences : List (List LineRow)) (steps : List Step)
    → ((a : ℕ) → step_at a steps ≡ covering_index a 0 sequences)
    → Any IsLookedInto sequences → (0 < length steps) ⊎ (0 < sum_by scan_probes sequences)
looked_into sequences steps value some = by_kind some.4
  where
    by_kind : IsLookedInto some.1 → (0 < length steps) ⊎ (0 < sum_by scan_probes sequences)
    by_kind (inl covering) = inl (covered_steps sequences steps value (some.0, some.1, some.2, some.3, covering))
    by_kind (inr goes_down) =
        let there : scan_probes (slice_index_or sequences some.0 some.1) ≡ length some.1 = ap scan_probes some.3
        ∙ scan_down some.1 goes_down in
        inr (omega
        (arith, get_or-le-sum_by scan_probes sequences some.0 some.1 some.2, there, down_some some.1 goes_down))

-- the rows of an ordered sequence and all that are scanned are rows of different sequences
pub scan_and_rows : (sequences : List (List LineRow)) (index : ℕ) (rows : List LineRow) → index < length sequences
    → rows ≡ slice_index_or sequences index rows
    → never_go_down rows ≡ true → sum_by scan_probes sequences + length rows ≤ sum_by length sequences
scan_and_rows sequences index rows within item order =
    let here = ap (λ (r : List LineRow). length r) item in
    let none = scan_ordered (slice_index_or sequences index rows) (ap never_go_down (sym item) ∙ order) in
    omega (
      arith,
      here,
      none,
      sum_by-take-drop scan_probes sequences index,
      sum_by-drop_more scan_probes sequences index rows within,
      sum_by-take-drop length sequences index,
      sum_by-drop_more length sequences index rows within,
      sum_by-le-sum_by scan_probes length (take index sequences) scan_few,
      sum_by-le-sum_by scan_probes length (drop (index + 1) sequences) scan_few,
    )

-- ---- what a table says of them

module _ (table : ScanTable) (sequences : List (List LineRow)) (is : IsScanTableOf table sequences) (a : ℕ) where
  pub some_probes : Any IsLookedInto sequences
      → (0 < length table.table.steps.items) ⊎ (0 < sum_by scan_probes sequences)
  some_probes some = looked_into sequences table.table.steps.items is.steps.steps.value some

  pub found_uncovered : None ≡ step_at a table.table.steps.items → (found : Option Found)
      → MatchOption found (HaveNoUnorderedPair a (take (length sequences) sequences))
      (λ (f : Found). IsFirstUnorderedPair a (length sequences) sequences f.sequence f.row f.next)
      → MatchOption found (All (HasNoPair a) sequences) (λ (f : Found).
      IsFirstPairIn a sequences f.sequence f.row f.next)
  found_uncovered e None none =
      subst (All (HasNoPair a)) (take_all (length sequences) sequences (omega arith))
      (none_before_covering a (length sequences) sequences (omega arith)
      (none_covers table.table sequences is.steps a e) none)
  found_uncovered e (Some f) first =
      first_of_unordered a (length sequences) sequences f.sequence f.row f.next
      (none_covers table.table sequences is.steps a e) first
