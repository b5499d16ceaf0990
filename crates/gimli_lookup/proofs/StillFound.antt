-- What is found at an address is found up to the next address of a step and that of the row after the found one.
use Rattle.std.proofs.Common.{◌≡◌, ◌⊎◌, ℕ, suc, ◌+◌, ◌-◌, ◌<◌, ◌≤◌, Bool, true, false, leb, cond, List, [], ◌∷◌, length}
use Rattle.std.proofs.Common.{take, Option, None, Some, MatchOption}
use Rattle.std.proofs.Common.{refl, sym, ap, subst, ◌∙◌, inl, inr, arith}
use Rattle.std.specs.Prelude.{All, IfSome, slice_index_or, fold, nat_le, if◌then◌else◌}
use Rattle.std.proofs.lemmas.Bool.{cases_lt, cases_Bool, le-leb, lt-leb, true≢false}
use Rattle.std.proofs.lemmas.List.{get_or-take, length-take-le, take_all}
use Rattle.std.proofs.lemmas.Option.{get_or_from_slice_get, slice_get_within}
use Rattle.gimli_line.specs.declared.run.row.LineRow.{LineRow}
use Rattle.gimli_lookup.specs.declared.step_table.StepTable.{StepTable}
use Rattle.gimli_lookup.specs.declared.step_table.Found.{Found}
use Rattle.gimli_lookup.specs.declared.steps.Step.{Step}
use Rattle.gimli_lookup.specs.inside.FirstPair.{HasNoPair, IsFirstPairOf}
use Rattle.gimli_lookup.specs.Covering.{covers, covering_index}
use Rattle.gimli_lookup.specs.Probes.{never_go_down, NoneGoesDown}
use Rattle.gimli_lookup.specs.Ranges.{IsBefore}
use Rattle.gimli_lookup.specs.Steps.{IsStepTableOf}
use Rattle.gimli_lookup.specs.inside.Steps.{IsClear, IsFoundIn}
use Rattle.gimli_lookup.proofs.CoveringPairs.{IsFirstCovering, cases_covering, covering_has_pair, uncovered_has_none}
use Rattle.gimli_lookup.proofs.Pairs.{rises}

-- an address isn't above the first of two, or is above the second
abbrev pub IsApart : ℕ → ℕ → ℕ → Type 0
IsApart a b at = (at ≤ a) ⊎ (b < at)

pub apart_of : (a b at : ℕ) (end : Option ℕ) → IsBefore b end → IsClear a end at → IsApart a b at
apart_of a b at end before (inl low) = inl low
apart_of a b at end before (inr high) = inr (high b before)

-- an address is before an end above it
pub before_above : (a : ℕ) (end : Option ℕ) → IfSome end (λ e. a < e) → IsBefore a end
before_above a None above = tt
before_above a (Some e) above = above

-- ---- the steps say the same

same_test : (a b at : ℕ) → a ≤ b → IsApart a b at → leb at a ≡ leb at b
same_test a b at le (inl low) = le-leb at a low ∙ sym (le-leb at b (omega arith))
same_test a b at le (inr high) = lt-leb at a (omega arith) ∙ sym (lt-leb at b high)

same_fold : (a b : ℕ) (steps : List Step) (current : Option ℕ) → a ≤ b
    → ((k : ℕ) (d : Step) → k < length steps → IsApart a b (slice_index_or steps k d).from)
    → fold (λ (c : Option ℕ) (s : Step). if nat_le s.from a then s.sequence else c) current steps
    ≡ fold (λ (c : Option ℕ) (s : Step). if nat_le s.from b then s.sequence else c) current steps
same_fold a b [] current le apart = refl
same_fold a b (s ∷ steps) current le apart =
    ap (λ (t : Bool).
    fold (λ (c : Option ℕ) (s : Step). if nat_le s.from a then s.sequence else c) (cond t s.sequence current) steps)
    (same_test a b s.from le (apart 0 s (omega arith)))
    ∙ same_fold a b steps (cond (leb s.from b) s.sequence current) le (λ k d lt. apart (suc k) d (omega arith))

-- ---- the pairs of rows

-- the first pair at a is the first one at b, which isn't past it
still_first : (a b : ℕ) (rows : List LineRow) (x y : LineRow) → a ≤ b → b < y.address → never_go_down rows ≡ true
    → IsFirstPairOf a rows x y
    → IsFirstPairOf b rows x y
still_first a b rows x y le before order f = record {
  index = f.index;
  is_pair = record {
    first = f.is_pair.first;
    second = f.is_pair.second;
    from = omega (arith, f.is_pair.from);
    before = before;
  };
  none_before = λ k z w lt p.
      let inside = slice_get_within rows f.index x f.is_pair.first in
      let later = ap (λ (r : LineRow). r.address) (get_or_from_slice_get rows f.index x x f.is_pair.first) in
      let earlier = ap (λ (r : LineRow). r.address) (get_or_from_slice_get rows (k + 1) w x p.second) in
      absurd (omega
      (arith, rises rows (k + 1) f.index x order (omega arith) inside, later, earlier, p.before, f.is_pair.from));
}

-- ---- the sequences

module _ (a b : ℕ) (sequences : List (List LineRow)) (le : a ≤ b)
    (same : covering_index a 0 sequences ≡ covering_index b 0 sequences) (order : NoneGoesDown sequences) where
  -- a sequence that covers b, and none up to it with a pair round a
  not_covered : (n k : ℕ) (d : List LineRow) → k < n → n ≤ length sequences
      → ((j : ℕ) (d : List LineRow) → j < n → HasNoPair a (slice_index_or sequences j d))
      → covers b (slice_index_or sequences k d) ≡ true → ⊥
  not_covered n k d lt within none covering =
      at_index (covering_index b 0 sequences) (cases_covering b 0 sequences)
      (subst
      (λ (o : Option ℕ). MatchOption o (All (λ (rows : List LineRow). covers a rows ≡ false) sequences)
      (IsFirstCovering a 0 sequences))
      same
      (cases_covering a 0 sequences))
    where
      at_index : (o : Option ℕ)
          → MatchOption o (All (λ (rows : List LineRow). covers b rows ≡ false) sequences)
          (IsFirstCovering b 0 sequences)
          → MatchOption o (All (λ (rows : List LineRow). covers a rows ≡ false) sequences)
          (IsFirstCovering a 0 sequences)
          → ⊥
      at_index None of_b of_a = absurd (true≢false (sym covering ∙ of_b k d (omega arith)))
      at_index (Some m) of_b of_a = elim (cases_lt k (m - 0)) [
        | inl before ↦ absurd (true≢false (sym covering ∙ of_b.none_earlier k d before))
        | inr after ↦
            covering_has_pair a (slice_index_or sequences (m - 0) d) (of_a.is d) (none (m - 0) d (omega arith))
      ]

  none_at : (n k : ℕ) (d : List LineRow) → k < n → n ≤ length sequences
      → ((j : ℕ) (d : List LineRow) → j < n → HasNoPair a (slice_index_or sequences j d))
      → HasNoPair b (slice_index_or sequences k d)
  none_at n k d lt within none = elim (cases_Bool (covers b (slice_index_or sequences k d))) [
    | inl is ↦ absurd (not_covered n k d lt within none is)
    | inr isnt ↦ uncovered_has_none b (slice_index_or sequences k d) (order k d (omega arith)) isnt
  ]

  -- none of the first n has a pair
  none_still : (n : ℕ) → n ≤ length sequences → All (HasNoPair a) (take n sequences)
      → All (HasNoPair b) (take n sequences)
  none_still n within none k d lt =
      let before : k < n = omega (arith, lt, length-take-le n sequences within) in
      subst (HasNoPair b) (sym (get_or-take n sequences k d before)) (none_at n k d before within each)
    where
      each : (j : ℕ) (d : List LineRow) → j < n → HasNoPair a (slice_index_or sequences j d)
      each j d before =
          subst (HasNoPair a) (get_or-take n sequences j d before)
          (none j d (omega (arith, length-take-le n sequences within)))

  found_still : (found : Option Found) → IfSome found (λ f. b < f.next.address) → IsFoundIn a sequences found
      → IsFoundIn b sequences found
  found_still None before none =
      subst (All (HasNoPair b)) (take_all (length sequences) sequences (omega arith))
      (none_still (length sequences) (omega arith)
      (subst (All (HasNoPair a)) (sym (take_all (length sequences) sequences (omega arith))) none))
  found_still (Some f) before first =
      let within = slice_get_within sequences f.sequence first.rows first.there in
      record {
        rows = first.rows;
        there = first.there;
        none_earlier = none_still f.sequence (omega (arith, within)) first.none_earlier;
        is_first = still_first a b first.rows f.row f.next le before
            (ap never_go_down (sym (get_or_from_slice_get sequences f.sequence first.rows first.rows first.there))
            ∙ order f.sequence first.rows within)
            first.is_first;
      }

-- what is found at a is found at b, where nothing is between
pub still_found : (table : StepTable) (sequences : List (List LineRow)) (a b : ℕ) (found : Option Found)
    → IsStepTableOf table sequences → a ≤ b
    → ((k : ℕ) (d : Step) → k < length table.steps.items → IsApart a b (slice_index_or table.steps.items k d).from)
    → NoneGoesDown sequences
    → IfSome found (λ f. b < f.next.address) → IsFoundIn a sequences found → IsFoundIn b sequences found
still_found table sequences a b found is le of_steps order before first =
    let same : covering_index a 0 sequences ≡ covering_index b 0 sequences =
    sym (is.steps.value a) ∙ same_fold a b table.steps.items None le of_steps ∙ is.steps.value b in
    found_still a b sequences le same order found before first
