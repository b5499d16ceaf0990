-- Rows of sequences that are added one sequence after the other.
use Rattle.std.proofs.Common.{◌≡◌, ◌<◌, ◌≤◌, ◌+◌, ◌++◌, ℕ, zero, suc, List, [], ◌∷◌, length, map, drop, refl, sym, ap}
use Rattle.std.proofs.Common.{append_assoc, arith, add-one, get_or, drop-cons, subst, ◌∙◌}
use Rattle.std.proofs.lemmas.List.{append-nil, get_or-map, length-map}
use Rattle.std.specs.Prelude.{All, None, flat_map}
use Rattle.gimli_core.specs.Layout.{OrderAndLimit}
use Rattle.gimli_line.specs.declared.run.row.LineRow.{LineRow}
use Rattle.gimli_line.specs.header.Header.{Header}
use Rattle.gimli_line.specs.run.Events.{Event, row, Events, program_events, through_last_end}
use Rattle.gimli_line.specs.run.Sequences.{Sequence, AreSequences, HaveRuns}

-- ---- elements

-- what is left begins with the next element, seen by a function
pub next_seen : {A B : Type 0} (f : A → B) (xs : List A) (i : ℕ) (x : A) → i < length xs → x ≡ get_or xs i x
    → map f (drop i xs) ≡ f x ∷ map f (drop (i + 1) xs)
next_seen {A} {B} f xs i x lt is =
    let next : drop i xs ≡ x ∷ drop (i + 1) xs = grind (arith, add-one, drop-cons) in
    ap (map f) next

-- nothing is left past the end
pub none_left : {A B : Type 0} (f : A → B) (xs : List A) (i : ℕ) → length xs ≤ i → map f (drop i xs) ≡ []
none_left f [] zero le = refl
none_left f [] (suc i) le = refl
none_left f (x ∷ xs) zero le = absurd (omega (arith, le))
none_left f (x ∷ xs) (suc i) le = none_left f xs i (omega (arith, le))

-- what holds of all elements that are seen by a function holds of one
pub at_place : {A B : Type 0} (P : B → Type 0) (f : A → B) (xs : List A) (i : ℕ) (x : A) → All P (map f xs)
    → i < length xs → x ≡ get_or xs i x → P (f x)
at_place P f xs i x all lt is =
    subst P (get_or-map f xs i x (f x) lt ∙ ap f (sym is)) (all i (f x) (omega (arith, lt, length-map xs f)))

-- ---- rows

module _ (c : Header) where
  -- these rows, and then runs of the sequences that are left, are these runs
  pub record AreAdded (left : List Sequence) (rows : List LineRow) (runs : List (List Event)) : Type 0 where
    pub rest : List (List Event)
    pub each : HaveRuns c left rest
    pub joined : map row rows ++ flat_map (λ r. r) rest ≡ flat_map (λ r. r) runs

  -- at the start
  pub none_added : (parts : List Sequence) (runs : List (List Event)) → HaveRuns c parts runs → AreAdded parts [] runs
  none_added parts runs each = record { rest = runs; each = each; joined = refl }

  -- after one more
  pub one_added : (s : Sequence) (left : List Sequence) (rows more : List LineRow) (events : List Event)
      → ((run : List Event) → Events s.unread.layout c s.unread.bytes run → events ≡ run)
      → map row more ≡ map row rows ++ events → (runs : List (List Event)) → AreAdded (s ∷ left) rows runs
      → AreAdded left more runs
  one_added s left rows more events resumed is runs a = by a.rest a.each a.joined
    where
      by : (rest : List (List Event)) → HaveRuns c (s ∷ left) rest
          → map row rows ++ flat_map (λ r. r) rest ≡ flat_map (λ r. r) runs → AreAdded left more runs
      by [] each joined = absurd each
      by (run ∷ rest) each joined = record {
        rest = rest;
        each = each.1;
        joined =
            ap (λ (l : List Event). l ++ flat_map (λ r. r) rest)
            (is ∙ ap (λ (l : List Event). map row rows ++ l) (resumed run each.0.given))
            ∙ append_assoc (map row rows) run (flat_map (λ r. r) rest) ∙ joined;
      }

  -- at the end
  pub all_added : (rows : List LineRow) (runs : List (List Event)) → AreAdded [] rows runs
      → map row rows ≡ flat_map (λ r. r) runs
  all_added rows runs a = by a.rest a.each a.joined
    where
      by : (rest : List (List Event)) → HaveRuns c [] rest
          → map row rows ++ flat_map (λ r. r) rest ≡ flat_map (λ r. r) runs → map row rows ≡ flat_map (λ r. r) runs
      by [] each joined = sym (append-nil (map row rows)) ∙ joined
      by (run ∷ rest) each joined = absurd each

-- where these are the sequences of a program, their runs are its single run through the last end row
pub whole_run : (layout : OrderAndLimit) (h c : Header) (parts : List Sequence) → AreSequences layout h c parts
    → (rows : List LineRow)
    → ((runs : List (List Event)) → HaveRuns c parts runs → map row rows ≡ flat_map (λ r. r) runs)
    → (run : List Event) × Events layout h h.program run × (map row rows ≡ through_last_end run)
whole_run layout h c parts are rows resumed = (
  program_events h.parameters are.list None,
  record { list = are.list; end = None; decoding = are.decoding; given = refl },
  resumed are.runs are.each ∙ are.joined,
)
