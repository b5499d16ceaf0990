-- Rows that are taken in one after the other are cut at their ends, and each sequence into its parts that stand.
use Rattle.std.proofs.Common.{◌≡◌, ℕ, Bool, true, false, not, if◌then◌else◌, List, [], ◌∷◌, ◌++◌, length, take, refl}
use Rattle.std.proofs.Common.{sym, ap, subst, ◌∙◌, append_assoc}
use Rattle.std.specs.List.{AllByRecursion, filter, flat_map, onto_first, slice_split}
use Rattle.std.proofs.lemmas.List.{append-nil}
use Rattle.std.proofs.Math.Seq.{take-append_seam}
use Rattle.std.proofs.lemmas.List.Elements.{filter-append}
use Rattle.std.proofs.lemmas.Grind.{flat_map-append}
use Rattle.gimli_line.specs.declared.run.row.LineRow.{LineRow}
use Rattle.gimli_lookup.specs.Cut.{HaveNoEnd, EndOnce}
use Rattle.gimli_lookup.specs.UnitRun.{has_rows, stands, standing_parts}
use Rattle.gimli_lookup.specs.inside.SequenceCut.{SequenceCut, no_rows, with_part, with_end, with_place, with_row}
use Rattle.gimli_lookup.specs.inside.SequenceCut.{with_rows}

-- ---- a list that is split as its elements come

module _ {X : Type 0} (p : X → Bool) where
  -- the parts that have ended, and the open one, after one more element
  abbrev pub split_step : List (List X) × List X → X → List (List X) × List X
  split_step s x = if p x then (s.0 ++ s.1 ∷ [], []) else (s.0, s.1 ++ x ∷ [])

  abbrev pub split_from : List (List X) × List X → List X → List (List X) × List X
  split_from s [] = s
  split_from s (x ∷ xs) = split_from (split_step s x) xs

  split_more : (s : List (List X) × List X) (xs : List X) (x : X)
      → split_from s (xs ++ x ∷ []) ≡ split_step (split_from s xs) x
  split_more s [] x = refl
  split_more s (y ∷ xs) x = split_more (split_step s y) xs x

  -- elements in front of the first part
  abbrev onto : List X → List (List X) → List (List X)
  onto front [] = front ∷ []
  onto front (part ∷ parts) = (front ++ part) ∷ parts

  some_part : (xs : List X) → (first : List X) × (others : List (List X)) × (slice_split p xs ≡ first ∷ others)
  some_part [] = ([], [], refl)
  some_part (x ∷ xs) = at_test (p x) refl (some_part xs)
    where
      at_test : (b : Bool) → p x ≡ b
          → ((first : List X) × (others : List (List X)) × (slice_split p xs ≡ first ∷ others))
          → (first : List X) × (others : List (List X)) × (slice_split p (x ∷ xs) ≡ first ∷ others)
      at_test true is rest = ([], slice_split p xs, rw is refl)
      at_test false is rest = (x ∷ rest.0, rest.1, rw (is, rest.2) refl)

  onto_none : (xs : List X) → onto [] (slice_split p xs) ≡ slice_split p xs
  onto_none xs = let s = some_part xs in ap (onto []) s.2 ∙ sym s.2

  onto_more : (part : List X) (x : X) (xs : List X) → p x ≡ false
      → onto (part ++ x ∷ []) (slice_split p xs) ≡ onto part (slice_split p (x ∷ xs))
  onto_more part x xs is =
      let s = some_part xs in
      let here : onto (part ++ x ∷ []) (slice_split p xs) ≡ onto part (onto_first x (slice_split p xs)) =
      rw s.2 (ap (λ (first : List X). first ∷ s.1) (append_assoc part (x ∷ []) s.0)) in
      here ∙ rw is refl

  split_is : (past : List (List X)) (part : List X) (xs : List X)
      → (split_from (past, part) xs).0 ++ (split_from (past, part) xs).1 ∷ [] ≡ past ++ onto part (slice_split p xs)
  split_is past part [] = ap (λ (last : List X). past ++ last ∷ []) (sym (append-nil part))
  split_is past part (x ∷ xs) =
      at_test (p x) refl (split_is (past ++ part ∷ []) [] xs) (split_is past (part ++ x ∷ []) xs)
    where
      at_test : (b : Bool) → p x ≡ b
          → (split_from (past ++ part ∷ [], []) xs).0 ++ (split_from (past ++ part ∷ [], []) xs).1 ∷ []
          ≡ (past ++ part ∷ []) ++ onto [] (slice_split p xs)
          → (split_from (past, part ++ x ∷ []) xs).0 ++ (split_from (past, part ++ x ∷ []) xs).1 ∷ []
          ≡ past ++ onto (part ++ x ∷ []) (slice_split p xs)
          → (split_from (past, part) (x ∷ xs)).0 ++ (split_from (past, part) (x ∷ xs)).1 ∷ []
          ≡ past ++ onto part (slice_split p (x ∷ xs))
      at_test true is ended goes =
          let first : (split_from (past, part) (x ∷ xs)).0 ++ (split_from (past, part) (x ∷ xs)).1 ∷ []
          ≡ (split_from (past ++ part ∷ [], []) xs).0 ++ (split_from (past ++ part ∷ [], []) xs).1 ∷ []
          =
          ap
          (λ (b : Bool). let s = split_from (if b then (past ++ part ∷ [], []) else (past, part ++ x ∷ [])) xs in
          s.0 ++ s.1 ∷ [])
          is in
          let last : past ++ part ∷ slice_split p xs ≡ past ++ onto part (slice_split p (x ∷ xs))
          = rw is (ap (λ (last : List X). past ++ last ∷ slice_split p xs) (sym (append-nil part))) in
          first ∙ ended ∙ append_assoc past (part ∷ []) (onto [] (slice_split p xs))
          ∙ ap (λ (parts : List (List X)). past ++ part ∷ parts) (onto_none xs)
          ∙ last
      at_test false is ended goes =
          let first : (split_from (past, part) (x ∷ xs)).0 ++ (split_from (past, part) (x ∷ xs)).1 ∷ []
          ≡ (split_from (past, part ++ x ∷ []) xs).0 ++ (split_from (past, part ++ x ∷ []) xs).1 ∷ []
          =
          ap
          (λ (b : Bool). let s = split_from (if b then (past ++ part ∷ [], []) else (past, part ++ x ∷ [])) xs in
          s.0 ++ s.1 ∷ [])
          is in
          first ∙ goes ∙ ap (λ (parts : List (List X)). past ++ parts) (onto_more part x xs is)

  -- from the start, the parts and the open one are those of `slice_split`
  pub split_whole : (xs : List X) → (split_from ([], []) xs).0 ++ (split_from ([], []) xs).1 ∷ [] ≡ slice_split p xs
  split_whole xs = split_is [] [] xs ∙ onto_none xs

-- ---- rows that were taken in

-- rows were cut into these sequences and rows that no end follows yet, and these into their parts
pub record IsCut (rows : List LineRow) (a : SequenceCut) : Type 0 where
  pub sequences : List (List LineRow)
  pub unended : List LineRow
  pub joined : rows ≡ flat_map (λ sequence. sequence) sequences ++ unended
  pub each : AllByRecursion EndOnce sequences
  pub no_end : HaveNoEnd unended
  pub split : (split_from (λ (r : LineRow). not (stands a.lowest r)) ([], []) unended).1 ≡ a.rows
  pub parts : a.parts
      ≡ flat_map (standing_parts a.lowest) sequences
      ++ filter has_rows (split_from (λ (r : LineRow). not (stands a.lowest r)) ([], []) unended).0
  pub ended : a.ended ≡ length (flat_map (standing_parts a.lowest) sequences)

all_more : {X : Type 0} (P : X → Type 0) (xs : List X) (x : X) → AllByRecursion P xs → P x
    → AllByRecursion P (xs ++ x ∷ [])
all_more P [] x each one = (one, tt)
all_more P (y ∷ xs) x each one = (each.0, all_more P xs x each.1 one)

joined_more : (done : List LineRow) (all : List (List LineRow)) (unended : List LineRow) (r : LineRow)
    → done ≡ flat_map (λ sequence. sequence) all ++ unended
    → done ++ r ∷ [] ≡ flat_map (λ sequence. sequence) (all ++ (unended ++ r ∷ []) ∷ []) ++ []
joined_more done all unended r is =
    ap (λ rows. rows ++ r ∷ []) is
    ∙ append_assoc (flat_map (λ sequence. sequence) all) unended (r ∷ [])
    ∙ ap (λ rows. flat_map (λ sequence. sequence) all ++ rows) (sym (append-nil (unended ++ r ∷ [])))
    ∙ sym (flat_map-append (λ (sequence : List LineRow). sequence) all ((unended ++ r ∷ []) ∷ []))
    ∙ sym (append-nil (flat_map (λ sequence. sequence) (all ++ (unended ++ r ∷ []) ∷ [])))

-- a row goes to the open part, or ends it
module _ (done : List LineRow) (r : LineRow) (a : SequenceCut) (is : IsCut done a) where
  abbrev before : List (List LineRow) × List LineRow
  before = split_from (λ (q : LineRow). not (stands a.lowest q)) ([], []) is.unended

  abbrev after : List (List LineRow) × List LineRow
  after = split_from (λ (q : LineRow). not (stands a.lowest q)) ([], []) (is.unended ++ r ∷ [])

  abbrev kept : List (List LineRow)
  kept = flat_map (standing_parts a.lowest) is.sequences

  step : (b : Bool) → stands a.lowest r ≡ b
      → after ≡ (if not b then (before.0 ++ before.1 ∷ [], []) else (before.0, before.1 ++ r ∷ []))
  step b stand =
      split_more (λ (q : LineRow). not (stands a.lowest q)) ([], []) is.unended r
      ∙ ap (λ (b : Bool). if not b then (before.0 ++ before.1 ∷ [], []) else (before.0, before.1 ++ r ∷ [])) stand

  -- what is kept of the row
  record IsPlaced (b : SequenceCut) : Type 0 where
    lowest : b.lowest ≡ a.lowest
    rows : after.1 ≡ b.rows
    parts : b.parts ≡ kept ++ filter has_rows after.0
    ended : b.ended ≡ length kept

  goes : (b : Bool) → stands a.lowest r ≡ b
      → with_place r a ≡ (if b then record a { rows = a.rows ++ r ∷ [] } else with_part a)
  goes b stand = ap (λ (b : Bool). if b then record a { rows = a.rows ++ r ∷ [] } else with_part a) stand

  placed_at : (b : Bool) → stands a.lowest r ≡ b → IsPlaced (with_place r a)
  placed_at true stand = subst IsPlaced (sym (goes true stand)) (record {
    lowest = refl;
    rows =
        ap (λ (s : List (List LineRow) × List LineRow). s.1) (step true stand)
        ∙ ap (λ (rows : List LineRow). rows ++ r ∷ []) is.split;
    parts =
        is.parts ∙ ap (λ (s : List (List LineRow) × List LineRow). kept ++ filter has_rows s.0) (sym (step true stand));
    ended = is.ended;
  })
  placed_at false stand = subst IsPlaced (sym (goes false stand)) (record {
    lowest = refl;
    rows = ap (λ (s : List (List LineRow) × List LineRow). s.1) (step false stand);
    parts =
        ap (λ (parts : List (List LineRow)). parts ++ filter has_rows (a.rows ∷ [])) is.parts
        ∙ append_assoc kept (filter has_rows before.0) (filter has_rows (a.rows ∷ []))
        ∙ ap (λ (rows : List LineRow). kept ++ (filter has_rows before.0 ++ filter has_rows (rows ∷ []))) (sym is.split)
        ∙ ap (λ (parts : List (List LineRow)). kept ++ parts) (sym (filter-append has_rows before.0 (before.1 ∷ [])))
        ∙ ap (λ (s : List (List LineRow) × List LineRow). kept ++ filter has_rows s.0) (sym (step false stand));
    ended = is.ended;
  })

  placed : IsPlaced (with_place r a)
  placed = placed_at (stands a.lowest r) refl

  open_still : r.end_sequence ≡ false → IsCut (done ++ r ∷ []) (with_place r a)
  open_still goes_on =
      let b = with_place r a in
      let low : b.lowest ≡ a.lowest = placed.lowest in
      record {
        sequences = is.sequences;
        unended = is.unended ++ r ∷ [];
        joined =
            ap (λ rows. rows ++ r ∷ []) is.joined
            ∙ append_assoc (flat_map (λ sequence. sequence) is.sequences) is.unended (r ∷ []);
        each = is.each;
        no_end = all_more (λ (r : LineRow). r.end_sequence ≡ false) is.unended r is.no_end goes_on;
        split =
            ap (λ (l : ℕ). (split_from (λ (q : LineRow). not (stands l q)) ([], []) (is.unended ++ r ∷ [])).1) low
            ∙ placed.rows;
        parts =
            placed.parts
            ∙ ap
            (λ (l : ℕ). flat_map (standing_parts l) is.sequences
            ++ filter has_rows (split_from (λ (q : LineRow). not (stands l q)) ([], []) (is.unended ++ r ∷ [])).0)
            (sym low);
        ended = placed.ended ∙ ap (λ (l : ℕ). length (flat_map (standing_parts l) is.sequences)) (sym low);
      }

  -- the parts of the sequence that ends with the row
  ended_parts : (b : SequenceCut) → IsPlaced b
      → b.parts ++ filter has_rows (b.rows ∷ [])
      ≡ flat_map (standing_parts a.lowest) (is.sequences ++ (is.unended ++ r ∷ []) ∷ [])
  ended_parts b at =
      ap (λ (parts : List (List LineRow)). parts ++ filter has_rows (b.rows ∷ [])) at.parts
      ∙ append_assoc kept (filter has_rows after.0) (filter has_rows (b.rows ∷ []))
      ∙ ap (λ (rows : List LineRow). kept ++ (filter has_rows after.0 ++ filter has_rows (rows ∷ []))) (sym at.rows)
      ∙ ap (λ (parts : List (List LineRow)). kept ++ parts) (sym (filter-append has_rows after.0 (after.1 ∷ [])))
      ∙ ap (λ (parts : List (List LineRow)). kept ++ filter has_rows parts)
      (split_whole (λ (q : LineRow). not (stands a.lowest q)) (is.unended ++ r ∷ []))
      ∙ ap (λ (parts : List (List LineRow)). kept ++ parts)
      (sym (append-nil (standing_parts a.lowest (is.unended ++ r ∷ []))))
      ∙ sym (flat_map-append (standing_parts a.lowest) is.sequences ((is.unended ++ r ∷ []) ∷ []))

  closed : r.end_sequence ≡ true → IsCut (done ++ r ∷ []) (with_end (with_place r a))
  closed ends =
      let b = with_place r a in
      let all = is.sequences ++ (is.unended ++ r ∷ []) ∷ [] in
      let parts : b.parts ++ filter has_rows (b.rows ∷ []) ≡ flat_map (standing_parts b.lowest) all =
      ended_parts b placed ∙ ap (λ (l : ℕ). flat_map (standing_parts l) all) (sym placed.lowest) in
      record {
        sequences = all;
        unended = [];
        joined = joined_more done is.sequences is.unended r is.joined;
        each =
            all_more EndOnce is.sequences (is.unended ++ r ∷ []) is.each
            (record { front = is.unended; last = r; parts = refl; unended = is.no_end; ended = ends });
        no_end = tt;
        split = refl;
        parts = parts ∙ sym (append-nil (flat_map (standing_parts b.lowest) all));
        ended = ap length parts;
      }

  one_more : (b : Bool) → r.end_sequence ≡ b → IsCut (done ++ r ∷ []) (with_row r a)
  one_more true ends =
      subst (IsCut (done ++ r ∷ []))
      (sym (ap (λ (b : Bool). if b then with_end (with_place r a) else with_place r a) ends)) (closed ends)
  one_more false goes_on =
      subst (IsCut (done ++ r ∷ []))
      (sym (ap (λ (b : Bool). if b then with_end (with_place r a) else with_place r a) goes_on)) (open_still goes_on)

pub are_cut : (done rows : List LineRow) (a : SequenceCut) → IsCut done a → IsCut (done ++ rows) (with_rows rows a)
are_cut done [] a is = rw (append-nil done) is
are_cut done (r ∷ rows) a is =
    rw (← append_assoc done (r ∷ []) rows)
    (are_cut (done ++ r ∷ []) rows (with_row r a) (one_more done r a is r.end_sequence refl))

pub starts_cut : (lowest : ℕ) → IsCut [] (no_rows lowest)
starts_cut lowest = record {
  sequences = [];
  unended = [];
  joined = refl;
  each = tt;
  no_end = tt;
  split = refl;
  parts = refl;
  ended = refl;
}

-- the parts of the sequences that have ended
pub parts_kept : (rows : List LineRow) (a : SequenceCut) (is : IsCut rows a)
    → take a.ended a.parts ≡ flat_map (standing_parts a.lowest) is.sequences
parts_kept rows a is =
    let kept = flat_map (standing_parts a.lowest) is.sequences in
    let past = filter has_rows (split_from (λ (r : LineRow). not (stands a.lowest r)) ([], []) is.unended).0 in
    ap (λ (n : ℕ). take n a.parts) is.ended ∙ ap (λ (parts : List (List LineRow)). take (length kept) parts) is.parts
    ∙ take-append_seam kept past

-- ---- the lowest address stays

place_lowest : (r : LineRow) (a : SequenceCut) (b : Bool)
    → (if b then record a { rows = a.rows ++ r ∷ [] } else with_part a).lowest ≡ a.lowest
place_lowest r a true = refl
place_lowest r a false = refl

lowest_of : (r : LineRow) (a : SequenceCut) (b : Bool)
    → (if b then with_end (with_place r a) else with_place r a).lowest ≡ a.lowest
lowest_of r a true = place_lowest r a (stands a.lowest r)
lowest_of r a false = place_lowest r a (stands a.lowest r)

pub same_lowest : (rows : List LineRow) (a : SequenceCut) → (with_rows rows a).lowest ≡ a.lowest
same_lowest [] a = refl
same_lowest (r ∷ rows) a = same_lowest rows (with_row r a) ∙ lowest_of r a r.end_sequence
