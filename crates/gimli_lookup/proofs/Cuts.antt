-- Rows cut into sequences, as they are taken in one by one.
use Rattle.std.proofs.Common.{◌≡◌, ℕ, true, false, List, [], ◌∷◌, ◌++◌, refl, ap, sym, ◌∙◌, append_assoc}
use Rattle.std.specs.List.{AllByRecursion, flat_map}
use Rattle.std.proofs.lemmas.List.{append-nil}
use Rattle.std.proofs.lemmas.List.Elements.{All-nil}
use Rattle.std.proofs.lemmas.Grind.{flat_map-append}
use Rattle.gimli_line.specs.declared.run.row.LineRow.{LineRow}
use Rattle.gimli_lookup.specs.declared.run.PairSearch.{PairSearch}
use Rattle.gimli_lookup.specs.declared.run.PairSearch.TheVariants.{Start}
use Rattle.gimli_lookup.specs.Cut.{EndOnce, AreCutAtEnds}
use Rattle.gimli_lookup.specs.inside.FirstPair.{HasPassed, Knows}
use Rattle.gimli_lookup.specs.inside.FirstPair.{HasNoPair}

by_recursion_push : {X : Type 0} (P : X → Type 0) (xs : List X) (x : X) → AllByRecursion P xs → P x
    → AllByRecursion P (xs ++ x ∷ [])
by_recursion_push P [] x all one = (one, tt)
by_recursion_push P (y ∷ xs) x all one = (all.0, by_recursion_push P xs x all.1 one)

-- a row more, which ends no sequence or ends one
module _ (rows : List LineRow) (sequences : List (List LineRow)) (cut : AreCutAtEnds rows sequences)
    (row : LineRow) where
  abbrev longer : row.end_sequence ≡ false → AreCutAtEnds (rows ++ row ∷ []) sequences
  longer open_still = record {
    unended = cut.unended ++ row ∷ [];
    joined =
        ap (λ (rs : List LineRow). rs ++ row ∷ []) cut.joined
        ∙ append_assoc (flat_map (λ sequence. sequence) sequences) cut.unended (row ∷ []);
    each = cut.each;
    no_end = by_recursion_push (λ (r : LineRow). r.end_sequence ≡ false) cut.unended row cut.no_end open_still;
  }

  last_joined : rows ++ row ∷ [] ≡ flat_map (λ sequence. sequence) (sequences ++ (cut.unended ++ row ∷ []) ∷ []) ++ []
  last_joined =
      ap (λ (rs : List LineRow). rs ++ row ∷ []) cut.joined
      ∙ append_assoc (flat_map (λ sequence. sequence) sequences) cut.unended (row ∷ [])
      ∙ sym (append-nil (flat_map (λ sequence. sequence) (sequences ++ (cut.unended ++ row ∷ []) ∷ []))
      ∙ flat_map-append (λ sequence. sequence) sequences ((cut.unended ++ row ∷ []) ∷ [])
      ∙ ap (λ (rs : List LineRow). flat_map (λ sequence. sequence) sequences ++ rs)
      (append-nil (cut.unended ++ row ∷ [])))

  abbrev one_more : row.end_sequence ≡ true
      → AreCutAtEnds (rows ++ row ∷ []) (sequences ++ (cut.unended ++ row ∷ []) ∷ [])
  one_more ends = record {
    unended = [];
    joined = last_joined;
    each = by_recursion_push EndOnce sequences (cut.unended ++ row ∷ []) cut.each (record {
      front = cut.unended;
      last = row;
      parts = refl;
      unended = cut.no_end;
      ended = ends;
    });
    no_end = tt;
  }

-- ---- a search, at its start and with a row more

pub passes_none : (a : ℕ) → HasPassed a [] Start
passes_none a = record {
  sequences = [];
  cut = record {
    unended = [];
    joined = refl;
    each = tt;
    no_end = tt;
  };
  known = (All-nil (HasNoPair a), refl);
}

module _ (a : ℕ) (rows : List LineRow) (row : LineRow) (before after : PairSearch)
    (goes : (ended : List (List LineRow)) (unended : List LineRow) → Knows a ended unended before
    → Knows a ended (unended ++ row ∷ []) after)
    (passed : HasPassed a rows before) where
  pub passes_open : row.end_sequence ≡ false → HasPassed a (rows ++ row ∷ []) after
  passes_open open_still = record {
    sequences = passed.sequences;
    cut = longer rows passed.sequences passed.cut row open_still;
    known = goes passed.sequences passed.cut.unended passed.known;
  }

  pub passes_end : (after_end : PairSearch)
      → ((a : ℕ) (ended : List (List LineRow)) (unended : List LineRow) → Knows a ended unended after
      → Knows a (ended ++ unended ∷ []) [] after_end)
      → row.end_sequence ≡ true → HasPassed a (rows ++ row ∷ []) after_end
  passes_end after_end closes ends = record {
    sequences = passed.sequences ++ (passed.cut.unended ++ row ∷ []) ∷ [];
    cut = one_more rows passed.sequences passed.cut row ends;
    known =
        closes a passed.sequences (passed.cut.unended ++ row ∷ [])
        (goes passed.sequences passed.cut.unended passed.known);
  }
