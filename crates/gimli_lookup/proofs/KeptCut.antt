-- The rows that a lookup keeps are those of the sequences of its program.
use Rattle.std.proofs.Common.{◌≡◌, Bool, true, false, ◌||◌, List, [], ◌∷◌, ◌++◌, map, refl, sym, ap, ◌∙◌}
use Rattle.std.specs.Prelude.{None}
use Rattle.std.specs.List.{AllByRecursion, list_any, flat_map}
use Rattle.std.proofs.lemmas.List.{map-append}
use Rattle.gimli_core.specs.Layout.{OrderAndLimit}
use Rattle.gimli_line.specs.declared.run.row.LineRow.{LineRow}
use Rattle.gimli_line.specs.header.Header.{Header}
use Rattle.gimli_line.specs.run.Events.{Event, row, ends_sequence, through_last_end}
use Rattle.gimli_line.specs.run.Sequences.{Sequence, HaveRuns, AreSequences}
use Rattle.gimli_lookup.specs.Cut.{HaveNoEnd, EndOnce}
use Rattle.gimli_lookup.specs.Run.{AreRowsOfSequences}
use Rattle.gimli_lookup.proofs.KeptRows.{joined_same}
use Rattle.gimli_lookup.proofs.OneAnswer.{same_rows}

-- ---- rows through the last end

-- rows through the last end, and then rows without one
record Through (rows : List LineRow) : Type 0 where
  front : List LineRow
  unended : List LineRow
  parts : rows ≡ front ++ unended
  given : map row front ≡ through_last_end (map row rows)
  no_end : HaveNoEnd unended

neither : (b c : Bool) → (b || c) ≡ false → (b ≡ false) × (c ≡ false)
neither true c e = absurd cc
neither false c e = (refl, e)

none_end : (rows : List LineRow) → list_any ends_sequence (map row rows) ≡ false → HaveNoEnd rows
none_end [] none = tt
none_end (r ∷ rows) none =
    let both = neither r.end_sequence (list_any ends_sequence (map row rows)) none in
    (both.0, none_end rows both.1)

through : (rows : List LineRow) → Through rows
through [] = record { front = []; unended = []; parts = refl; given = refl; no_end = tt }
through (r ∷ rows) = at_test (list_any ends_sequence (map row (r ∷ rows))) refl (through rows)
  where
    at_test : (b : Bool) → list_any ends_sequence (map row (r ∷ rows)) ≡ b → Through rows → Through (r ∷ rows)
    at_test true some t = record {
      front = r ∷ t.front;
      unended = t.unended;
      parts = ap (λ (rs : List LineRow). r ∷ rs) t.parts;
      given = rw some (ap (λ (es : List Event). row r ∷ es) t.given);
      no_end = t.no_end;
    }
    at_test false none t = record {
      front = [];
      unended = r ∷ rows;
      parts = refl;
      given = rw none refl;
      no_end = none_end (r ∷ rows) none;
    }

-- ---- the rows of sequences

-- each has one end row, the last
each_once : (c : Header) (rows : List (List LineRow)) (parts : List Sequence) → HaveRuns c parts (map (map row) rows)
    → AllByRecursion EndOnce rows
each_once c [] parts kept = tt
each_once c (x ∷ rows) [] kept = absurd kept
each_once c (x ∷ rows) (s ∷ parts) kept =
    let one = kept.0.is in (
      record {
        front = one.rows;
        last = one.last;
        parts = same_rows x (one.rows ++ one.last ∷ []) (one.given ∙ sym (map-append row one.rows (one.last ∷ [])));
        unended = one.unended;
        ended = one.ended;
      },
      each_once c rows parts kept.1,
    )

map_joined : (rows : List (List LineRow)) → map row (flat_map (λ sequence. sequence) rows) ≡ flat_map (map row) rows
map_joined [] = refl
map_joined (x ∷ rows) =
    map-append row x (flat_map (λ sequence. sequence) rows)
    ∙ ap (λ (es : List Event). map row x ++ es) (map_joined rows)

pub are_cut : (layout : OrderAndLimit) (h c : Header) (parts : List Sequence) (rows : List (List LineRow))
    → AreSequences layout h c parts
    → HaveRuns c parts (map (map row) rows) → AreRowsOfSequences layout h rows
are_cut layout h c parts rows are kept =
    let t = through are.rows in
    let joined : flat_map (λ sequence. sequence) rows
    ≡ t.front = same_rows (flat_map (λ sequence. sequence) rows) t.front
    (map_joined rows ∙ joined_same c rows parts are.runs are.each kept ∙ are.joined ∙ ap through_last_end are.given
    ∙ sym t.given) in
    record {
      rows = are.rows;
      given = record { list = are.list; end = None; decoding = are.decoding; given = sym are.given };
      cut = record {
        unended = t.unended;
        joined = t.parts ∙ ap (λ (rs : List LineRow). rs ++ t.unended) (sym joined);
        each = each_once c rows parts kept;
        no_end = t.no_end;
      };
    }
