-- Runs: rows that are counted and copied.
use Rattle.std.proofs.Common.{◌≡◌, ℕ, ◌+◌, ◌-◌, ◌<◌, ◌≤◌, ◌^◌, Bool, true, false, List, [], ◌∷◌, ◌++◌, length, map}
use Rattle.std.proofs.Common.{drop, set, refl, sym, ap, subst, ◌∙◌}
use Rattle.std.proofs.Common.{append_assoc, arith}
use Rattle.std.specs.Prelude.{Option, ltb}
use Rattle.std.proofs.lemmas.List.{map-append, length-append, length-map, append-nil, drop-append-le, drop_all}
use Rattle.std.proofs.lemmas.List.{length-drop}
use Rattle.std.proofs.lemmas.Bool.{ltb-true, ltb-false}
use Rattle.gimli_core.specs.declared.error.Error.{Error}
use Rattle.gimli_core.specs.Layout.{OrderAndLimit}
use Rattle.gimli_line.specs.declared.run.row.LineRow.{LineRow}
use Rattle.gimli_line.specs.header.File.{File}
use Rattle.gimli_line.specs.header.Header.{Header}
use Rattle.gimli_line.specs.run.Instruction.{Ins}
use Rattle.gimli_line.specs.run.Events.{Event, row, fault, Events}
use Rattle.gimli_line.specs.run.EventsWithFiles.{EventWithFiles, EventsWithFiles}
use Rattle.gimli_line.specs.run.Sequences.{events_of}
use Rattle.gimli_line.specs.run.InstructionGrammar.{decoded_at, decoded_upto}
use Rattle.gimli_line.specs.run.Passing.{files_from}
use Rattle.gimli_line.specs.run.Rows.{files_at_end}
use Rattle.gimli_line.specs.run.Passing.{RunState}
use Rattle.gimli_c.specs.declared.row.GimliRow.{GimliRow}
use Rattle.gimli_line.proofs.Bounds.{unit_bounded}
use Rattle.gimli_line.proofs.HeaderLaws.{one_header}
use Rattle.gimli_line.proofs.RowBounds.{events_bounded}
use Rattle.gimli_line.proofs.RunLists.{given_without_files}
use Rattle.gimli_c.specs.Location.{Location, layout_at, unit_entry_at, HasUnit}
use Rattle.gimli_c.specs.Run.{rows_of, fault_of, Begun, Copied, HasEvents}
use Rattle.gimli_c.specs.Seen.{row_seen}
use Rattle.gimli_c.specs.Written.{slots_with}
use Rattle.gimli_c.proofs.Arrays.{written_none, written_more}

-- ---- rows before a fault

rows_after : (seen : List LineRow) (rest : List Event) → rows_of (map row seen ++ rest) ≡ seen ++ rows_of rest
rows_after [] rest = refl
rows_after (r ∷ seen) rest = ap (λ (xs : List LineRow). r ∷ xs) (rows_after seen rest)

fault_after : (seen : List LineRow) (rest : List Event) → fault_of (map row seen ++ rest) ≡ fault_of rest
fault_after [] rest = refl
fault_after (r ∷ seen) rest = fault_after seen rest

-- ---- a run on its way

-- of these events, so many rows were seen; they stand in the array, and the others are still to come
pub record IsOnTheWay (events left : List Event) (skip count : ℕ) (old now : List GimliRow) : Type 0 where
  pub seen : List LineRow
  pub given : events ≡ map row seen ++ left
  pub count_is : count ≡ length seen
  pub copied : now ≡ slots_with (map row_seen (drop skip seen)) old

pub at_start : (events : List Event) (skip : ℕ) (old : List GimliRow) → IsOnTheWay events events skip 0 old old
at_start events skip old = record {
  seen = [];
  given = refl;
  count_is = refl;
  copied =
      sym (ap (λ (xs : List LineRow). slots_with (map row_seen xs) old) (drop_all skip [] (omega arith))
      ∙ written_none old);
}

pub one_more : (events left rest : List Event) (skip count : ℕ) (old now next : List GimliRow) (r : LineRow)
    → IsOnTheWay events left skip count old now
    → left ≡ row r ∷ rest → (count < skip → next ≡ now) → (skip ≤ count → next ≡ set now (count - skip) (row_seen r))
    → IsOnTheWay events rest skip (count + 1) old next
one_more events left rest skip count old now next r way is skipped put = record {
  seen = way.seen ++ r ∷ [];
  given = way.given ∙ ap (λ (xs : List Event). map row way.seen ++ xs) is
      ∙ sym (ap (λ (xs : List Event). xs ++ rest) (map-append row way.seen (r ∷ []))
      ∙ append_assoc (map row way.seen) (row r ∷ []) rest);
  count_is = omega (arith, way.count_is, length-append way.seen (r ∷ []));
  copied = at_test (ltb count skip) refl;
}
  where
    below : count < skip → next ≡ slots_with (map row_seen (drop skip (way.seen ++ r ∷ []))) old
    below lt = skipped lt ∙ way.copied ∙ ap (λ (xs : List LineRow). slots_with (map row_seen xs) old)
        (drop_all skip way.seen (omega (arith, way.count_is))
        ∙ sym (drop_all skip (way.seen ++ r ∷ []) (omega (arith, way.count_is, length-append way.seen (r ∷ [])))))

    above : skip ≤ count → next ≡ slots_with (map row_seen (drop skip (way.seen ++ r ∷ []))) old
    above le =
        let so_far = map row_seen (drop skip way.seen) in
        let place : count - skip
        ≡ length so_far = omega
        (arith, way.count_is, length-map (drop skip way.seen) row_seen, length-drop skip way.seen) in
        put le ∙ ap (λ (xs : List GimliRow). set xs (count - skip) (row_seen r)) way.copied
        ∙ ap (λ (n : ℕ). set (slots_with so_far old) n (row_seen r)) place
        ∙ sym (written_more so_far (row_seen r) old)
        ∙ ap (λ (xs : List GimliRow). slots_with xs old) (sym (map-append row_seen (drop skip way.seen) (r ∷ [])))
        ∙ ap (λ (xs : List LineRow). slots_with (map row_seen xs) old)
        (sym (drop-append-le skip way.seen (r ∷ []) (omega (arith, way.count_is))))

    at_test : (b : Bool) → ltb count skip ≡ b → next ≡ slots_with (map row_seen (drop skip (way.seen ++ r ∷ []))) old
    at_test true e = below (ltb-true count skip e)
    at_test false e = above (ltb-false count skip e)

pub at_end : (events left : List Event) (skip count : ℕ) (old now : List GimliRow) (end : Option Error)
    → IsOnTheWay events left skip count old now
    → rows_of left ≡ [] → fault_of left ≡ end → Copied events skip old now count end
at_end events left skip count old now end way none is =
    let rows_are : rows_of events ≡ way.seen = ap rows_of way.given ∙ rows_after way.seen left
    ∙ ap (λ (xs : List LineRow). way.seen ++ xs) none
    ∙ append-nil way.seen in
    record {
      count_is = way.count_is ∙ ap length (sym rows_are);
      end_is = sym is ∙ sym (fault_after way.seen left) ∙ ap fault_of (sym way.given);
      copied = way.copied ∙ ap (λ (xs : List LineRow). slots_with (map row_seen (drop skip xs)) old) (sym rows_are);
    }

-- where it stops, the rows that were seen are the first ones
pub stopped : (events left : List Event) (skip count : ℕ) (old now : List GimliRow)
    → IsOnTheWay events left skip count old now → Begun events skip old now
stopped events left skip count old now way = record {
  met = way.seen;
  rest = rows_of left;
  parts = ap rows_of way.given ∙ rows_after way.seen left;
  copied = way.copied;
}

-- those that were seen and the next one are no more than all
pub counted : (events left rest : List Event) (skip count : ℕ) (old now : List GimliRow) (r : LineRow)
    → IsOnTheWay events left skip count old now
    → left ≡ row r ∷ rest → length (rows_of events) < 2 ^ 64 → count + 1 < 2 ^ 64
counted events left rest skip count old now r way is fits =
    omega (
      arith,
      way.count_is,
      ap length (ap rows_of (way.given ∙ ap (λ (xs : List Event). map row way.seen ++ xs) is)
          ∙ rows_after way.seen (row r ∷ rest)),
      length-append way.seen (r ∷ rows_of rest),
      fits,
    )

-- ---- the events of a program

-- events that have files are events
pub without_files : (layout : OrderAndLimit) (a : Bool) (h : Header) (bytes : List ℕ) (events : List EventWithFiles)
    → EventsWithFiles layout a h bytes events
    → Events layout h bytes (events_of events)
without_files layout a h bytes events given = record {
  list = given.list;
  end = given.end;
  decoding = given.decoding;
  given = ap events_of given.given ∙ given_without_files a h given.list given.end;
}

-- rows are among the events
few_of_events : (events : List Event) → length (rows_of events) ≤ length events
few_of_events [] = omega arith
few_of_events (row r ∷ events) = omega (arith, few_of_events events)
few_of_events (fault e ∷ events) = omega arith

pub few_rows : (events : List EventWithFiles) → length (rows_of (events_of events)) ≤ length events
few_rows events = omega (arith, few_of_events (events_of events), length-map events (λ (t : EventWithFiles). t.event))

-- a unit has no more rows than bytes
pub rows_at_most : (p : Location) (h k : Header) (events : List Event) → HasEvents p h events → HasUnit p k
    → length (rows_of events) ≤ k.unit_length
rows_at_most p h k events given unit =
    let bytes = drop p.offset p.section in
    let same = one_header (layout_at p) (unit_entry_at p) bytes h k given.unit.1 unit.1 in
    let bounds = unit_bounded (layout_at p) (unit_entry_at p) bytes h given.unit.1 in
    omega (
      arith,
      few_of_events events,
      events_bounded (layout_at p) h h.program events given.given,
      bounds.1,
      ap (λ (x : Header). x.unit_length) same,
    )

-- what the unit at a location gives, whatever the name of its layout
pub has_events : (p : Location) (layout : OrderAndLimit) (h : Header) (events : List EventWithFiles) → HasUnit p h
    → layout ≡ layout_at p
    → EventsWithFiles layout true h h.program events → HasEvents p h (events_of events)
has_events p layout h events unit is given = record {
  unit = unit;
  given =
      subst (λ (n : OrderAndLimit). Events n h h.program (events_of events)) is
      (without_files layout true h h.program events given);
}

-- where no bytes are left, no more files come
pub files_ended : (a : RunState) → a.unread.bytes ≡ [] → files_at_end a ≡ a.files
unfolding decoded_upto
files_ended a none =
    ap (λ (bytes : List ℕ). files_from a.appends a.files (decoded_at a.unread.layout a.fixed bytes).0) none
