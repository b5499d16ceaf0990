-- The rows that a lookup over a section keeps of a sequence never go down. The address register never does between two
-- ends, under a tombstone either, and a part is cut from the rows between two ends.
use Rattle.std.proofs.Common.{◌≡◌, ℕ, ◌≤◌, Bool, true, false, not, if◌then◌else◌, List, [], ◌∷◌, ◌++◌, map, refl, sym}
use Rattle.std.proofs.Common.{ap}
use Rattle.std.proofs.Common.{length, ltb, subst, ◌∙◌, inl, inr, arith}
use Rattle.std.specs.Prelude.{All, Option, Some, None}
use Rattle.std.specs.List.{AllByRecursion, flat_map, onto_first, slice_split}
use Rattle.std.proofs.lemmas.Bool.{and_parts, not-true, ltb-false, le-ltb}
use Rattle.std.proofs.lemmas.List.{append-nil, append_assoc, map-append}
use Rattle.std.proofs.lemmas.List.Elements.{All-head, All-tail, All-nil, All-cons, All-append}
use Rattle.std.proofs.lemmas.List.Elements.{All-filter}
use Rattle.gimli_core.specs.Layout.{OrderAndLimit}
use Rattle.gimli_core.specs.declared.error.Error.{Error}
use Rattle.gimli_core.specs.declared.error.Error.TheVariants.{AddressOverflow}
use Rattle.gimli_line.specs.declared.run.row.LineRow.{LineRow}
use Rattle.gimli_line.specs.header.File.{File}
use Rattle.gimli_line.specs.header.Header.{Header, UnitEntry}
use Rattle.gimli_line.specs.header.Parameters.{Parameters}
use Rattle.gimli_line.specs.run.Instruction.{Ins, is_end, makes_row}
use Rattle.gimli_line.specs.declared.run.instruction.LineInstruction.TheVariants.{EndSequence}
use Rattle.gimli_line.specs.run.Events.{Event, row, fault, row_at, made_after}
use Rattle.gimli_line.specs.run.EventsWithFiles.{EventWithFiles, with_files, files_at}
use Rattle.gimli_line.specs.run.OperationPointer.{pointer_at, overflows, is_under_tombstone}
use Rattle.gimli_line.specs.run.Sequences.{events_of}
use Rattle.gimli_line.specs.run.Unread.{Unread}
use Rattle.gimli_line.proofs.NonDecreasingLaws.{rises}
use Rattle.gimli_lookup.specs.Cut.{HaveNoEnd, EndOnce}
use Rattle.gimli_lookup.specs.Probes.{never_go_below, never_go_down, NoneGoesDown}
use Rattle.gimli_lookup.specs.Section.{ListedUnit, KeptUnit, all_sequences, with_sequences, AreAdjacent}
use Rattle.gimli_lookup.specs.SectionUnits.{IsUnitOf}
use Rattle.gimli_lookup.specs.UnitRun.{AreBeforeFault, IsKept, has_rows, stands, standing_parts}
use Rattle.gimli_lookup.proofs.Sections.{have_all}

-- ---- the rows of a program

-- no row has an address below the one before it, unless that one ended a sequence
abbrev pub GoUp : ℕ → List LineRow → Type 0
GoUp low [] = Unit {0}
GoUp low (r ∷ rows) = (low ≤ r.address) × GoUp (if r.end_sequence then 0 else r.address) rows

from_lower : (low high : ℕ) (rows : List LineRow) → low ≤ high → GoUp high rows → GoUp low rows
from_lower low high [] le up = tt
from_lower low high (r ∷ rows) le up = (omega (arith, le, up.0), up.1)

no_end : (i : Ins) → makes_row i ≡ false → is_end i ≡ false
no_end EndSequence quiet = absurd cc
no_end i quiet = refl

module _ (parameters : Parameters) (files : List Ins → List File) where
  -- the rows that these instructions make, up to whatever comes behind them
  pub made_up : (past list : List Ins) (end : Option Error) (rows : List LineRow) (rest : List Event)
      → events_of (made_after parameters files past list end) ≡ map row rows ++ rest
      → GoUp (pointer_at parameters past).address rows
  made_up past list end [] rest is = tt
  made_up past [] None (r ∷ rows) rest is = cc
  made_up past [] (Some e) (r ∷ rows) rest is = cc
  made_up past (i ∷ list) end (r ∷ rows) rest is =
      at_point (overflows parameters past i) (makes_row i) refl (made_up (i ∷ past) list end) is
    where
      later : List EventWithFiles
      later = made_after parameters files (i ∷ past) list end

      at_row : (b : Bool) → is_end i ≡ b → row_at parameters past i ≡ r
          → GoUp (pointer_at parameters (i ∷ past)).address rows
          → GoUp (pointer_at parameters past).address (r ∷ rows)
      at_row true is same up =
          let address : (pointer_at parameters past).address ≡ r.address =
          ap (λ (b : Bool). (if b then pointer_at parameters past else pointer_at parameters (i ∷ past)).address)
          (sym is)
          ∙ ap (λ (s : LineRow). s.address) same in
          let ends : r.end_sequence ≡ true = sym (ap (λ (s : LineRow). s.end_sequence) same) ∙ is in (
            omega (arith, address),
            subst (λ (b : Bool). GoUp (if b then 0 else r.address) rows) (sym ends)
                (from_lower 0 (pointer_at parameters (i ∷ past)).address rows (omega arith) up),
          )
      at_row false is same up =
          let address : (pointer_at parameters (i ∷ past)).address ≡ r.address =
          ap (λ (b : Bool). (if b then pointer_at parameters past else pointer_at parameters (i ∷ past)).address)
          (sym is)
          ∙ ap (λ (s : LineRow). s.address) same in
          let goes_on : r.end_sequence ≡ false = sym (ap (λ (s : LineRow). s.end_sequence) same) ∙ is in (
            omega (
              arith,
              address,
              rises parameters (is_under_tombstone parameters past) i (pointer_at parameters past) is,
            ),
            subst (λ (b : Bool). GoUp (if b then 0 else r.address) rows) (sym goes_on)
                (subst (λ (n : ℕ). GoUp n rows) address up),
          )

      at_point : (o m : Bool) → makes_row i ≡ m
          → ((rs : List LineRow) (es : List Event) → events_of later ≡ map row rs ++ es
          → GoUp (pointer_at parameters (i ∷ past)).address rs)
          → events_of
          (with_files (files past)
          (if o then fault AddressOverflow ∷ [] else (if m then row (row_at parameters past i) ∷ [] else []))
          ++ later)
          ≡ map row (r ∷ rows) ++ rest
          → GoUp (pointer_at parameters past).address (r ∷ rows)
      at_point true m made up is = cc
      at_point false true made up is =
          let same : row_at parameters past i ≡ r = cc in
          let behind : events_of later ≡ map row rows ++ rest = cc in
          at_row (is_end i) refl same (up rows rest behind)
      at_point false false made up is =
          from_lower (pointer_at parameters past).address (pointer_at parameters (i ∷ past)).address (r ∷ rows)
          (rises parameters (is_under_tombstone parameters past) i (pointer_at parameters past) (no_end i made))
          (up (r ∷ rows) rest is)

-- those that a program makes before its first fault
rows_up : (layout : OrderAndLimit) (h : Header) (rows : List LineRow) (e : Option Error) (files : List File)
    → AreBeforeFault layout h rows e files → GoUp 0 rows
rows_up layout h rows None files before =
    made_up h.parameters (files_at true h.files) [] before.made.list before.made.end rows []
    (sym (ap events_of before.made.made) ∙ before.rows_are ∙ sym (append-nil (map row rows)))
rows_up layout h rows (Some e) files before =
    let event : EventWithFiles = record { event = fault e; files = files } in
    made_up h.parameters (files_at true h.files) [] before.made.list before.made.end rows
    (events_of (event ∷ before.rest))
    (sym (ap events_of before.made.made)
    ∙ map-append (λ (t : EventWithFiles). t.event) before.front (event ∷ before.rest)
    ∙ ap (λ (es : List Event). es ++ events_of (event ∷ before.rest)) before.rows_are)

-- ---- their sequences

-- the rows of one sequence, and those behind it
record EndsAscent (low : ℕ) (rows rest : List LineRow) : Type 0 where
  one : never_go_below low rows ≡ true
  others : GoUp 0 rest

not_below : (low : ℕ) (r : LineRow) (rows : List LineRow) → low ≤ r.address → never_go_below r.address rows ≡ true
    → never_go_below low (r ∷ rows) ≡ true
not_below low r rows le order = rw (le-ltb r.address low le) order

sequence_up : (low : ℕ) (front : List LineRow) (last : LineRow) (rest : List LineRow) → HaveNoEnd front
    → last.end_sequence ≡ true → GoUp low ((front ++ last ∷ []) ++ rest) → EndsAscent low (front ++ last ∷ []) rest
sequence_up low [] last rest unended ended up = record {
  one = not_below low last [] up.0 refl;
  others = subst (λ (b : Bool). GoUp (if b then 0 else last.address) rest) ended up.1;
}
sequence_up low (r ∷ front) last rest unended ended up =
    let behind =
    subst (λ (b : Bool). GoUp (if b then 0 else r.address) ((front ++ last ∷ []) ++ rest)) unended.0 up.1 in
    let later = sequence_up r.address front last rest unended.1 ended behind in
    record { one = not_below low r (front ++ last ∷ []) up.0 later.one; others = later.others }

sequences_up : (sequences : List (List LineRow)) (rest : List LineRow) → AllByRecursion EndOnce sequences
    → GoUp 0 (flat_map (λ sequence. sequence) sequences ++ rest) → NoneGoesDown sequences
sequences_up [] rest each up = All-nil (λ (rows : List LineRow). never_go_down rows ≡ true)
sequences_up (rows ∷ later) rest each up =
    let one = each.0 in
    let others = flat_map (λ (sequence : List LineRow). sequence) later in
    let all : GoUp 0 ((one.front ++ one.last ∷ []) ++ (others ++ rest)) =
    subst (λ (xs : List LineRow). GoUp 0 (xs ++ (others ++ rest))) one.parts
    (subst (GoUp 0) (append_assoc rows others rest) up) in
    let first = sequence_up 0 one.front one.last (others ++ rest) one.unended one.ended all in
    All-cons (λ (xs : List LineRow). never_go_down xs ≡ true) rows later
    (ap never_go_down one.parts ∙ first.one) (sequences_up later rest each.1 first.others)

-- ---- the parts of a sequence

lower : (low high : ℕ) (rows : List LineRow) → low ≤ high → never_go_below high rows ≡ true
    → never_go_below low rows ≡ true
lower low high [] le order = refl
lower low high (r ∷ rows) le order =
    let both = and_parts (not (ltb r.address high)) (never_go_below r.address rows) order in
    let above = ltb-false r.address high (not-true (ltb r.address high) both.0) in
    not_below low r rows (omega (arith, le, above)) both.1

-- the first part doesn't begin below an address, and no part goes down
abbrev PartsUp : ℕ → List (List LineRow) → Type 0
PartsUp low [] = Unit {0}
PartsUp low (part ∷ parts) = (never_go_below low part ≡ true) × NoneGoesDown parts

all_parts : (low : ℕ) (parts : List (List LineRow)) → PartsUp low parts → NoneGoesDown parts
all_parts low [] up = All-nil (λ (rows : List LineRow). never_go_down rows ≡ true)
all_parts low (part ∷ parts) up =
    All-cons (λ (rows : List LineRow). never_go_down rows ≡ true) part parts (lower 0 low part (omega arith) up.0) up.1

onto_up : (low : ℕ) (r : LineRow) (parts : List (List LineRow)) → low ≤ r.address → PartsUp r.address parts
    → PartsUp low (onto_first r parts)
onto_up low r [] le up = (not_below low r [] le refl, All-nil (λ (rows : List LineRow). never_go_down rows ≡ true))
onto_up low r (part ∷ parts) le up = (not_below low r part le up.0, up.1)

split_up : (p : LineRow → Bool) (low : ℕ) (rows : List LineRow) → never_go_below low rows ≡ true
    → PartsUp low (slice_split p rows)
split_up p low [] order = (refl, All-nil (λ (rows : List LineRow). never_go_down rows ≡ true))
split_up p low (r ∷ rows) order =
    let both = and_parts (not (ltb r.address low)) (never_go_below r.address rows) order in
    let above = ltb-false r.address low (not-true (ltb r.address low) both.0) in
    at_test (p r) above (split_up p r.address rows both.1)
  where
    at_test : (b : Bool) → low ≤ r.address → PartsUp r.address (slice_split p rows)
        → PartsUp low (if b then [] ∷ slice_split p rows else onto_first r (slice_split p rows))
    at_test true le up = (refl, all_parts r.address (slice_split p rows) up)
    at_test false le up = onto_up low r (slice_split p rows) le up

standing_up : (lowest : ℕ) (sequences : List (List LineRow)) → NoneGoesDown sequences
    → NoneGoesDown (flat_map (standing_parts lowest) sequences)
standing_up lowest [] order = All-nil (λ (rows : List LineRow). never_go_down rows ≡ true)
standing_up lowest (rows ∷ later) order =
    let P = λ (xs : List LineRow). never_go_down xs ≡ true in
    let split = λ (r : LineRow). not (stands lowest r) in
    All-append P (standing_parts lowest rows) (flat_map (standing_parts lowest) later)
    (All-filter has_rows P (slice_split split rows)
    (all_parts 0 (slice_split split rows) (split_up split 0 rows (All-head P rows later order))))
    (standing_up lowest later (All-tail P rows later order))

-- ---- what is kept

kept_up : (layout : OrderAndLimit) (lowest : ℕ) (h kept : Header) (e : Option Error) (parts : List (List LineRow))
    → IsKept layout lowest h kept e parts → NoneGoesDown parts
kept_up layout lowest h kept e parts is =
    let rows = rows_up layout h is.rows e kept.files is.before in
    subst NoneGoesDown (sym is.parts_are)
    (standing_up lowest is.sequences
    (sequences_up is.sequences is.cut.unended is.cut.each (subst (GoUp 0) is.cut.joined rows)))

unit_up : (section : Unread) (entry : UnitEntry) (lowest : ℕ) (u : KeptUnit) → IsUnitOf section entry lowest u
    → NoneGoesDown u.sequences
unit_up section entry lowest u (inl refused) =
    subst NoneGoesDown (sym refused.no_sequences) (All-nil (λ (rows : List LineRow). never_go_down rows ≡ true))
unit_up section entry lowest u (inr run) =
    kept_up section.layout lowest run.read run.header.meaning u.unit.fault u.sequences run.kept

pub units_up : (section : Unread) (entry : UnitEntry) (lowest : ℕ) (units : List KeptUnit)
    → All (IsUnitOf section entry lowest) units → NoneGoesDown (all_sequences units)
units_up section entry lowest [] each = All-nil (λ (rows : List LineRow). never_go_down rows ≡ true)
units_up section entry lowest (u ∷ units) each =
    All-append (λ (rows : List LineRow). never_go_down rows ≡ true) u.sequences (all_sequences units)
    (unit_up section entry lowest u (All-head (IsUnitOf section entry lowest) u units each))
    (units_up section entry lowest units (All-tail (IsUnitOf section entry lowest) u units each))

-- the sequences of all units of a section
pub sequences_ascend : (section : Unread) (entry : UnitEntry) (lowest : ℕ) (sequences : List (List LineRow))
    (units : List ListedUnit) → AreAdjacent 0 units (length sequences)
    → All (IsUnitOf section entry lowest) (map (with_sequences sequences) units) → NoneGoesDown sequences
sequences_ascend section entry lowest sequences units are each =
    subst NoneGoesDown (have_all sequences units are)
    (units_up section entry lowest (map (with_sequences sequences) units) each)
