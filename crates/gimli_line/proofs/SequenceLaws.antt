-- Splitting a program into sequences gives its rows through the last end.
use Rattle.std.specs.Prelude.{◌<◌, ◌≡◌, ◌-◌, if◌then◌else◌, ◌||◌, ◌∷◌, ◌++◌, ◌≢◌}
use Rattle.gimli_line.proofs
use proofs.Common
use Common.{ℕ, Bool, true, false, List, [], length, take, map, Option, Some, None, refl, sym, ap, ◌∙◌, subst}
use Common.{append_assoc, arith, inl, inr, AllByRecursion, list_any, flat_map, length-append, append-nil, map-append}
use Common.{OrderAndLimit, Each, Error, OutOfMemory, LineRow, HeaderSource, KeepsSource, Header, without_files, Ins}
use Common.{File, decoded_at, Event, row, given_of, events_of, program_events, defined_files, past_at_end}
use Common.{ends_sequence, through_last_end, initial, made_from, run, Unread, RunState, PassesOver, with_reset_row}
use Common.{registers_from, files_from, live_events, start_of_run, whole_run, FaultComes, FaultIs, KeepsRun}
use Rattle.std.specs.Option.{unwrap_or}
use Rattle.gimli_line.specs
use specs.run.InstructionGrammar.{SpellsInstruction}
use specs.inside.run.Rows.{front_of}
use specs.run.Sequences.{Sequence, IsSequence, HasRun, HaveRuns, AreSequences, HasFirstFault}
use specs.inside.run.SequenceSplit.{SequenceSplit, with_row, RowSplit, with_kept_row}
use proofs.Backwards.{starts, files_from_start}
use proofs.RunLists.{given_joined, given_from_start}
use proofs.InstructionLaws.{front_at, is_decoded, takes_bytes}
use proofs.Sources.{fits_less, keeps_both}
use proofs.Runs.{decodes_on, bare_decoding, passes_both}

-- ---- through the last end

abbrev AreOpen : List LineRow → Type 0
AreOpen rows = AllByRecursion (λ r. r.end_sequence ≡ false) rows

none_ends : (rows : List LineRow) → AreOpen rows → list_any ends_sequence (map row rows) ≡ false
none_ends [] o = refl
none_ends (r ∷ rows) o = rw o.0 (none_ends rows o.1)

through_none : (events : List Event) → list_any ends_sequence events ≡ false → through_last_end events ≡ []
through_none [] none = refl
through_none _ none = rw none refl

one_ends : (rows : List LineRow) (last : LineRow) (later : List Event) → last.end_sequence ≡ true
    → list_any ends_sequence ((map row rows ++ row last ∷ []) ++ later) ≡ true
one_ends [] last later closed = rw closed refl
one_ends (r ∷ rows) last later closed = at_test r.end_sequence (one_ends rows last later closed)
  where
    at_test : (b : Bool) → {c : Bool} → c ≡ true → (b || c) ≡ true
    at_test true e = refl
    at_test false e = e

through_one : (rows : List LineRow) (last : LineRow) (later : List Event) → last.end_sequence ≡ true
    → through_last_end ((map row rows ++ row last ∷ []) ++ later)
    ≡ (map row rows ++ row last ∷ []) ++ through_last_end later
through_one [] last later closed = grind (arith)
through_one (r ∷ rows) last later closed = rw (one_ends (r ∷ rows) last later closed)
    (ap (λ xs. row r ∷ xs) (through_one rows last later closed))

-- ---- sequences that are closed

abbrev joined_runs : List (List Event) → List Event
joined_runs runs = flat_map (λ run. run) runs

runs_push : (h : Header) (parts : List Sequence) (runs : List (List Event)) (s : Sequence) (run : List Event)
    → HaveRuns h parts runs → HasRun h s run
    → HaveRuns h (parts ++ s ∷ []) (runs ++ run ∷ [])
runs_push h [] [] s run all one = (one, tt)
runs_push h [] _ s run all one = absurd all
runs_push h _ [] s run all one = absurd all
runs_push h (p ∷ parts) (r ∷ runs) s run all one = (all.0, runs_push h parts runs s run all.1 one)

joined_push : (runs : List (List Event)) (run : List Event) → joined_runs (runs ++ run ∷ []) ≡ joined_runs runs ++ run
joined_push [] run = append-nil _
joined_push (r ∷ runs) run = ap (λ xs. r ++ xs) (joined_push runs run) ∙ sym (append_assoc r _ run)

through_events : (events : List Event) (start end : ℕ) → IsSequence events start end → (later : List Event)
    → through_last_end (events ++ later) ≡ events ++ through_last_end later
through_events events start end is later = grind (arith, through_one)

through_runs : (h : Header) (parts : List Sequence) (runs : List (List Event)) → HaveRuns h parts runs
    → (later : List Event)
    → through_last_end (joined_runs runs ++ later) ≡ joined_runs runs ++ through_last_end later
through_runs h [] [] all later = refl
through_runs h [] _ all later = absurd all
through_runs h _ [] all later = absurd all
through_runs h (s ∷ parts) (run ∷ runs) all later = ap through_last_end (append_assoc run _ later)
    ∙ through_events run s.start s.end all.0.is _ ∙ ap (λ xs. run ++ xs) (through_runs h parts runs all.1 later)
    ∙ sym (append_assoc run _ _)

-- the files of a header mean nothing to the run of a sequence
run_over : (c : Header) (s : Sequence) (run : List Event) → HasRun (without_files c) s run → HasRun c s run
run_over c s run has = record {
  given = record {
    list = has.given.list;
    end = has.given.end;
    decoding = bare_decoding _ c _ _ _ has.given.decoding;
    given = has.given.given;
  };
  is = has.is;
}

runs_over : (c : Header) (parts : List Sequence) (runs : List (List Event)) → HaveRuns (without_files c) parts runs
    → HaveRuns c parts runs
runs_over c [] [] all = tt
runs_over c [] _ all = absurd all
runs_over c _ [] all = absurd all
runs_over c (s ∷ parts) (run ∷ runs) all = (run_over c s run all.0, runs_over c parts runs all.1)

complete_runs : (h c : Header) (parts : List Sequence) (runs : List (List Event)) → without_files c ≡ without_files h
    → HaveRuns (without_files h) parts runs
    → HaveRuns c parts runs
complete_runs h c parts runs same all = grind (arith, runs_over)

-- over the complete header too
pub runs_are_kept : (n : OrderAndLimit) (h c : Header) (parts : List Sequence) (runs : List (List Event))
    → AreSequences n h c parts
    → HaveRuns (without_files h) parts runs
    → HaveRuns c parts runs
runs_are_kept n h c parts runs are all = grind (arith, complete_runs)

-- ---- the state of the split after some rows

abbrev pub first_of : List LineRow → Option ℕ
first_of [] = None
first_of (r ∷ rows) = Some r.address

abbrev began : Header → HeaderSource → List File → Unread → RunState
began h source files unread = record {
  fixed = without_files h;
  files = files;
  appends = true;
  source = source;
  row = initial h.parameters;
  unread = unread;
}

pub record Splitting (h : Header) (k : SequenceSplit) (done : List LineRow) (point : RunState) : Type 0 where
  runs : List (List Event)
  rows : List LineRow
  source : HeaderSource
  files : List File
  done_is : map row done ≡ joined_runs runs ++ map row rows
  closed : HaveRuns (without_files h) k.parts runs
  unended : AreOpen rows
  start_is : k.start ≡ first_of rows
  passes : PassesOver (began h source files k.unread) point (map row rows)

pub starts_splitting : (h : Header) (source : HeaderSource) (unread : Unread)
    → Splitting h (record { parts = []; unread = unread; start = None }) []
    (with_reset_row (start_of_run true h source unread))
starts_splitting h source unread = record {
  source = source;
  runs = [];
  rows = [];
  files = h.files;
  done_is = refl;
  closed = tt;
  unended = tt;
  start_is = refl;
  passes = grind (arith);
}

-- the same, with the rows of each sequence
pub record Keeping (h : Header) (k : SequenceSplit) (kept : RowSplit) (done : List LineRow) (point : RunState)
    : Type 0 where
  pub splitting : Splitting h k done point
  pub unended : splitting.rows ≡ kept.unended
  pub closed : splitting.runs ≡ map (map row) kept.closed

pub starts_keeping : (h : Header) (source : HeaderSource) (unread : Unread)
    → Keeping h (record { parts = []; unread = unread; start = None }) (record { closed = []; unended = [] }) []
    (with_reset_row (start_of_run true h source unread))
unfolding starts_splitting
starts_keeping h source unread = record { splitting = starts_splitting h _ _; unended = refl; closed = refl }

-- the rows of each sequence are its run
pub kept_runs : (h : Header) (k : SequenceSplit) (kept : RowSplit) (done : List LineRow) (point : RunState)
    → Keeping h k kept done point
    → HaveRuns (without_files h) k.parts (map (map row) kept.closed)
kept_runs h k kept done point keeping = grind arith

open_push : (rows : List LineRow) (r : LineRow) → AreOpen rows → r.end_sequence ≡ false → AreOpen (rows ++ r ∷ [])
open_push [] r o e = (e, tt)
open_push (q ∷ rows) r o e = (o.0, open_push rows r o.1 e)

module _ (h : Header) (k : SequenceSplit) (done : List LineRow) (point next : RunState) (c : Splitting h k done point)
    (p : PassesOver point (with_reset_row next) (row next.row ∷ [])) where
  whole : PassesOver (began h c.source c.files k.unread) (with_reset_row next) (map row c.rows ++ row next.row ∷ [])
  whole = grind (arith, passes_both)

  abbrev last_run : List Event
  last_run = map row c.rows ++ row next.row ∷ []

  more_done : map row (done ++ next.row ∷ []) ≡ joined_runs c.runs ++ last_run
  more_done = grind (arith, map-append, append_assoc)

  goes_open : next.row.end_sequence ≡ false
      → Splitting h (record k { start = Some (unwrap_or k.start next.row.address) }) (done ++ next.row ∷ [])
      (with_reset_row next)
  goes_open e = record {
    runs = c.runs;
    rows = c.rows ++ next.row ∷ [];
    source = c.source;
    files = c.files;
    done_is = grind (arith, more_done, map-append);
    closed = c.closed;
    unended = grind (arith, open_push);
    start_is = grind (arith);
    passes = grind (arith, map-append, whole);
  }

  abbrev ended : Sequence
  ended = record { start = unwrap_or k.start 0; end = next.row.address; unread = front_of k.unread next.unread }

  front_is : take (length k.unread.bytes - length next.unread.bytes) k.unread.bytes ≡ whole.front
  front_is = grind (arith, front_at)

  closes : next.row.end_sequence ≡ true → HasRun (without_files h) ended last_run
  closes e = grind (arith, front_is, append-nil, starts)

  goes_closed : next.row.end_sequence ≡ true
      → Splitting h (record { parts = k.parts ++ ended ∷ []; unread = next.unread; start = None })
      (done ++ next.row ∷ []) (with_reset_row next)
  goes_closed e = record {
    runs = c.runs ++ last_run ∷ [];
    rows = [];
    source = next.source;
    files = next.files;
    done_is = grind (arith, more_done, joined_push, append-nil);
    closed = grind (arith, runs_push, closes);
    unended = tt;
    start_is = refl;
    passes = grind (arith);
  }

  pub goes_splitting : Splitting h (with_row next.row next.unread k) (done ++ next.row ∷ []) (with_reset_row next)
  goes_splitting = at_test _ refl
    where
      at_test : (b : Bool) → next.row.end_sequence ≡ b
          → Splitting h (if b then record { parts = k.parts ++ ended ∷ []; unread = next.unread; start = None }
          else record k { start = Some (unwrap_or k.start next.row.address) }) (done ++ next.row ∷ [])
          (with_reset_row next)
      at_test true e = goes_closed e
      at_test false e = goes_open e

  pub goes_keeping : (kept : RowSplit) → c.rows ≡ kept.unended → c.runs ≡ map (map row) kept.closed
      → Keeping h (with_row next.row next.unread k) (with_kept_row next.row kept) (done ++ next.row ∷ [])
      (with_reset_row next)
  unfolding goes_open goes_closed
  goes_keeping kept same all = at_test _ refl
    where
      whole_rows : List LineRow
      whole_rows = kept.unended ++ next.row ∷ []

      whole_same : last_run ≡ map row whole_rows
      whole_same =
          sym (map-append _ _ _) ∙ ap (λ xs. map row (xs ++ next.row ∷ [])) same

      at_test : (b : Bool) → next.row.end_sequence ≡ b
          → Keeping h (if b then record { parts = k.parts ++ ended ∷ []; unread = next.unread; start = None }
          else record k { start = Some (unwrap_or k.start next.row.address) })
          (if b then record { closed = kept.closed ++ whole_rows ∷ []; unended = [] }
          else record kept { unended = whole_rows })
          (done ++ next.row ∷ [])
          (with_reset_row next)
      at_test true e = record {
        splitting = goes_closed e;
        unended = refl;
        closed = ap (λ runs. runs ++ last_run ∷ []) all
            ∙ ap (λ run. map (map row) kept.closed ++ run ∷ []) whole_same
            ∙ sym (map-append _ _ _);
      }
      at_test _ e = record {
        splitting = goes_open e;
        unended = ap (λ xs. xs ++ next.row ∷ []) same;
        closed = all;
      }

  -- what is split off stands in front of the rest
  pub has_front : (front : List ℕ) × (k.unread.bytes ≡ front ++ next.unread.bytes)
  has_front = grind (arith, whole)

-- a row takes bytes
pub row_takes : (a b : RunState) (e : Event) (es : List Event) → PassesOver a b (e ∷ es)
    → length b.unread.bytes < length a.unread.bytes
row_takes a b e es p = at_list _ _ p.parts p.spelled p.given
  where
    at_list : (list : List Ins) (front : List ℕ) → a.unread.bytes ≡ front ++ b.unread.bytes
        → Each (SpellsInstruction a.unread.layout a.fixed) front list
        → run a.fixed.parameters a.row list ≡ e ∷ es → length b.unread.bytes < length a.unread.bytes
    at_list [] front parts s given = absurd cc
    at_list (i ∷ list) front parts s given = grind (arith, length-append, takes_bytes)

-- ---- the end of a run without a fault

module _ (source : HeaderSource) (h c : Header) (k : SequenceSplit) (done : List LineRow) (point last : RunState) where
  are_sequences : Splitting h k done point → PassesOver (with_reset_row (whole_run h source)) last (map row done)
      → last.unread.bytes ≡ []
      → without_files c ≡ last.fixed → c.files ≡ last.files
      → AreSequences source.layout h c k.parts
  are_sequences splitting p empty fixed files = record {
    list = p.list;
    decoding = bare_decoding _ h _ _ _ (record {
      front = p.front;
      rest = last.unread.bytes;
      parts = p.parts;
      spelled = p.spelled;
      ended = empty;
    });
    rows = done;
    given = given;
    files = c_is;
    runs = splitting.runs;
    each = grind (arith, complete_runs);
    joined = sym (ap through_last_end (given ∙ splitting.done_is)
        ∙ through_runs _ k.parts splitting.runs splitting.closed _ ∙ ap (λ xs. joined_runs splitting.runs ++ xs)
        (through_none (map row splitting.rows) (none_ends splitting.rows splitting.unended)) ∙ append-nil _);
  }
    where
      given : program_events h.parameters p.list None ≡ map row done
      given = grind (arith, starts)

      c_is : c ≡ record h { files = defined_files h.files (past_at_end [] p.list) }
      c_is = grind (arith, files_from_start)

-- ---- a fault

passes_left : (a b : RunState) (es : List Event) → PassesOver a b es
    → events_of (live_events a) ≡ es ++ events_of (live_events b)
passes_left a b es p =
    let c = decoded_at a.unread.layout a.fixed b.unread.bytes in
    let here = registers_from a.fixed.parameters a.row p.list in
    let files = files_from a.appends a.files p.list in
    let rest : live_events b ≡ given_of (made_from a.appends a.fixed.parameters here files c.0 c.1) = cc in
    ap (λ d.
    events_of (given_of (made_from a.appends a.fixed.parameters a.row a.files d.0 d.1)))
    (decodes_on a.unread.layout a.fixed a.unread.bytes p.list p.front b.unread.bytes p.parts p.spelled)
    ∙ given_joined a.appends a.fixed.parameters a.row a.files p.list c.0 c.1
    ∙ ap (λ xs.
    xs ++ events_of (given_of (made_from a.appends a.fixed.parameters here files c.0 c.1))) p.given
    ∙ ap (λ xs. es ++ events_of xs) (sym rest)

has_first_fault : (source : HeaderSource) (h : Header) (done : List LineRow) (old new : RunState) (e : Error)
    → PassesOver (with_reset_row (whole_run h source)) (with_reset_row old) (map row done)
    → FaultComes live_events (with_reset_row old) new e
    → HasFirstFault source.layout h e
has_first_fault source h done old new e p is =
    let c = decoded_at source.layout _ h.program in
    record {
      list = c.0;
      end = c.1;
      decoding = grind (arith, bare_decoding, is_decoded);
      rows = done;
      rest = events_of _;
      given = sym (given_from_start true h.parameters h.files c.0 c.1) ∙ passes_left _ _ _ p
          ∙ ap (λ t. map row done ++ events_of t) is.0;
    }

-- ---- a run of a whole program that is split on its way

pub record IsSplit (Split : List LineRow → RunState → Type 0) (h : Header) (source : HeaderSource) (rows : RunState)
    : Type 0 where
  pub done : List LineRow
  pub split : Split done (with_reset_row rows)
  pub passes : PassesOver (with_reset_row (whole_run h source)) (with_reset_row rows) (map row done)
  pub keeps : KeepsRun (whole_run h source) rows

module _ (h : Header) (source : HeaderSource) (Split : List LineRow → RunState → Type 0) where
  abbrev whole_row : RunState
  whole_row = with_reset_row (whole_run h source)

  pub split_starts : (rows : RunState) → rows ≡ whole_run h source → Split [] whole_row → IsSplit Split h source rows
  split_starts rows start split = grind (arith)

  module _ (rows next : RunState) (so_far : IsSplit Split h source rows) (keeps : KeepsRun rows next) where
    pub split_goes : (Longer : List LineRow → RunState → Type 0)
        → PassesOver (with_reset_row rows) (with_reset_row next) (row next.row ∷ [])
        → Longer (so_far.done ++ next.row ∷ []) (with_reset_row next) → IsSplit Longer h source next
    split_goes Longer p split = record {
      done = so_far.done ++ next.row ∷ [];
      split = split;
      passes = subst (λ es. PassesOver whole_row (with_reset_row next) es)
          (sym (map-append _ _ _))
          (passes_both _ _ _ _ _
          so_far.passes p);
      keeps = keeps_both _ _ _ so_far.keeps keeps;
    }

    pub split_faults : (e : Error) → e ≢ OutOfMemory → FaultIs live_events (with_reset_row rows) next e
        → HasFirstFault source.layout h e
    split_faults e other (inl memory) = absurd (other memory.0)
    split_faults e other (inr comes) = has_first_fault source h so_far.done rows next e so_far.passes comes

    -- the program that is left is that of the run
    pub split_source : (last : HeaderSource) → last ≡ next.source
        → KeepsSource (λ order. source.layout.is_big ≡ order) source last
    split_source last same = subst (KeepsSource (λ order. source.layout.is_big ≡ order) source) (sym same)
        (fits_less _ _ _ _ (λ order is adds. is) (keeps_both _ _ _ so_far.keeps keeps).source)

    pub split_ends : (c : Header) (k : SequenceSplit) → Splitting h k so_far.done (with_reset_row rows)
        → next.unread.bytes ≡ []
        → PassesOver (with_reset_row rows) next [] → without_files c ≡ next.fixed → c.files ≡ next.files
        → AreSequences source.layout h c k.parts
    split_ends c k splitting empty p = are_sequences _ h c k _ _ _ splitting
        (subst (λ es. PassesOver whole_row next es) (append-nil _)
        (passes_both _ _ _ _ _ so_far.passes p))
        empty
