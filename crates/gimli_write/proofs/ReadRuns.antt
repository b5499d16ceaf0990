-- Rows that are read: they are what the program gives, or a fault comes after them.
use Rattle.std.specs.Prelude.{◌≡◌, ◌≢◌, ◌<◌, ◌⊎◌, ◌∷◌, ◌++◌}
use Rattle.gimli_write.proofs.Common
use Common.{true, List, [], length, map, refl, sym, ap, ◌∙◌, inl, inr, arith, append-nil, append_assoc, map-append}
use Common.{OrderAndLimit, Error, OutOfMemory, Header, File, row, fault, Event, Events, live_events, FaultIs}
use Common.{events_left, events_of, HasFirstFault, ConvertError, Read, NoMemory, IsRunRefusal}
use Rattle.gimli_line.specs.declared.run.row.LineRow.{LineRow}
use Rattle.gimli_line.specs.run.Passing.{RunState}
use Rattle.gimli_line.specs.run.Passing.{with_reset_row}
use Rattle.gimli_line.specs.run.Rows.{RowIs}
use Rattle.gimli_line.specs.run.EventsWithFiles.{EventWithFiles, EventsWithFiles}
use Rattle.gimli_line.proofs.RunLists.{given_without_files}

-- ---- a row of a run

module _ (old new : RunState) {r : LineRow} {files : List File} (next : RowIs live_events old new r files) where
  pub run_smaller : length (events_left new) < length (events_left old)
  run_smaller = omega (arith, ap length next.0)

  -- it comes after the rows before it
  pub run_goes : {first : List Event} (rows : List LineRow) {more : List LineRow}
      → first ≡ map row rows ++ events_of (events_left old) → more ≡ rows ++ r ∷ []
      → first ≡ map row more ++ events_of (events_left new)
  run_goes rows so_far is =
      rw (is, map-append row rows (r ∷ []), append_assoc (map row rows) (row r ∷ []) (events_of (events_left new)))
      (so_far ∙ ap (λ (l : List EventWithFiles). map row rows ++ events_of l) next.0)

-- ---- a run to its end

-- rows after which nothing comes are all that the program gives
pub run_ended : {layout : OrderAndLimit} (h : Header) {events left : List EventWithFiles} (rows : List LineRow)
    → EventsWithFiles layout true h h.program events
    → events_of events ≡ map row rows ++ events_of left → left ≡ [] → Events layout h h.program (map row rows)
run_ended h rows tells so_far none = record {
  list = tells.list;
  end = tells.end;
  decoding = tells.decoding;
  given =
      sym (append-nil (map row rows)) ∙ ap (λ (l : List EventWithFiles). map row rows ++ events_of l) (sym none)
      ∙ sym so_far ∙ ap events_of tells.given ∙ given_without_files true h tells.list tells.end;
}

-- ---- a run that is refused

-- whether a refusal is `OutOfMemory`
pub is_memory : (e : Error) → (e ≡ OutOfMemory) ⊎ (e ≢ OutOfMemory)
is_memory OutOfMemory = inl refl
is_memory e = inr (λ is. absurd cc)

first_fault : {layout : OrderAndLimit} (h : Header) {events left : List EventWithFiles} (rest : List EventWithFiles)
    (rows : List LineRow) (files : List File) (e : Error) → EventsWithFiles layout true h h.program events
    → events_of events ≡ map row rows ++ events_of left → left ≡ record { event = fault e; files = files } ∷ rest
    → HasFirstFault layout h e
first_fault h rest rows files e tells so_far next = record {
  list = tells.list;
  end = tells.end;
  decoding = tells.decoding;
  rows = rows;
  rest = events_of rest;
  given = sym (given_without_files true h tells.list tells.end) ∙ sym (ap events_of tells.given) ∙ so_far
      ∙ ap (λ (l : List EventWithFiles). map row rows ++ events_of l) next;
}

-- a refusal after rows is the first fault, or `OutOfMemory`, and has the name that conversions give it
pub run_refused : {layout : OrderAndLimit} {h : Header} {events : List EventWithFiles} (old new : RunState)
    (rows : List LineRow) (e : Error) (r : ConvertError)
    → EventsWithFiles layout true h h.program events → events_of events ≡ map row rows ++ events_of (events_left old)
    → FaultIs live_events (with_reset_row old) new e
    → (e ≡ OutOfMemory → r ≡ NoMemory) → (e ≢ OutOfMemory → r ≡ Read e) → IsRunRefusal layout h r
run_refused old new rows e r tells so_far (inl memory) named other = rw (named memory.0) tt
run_refused {h} old new rows e r tells so_far (inr next) named other = elim (is_memory e) [
  | inl memory ↦ rw (named memory) tt
  | inr not_memory ↦ rw (other not_memory) (first_fault h _ _ _ e tells so_far next.0)
]
