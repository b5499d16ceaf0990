-- The rows of a run, taken in one after the other.
use Rattle.std.proofs.Common.{◌≡◌, List, [], ◌∷◌, ◌++◌, map, refl, sym, ap, subst, ◌∙◌, inl, inr, append_assoc}
use Rattle.std.specs.Prelude.{◌≢◌, Option, Some, None, Result, Ok, Err, IfOk}
use Rattle.std.proofs.lemmas.List.{map-append, append-nil}
use Rattle.gimli_core.specs.declared.error.Error.{Error}
use Rattle.gimli_core.specs.declared.error.Error.TheVariants.{OutOfMemory}
use Rattle.gimli_line.specs.declared.run.row.LineRow.{LineRow}
use Rattle.gimli_line.specs.header.File.{File}
use Rattle.gimli_line.specs.run.Events.{row}
use Rattle.gimli_line.specs.run.EventsWithFiles.{EventWithFiles}
use Rattle.gimli_line.specs.run.Passing.{with_reset_row}
use Rattle.gimli_line.specs.run.Passing.{RunState}
use Rattle.gimli_line.specs.run.Rows.{live_made, made_left, files_at_end, KeepsHeader, RowIs, EndIs, FaultIs}
use Rattle.gimli_line.specs.run.Sequences.{events_of}
use Rattle.gimli_line.proofs.Sources.{keeps_same, keeps_both}
use Rattle.gimli_lookup.specs.inside.SequenceCut.{SequenceCut, with_row, with_rows}
use Rattle.gimli_lookup.specs.inside.SequenceCut.{AreTaken}

-- rows were taken in, and others are still to come
pub record TakesIn (old new : RunState) (from to : SequenceCut) : Type 0 where
  pub rows : List LineRow
  pub front : List EventWithFiles
  pub rows_are : events_of front ≡ map row rows
  pub to_come : made_left old ≡ front ++ made_left new
  pub files : files_at_end new ≡ files_at_end old
  pub taken : to ≡ with_rows rows from
  pub keeps : KeepsHeader old new

pub none_taken : (run : RunState) (cut : SequenceCut) → TakesIn run run cut cut
none_taken run cut = record {
  rows = [];
  front = [];
  rows_are = refl;
  to_come = refl;
  files = refl;
  taken = refl;
  keeps = record { run = keeps_same run run refl; alone = λ alone. alone };
}

keeps_header : (a b c : RunState) → KeepsHeader a b → KeepsHeader b c → KeepsHeader a c
keeps_header a b c f g = record { run = keeps_both a b c f.run g.run; alone = λ alone. g.alone (f.alone alone) }

with_more : (rows : List LineRow) (r : LineRow) (a : SequenceCut)
    → with_rows (rows ++ r ∷ []) a ≡ with_row r (with_rows rows a)
with_more [] r a = refl
with_more (s ∷ rows) r a = with_more rows r (with_row s a)

pub one_more : (first old new : RunState) (from to : SequenceCut) (r : LineRow) (files : List File)
    → TakesIn first old from to
    → KeepsHeader old new → RowIs live_made old new r files → TakesIn first new from (with_row r to)
one_more first old new from to r files t keeps next =
    let event : EventWithFiles = record { event = row r; files = files } in
    record {
      rows = t.rows ++ r ∷ [];
      front = t.front ++ event ∷ [];
      rows_are =
          map-append (λ (e : EventWithFiles). e.event) t.front (event ∷ []) ∙ ap (λ es. es ++ row r ∷ []) t.rows_are
          ∙ sym (map-append row t.rows (r ∷ []));
      to_come = t.to_come ∙ ap (λ es. t.front ++ es) next.0 ∙ sym (append_assoc t.front (event ∷ []) (made_left new));
      files = next.2 ∙ t.files;
      taken = ap (with_row r) t.taken ∙ sym (with_more t.rows r from);
      keeps = keeps_header first old new t.keeps keeps;
    }

pub to_end : (first old new : RunState) (from to : SequenceCut) → TakesIn first old from to → KeepsHeader old new
    → EndIs live_made old new
    → AreTaken first new None from to
to_end first old new from to t keeps next = record {
  rows = t.rows;
  front = t.front;
  rows_are = t.rows_are;
  stops = (t.to_come ∙ ap (λ es. t.front ++ es) next.0 ∙ append-nil t.front, next.3 ∙ t.files);
  taken = t.taken;
  keeps = keeps_header first old new t.keeps keeps;
}

pub to_fault : (first old new : RunState) (from to : SequenceCut) (e : Error) → TakesIn first old from to
    → KeepsHeader old new → (e ≡ OutOfMemory → ⊥)
    → FaultIs live_made (with_reset_row old) new e → AreTaken first new (Some e) from to
to_fault first old new from to e t keeps other (inl memory) = absurd (other memory.0)
to_fault first old new from to e t keeps other (inr comes) = record {
  rows = t.rows;
  front = t.front;
  rows_are = t.rows_are;
  stops = (made_left new, t.to_come ∙ ap (λ es. t.front ++ es) comes.0);
  taken = t.taken;
  keeps = keeps_header first old new t.keeps keeps;
}

-- a refusal that isn't for memory is the first fault
pub fault_taken : (first old new : RunState) (from to : SequenceCut) (e : Error) (answer : Result (Option Error) Error)
    → TakesIn first old from to
    → KeepsHeader old new
    → FaultIs live_made (with_reset_row old) new e → IfOk answer (λ found. (found ≡ Some e) × (e ≢ OutOfMemory))
    → IfOk answer (λ found. AreTaken first new found from to)
fault_taken first old new from to e (Ok found) t keeps is as_is =
    subst (λ (o : Option Error). AreTaken first new o from to) (sym as_is.0)
    (to_fault first old new from to e t keeps as_is.1 is)
fault_taken first old new from to e (Err d) t keeps is as_is = tt
