-- The rows of a run: they are what its program gives, or a fault comes after them.
use Rattle.std.proofs.Common.{◌≡◌, true, List, [], ◌∷◌, ◌++◌, map, sym, ap, ◌∙◌, append_assoc}
use Rattle.std.proofs.lemmas.List.{map-append, append-nil}
use Rattle.gimli_core.specs.Layout.{OrderAndLimit}
use Rattle.gimli_core.specs.declared.error.Error.{Error}
use Rattle.gimli_line.specs.declared.run.row.LineRow.{LineRow}
use Rattle.gimli_line.specs.header.File.{File}
use Rattle.gimli_line.specs.header.Header.{Header}
use Rattle.gimli_line.specs.run.Events.{Event, row, fault, Events, program_events}
use Rattle.gimli_line.specs.run.EventsWithFiles.{EventWithFiles, EventsWithFiles}
use Rattle.gimli_line.specs.run.Sequences.{events_of, HasFirstFault}
use Rattle.gimli_line.proofs.RunLists.{given_without_files}

-- ---- after some rows

module _ (layout : OrderAndLimit) (h : Header) (events left : List EventWithFiles) (rows : List LineRow)
    (given : EventsWithFiles layout true h h.program events)
    (so_far : events_of events ≡ map row rows ++ events_of left) where
  whole : events_of events ≡ program_events h.parameters given.list given.end
  whole = ap events_of given.given ∙ given_without_files true h given.list given.end

  -- nothing comes: these are all rows
  pub run_ended : left ≡ [] → Events layout h h.program (map row rows)
  run_ended none = record {
    list = given.list;
    end = given.end;
    decoding = given.decoding;
    given =
        sym (append-nil (map row rows)) ∙ ap (λ (l : List EventWithFiles). map row rows ++ events_of l) (sym none)
        ∙ sym so_far ∙ whole;
  }

  -- a row comes
  pub run_goes : (r : LineRow) (files : List File) (rest : List EventWithFiles)
      → left ≡ record { event = row r; files = files } ∷ rest
      → events_of events ≡ map row (rows ++ r ∷ []) ++ events_of rest
  run_goes r files rest next =
      so_far
      ∙ ap (λ (l : List EventWithFiles). map row rows ++ events_of l) next
      ∙ sym (append_assoc (map row rows) (row r ∷ []) (events_of rest))
      ∙ ap (λ (xs : List Event). xs ++ events_of rest) (sym (map-append row rows (r ∷ [])))

  -- a fault comes: it is the first one
  pub first_fault : (files : List File) (rest : List EventWithFiles) (e : Error)
      → left ≡ record { event = fault e; files = files } ∷ rest
      → HasFirstFault layout h e
  first_fault files rest e next = record {
    list = given.list;
    end = given.end;
    decoding = given.decoding;
    rows = rows;
    rest = events_of rest;
    given = sym whole ∙ so_far ∙ ap (λ (l : List EventWithFiles). map row rows ++ events_of l) next;
  }
