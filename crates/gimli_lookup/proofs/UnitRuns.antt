-- What is kept of a run is what its rows say.
use Rattle.std.proofs.Common.{◌≡◌, ℕ, true, List, [], map, take, sym, ap, subst, ◌∙◌}
use Rattle.std.specs.Prelude.{Option, Some, None}
use Rattle.std.specs.List.{flat_map}
use Rattle.gimli_core.specs.Layout.{OrderAndLimit}
use Rattle.gimli_core.specs.declared.error.Error.{Error}
use Rattle.gimli_line.specs.declared.run.row.LineRow.{LineRow}
use Rattle.gimli_line.specs.header.File.{File}
use Rattle.gimli_line.specs.header.Header.{Header}
use Rattle.gimli_line.specs.header.Orders.{HeaderSource}
use Rattle.gimli_line.specs.run.Events.{row}
use Rattle.gimli_line.specs.run.EventsWithFiles.{EventWithFiles, Makes, FilesAtEnd}
use Rattle.gimli_line.specs.run.Passing.{RunState}
use Rattle.gimli_line.specs.run.Rows.{made_left, files_at_end, whole_run}
use Rattle.gimli_line.specs.run.Sequences.{events_of}
use Rattle.gimli_lookup.specs.inside.SequenceCut.{SequenceCut, no_rows, with_rows}
use Rattle.gimli_lookup.specs.Section.{header_of}
use Rattle.gimli_lookup.specs.inside.SequenceCut.{AreTaken, StopsAt}
use Rattle.gimli_lookup.specs.UnitRun.{AreBeforeFault, IsKept, standing_parts}
use Rattle.gimli_lookup.proofs.SequenceCuts.{are_cut, starts_cut, same_lowest, parts_kept}

-- ---- what comes before the first fault

before_fault : (layout : OrderAndLimit) (h : Header) (old new : RunState) (rows : List LineRow)
    (front : List EventWithFiles) (e : Option Error)
    → Makes layout true h h.program (made_left old) → FilesAtEnd layout true h h.program (files_at_end old)
    → events_of front ≡ map row rows → StopsAt old new front e → AreBeforeFault layout h rows e new.files
before_fault layout h old new rows front None made files are stops = record {
  events = front;
  made = subst (λ (es : List EventWithFiles). Makes layout true h h.program es) stops.0 made;
  rows_are = are;
  at_end = subst (λ (fs : List File). FilesAtEnd layout true h h.program fs) (sym stops.1) files;
}
before_fault layout h old new rows front (Some e) made files are stops = record {
  front = front;
  rest = stops.0;
  made = subst (λ (es : List EventWithFiles). Makes layout true h h.program es) stops.1 made;
  rows_are = are;
}

pub is_kept : (lowest : ℕ) (h : Header) (source : HeaderSource) (old new : RunState) (e : Option Error)
    (to : SequenceCut)
    → old ≡ whole_run h source
    → Makes source.layout true h h.program (made_left old)
    → FilesAtEnd source.layout true h h.program (files_at_end old)
    → AreTaken old new e (no_rows lowest) to
    → IsKept source.layout lowest h (header_of new) e (take to.ended to.parts)
is_kept lowest h source old new e to starts made files taken =
    let last = with_rows taken.rows (no_rows lowest) in
    let cut = are_cut [] taken.rows (no_rows lowest) (starts_cut lowest) in
    let is_lowest : last.lowest ≡ lowest = same_lowest taken.rows (no_rows lowest) in
    record {
      rows = taken.rows;
      before = before_fault source.layout h old new taken.rows taken.front e made files taken.rows_are taken.stops;
      header =
          ap (λ (k : Header). record k { files = new.files })
          (taken.keeps.run.fixed ∙ ap (λ (a : RunState). a.fixed) starts);
      sequences = cut.sequences;
      cut = record { unended = cut.unended; joined = cut.joined; each = cut.each; no_end = cut.no_end };
      parts_are =
          ap (λ (c : SequenceCut). take c.ended c.parts) taken.taken ∙ parts_kept taken.rows last cut
          ∙ ap (λ (low : ℕ). flat_map (standing_parts low) cut.sequences) is_lowest;
    }
