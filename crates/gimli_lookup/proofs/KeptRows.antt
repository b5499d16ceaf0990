-- Rows that are kept: they are what the sequences give.
use Rattle.std.proofs.Common.{◌≡◌, List, map, sym, ap, ◌∙◌, refl}
use Rattle.std.specs.Prelude.{None, flat_map}
use Rattle.std.proofs.lemmas.List.Folds.{flat_map-map}
use Rattle.gimli_core.specs.Layout.{OrderAndLimit}
use Rattle.gimli_line.specs.declared.run.row.LineRow.{LineRow}
use Rattle.gimli_line.specs.header.Header.{Header}
use Rattle.gimli_line.specs.run.Events.{Event, row, program_events}
use Rattle.gimli_line.specs.run.Sequences.{Sequence, HaveRuns, AreSequences}
use Rattle.gimli_line.proofs.ResumedRuns.{one_list_of_runs}
use Rattle.gimli_lookup.specs.Run.{AreRowsThroughLastEnd}

-- the rows of each sequence are its run, so that all of them are all runs
pub joined_same : (c : Header) (rows : List (List LineRow)) (parts : List Sequence) (runs : List (List Event))
    → HaveRuns c parts runs
    → HaveRuns c parts (map (map row) rows) → flat_map (map row) rows ≡ flat_map (λ run. run) runs
joined_same c rows parts runs each kept =
    sym (flat_map-map (λ (run : List Event). run) (map row) rows)
    ∙ ap (flat_map (λ (run : List Event). run)) (one_list_of_runs c parts (map (map row) rows) runs kept each)

pub are_joined : (layout : OrderAndLimit) (h c : Header) (parts : List Sequence) (rows : List (List LineRow))
    → AreSequences layout h c parts
    → HaveRuns c parts (map (map row) rows) → AreRowsThroughLastEnd layout h rows
are_joined layout h c parts rows are kept = record {
  events = program_events h.parameters are.list None;
  given = record { list = are.list; end = None; decoding = are.decoding; given = refl };
  joined = joined_same c rows parts are.runs are.each kept ∙ are.joined;
}
