-- The rows so far and what is still to come are the events of the run, and its files at the end are the same.
use Rattle.std.proofs.Common.{◌≡◌, ◌≤◌, ◌++◌, List, length, map}
use Rattle.gimli_line.specs.declared.run.row.LineRow.{LineRow}
use Rattle.gimli_line.specs.run.Events.{row}
use Rattle.gimli_line.specs.run.Rows.{events_left, files_at_end}
use Rattle.gimli_line.specs.run.Sequences.{events_of}
use Rattle.gimli_lookup.specs.inside.FirstPair.{HasPassed}
use Rattle.gimli_lookup.proofs.run.find_in_run.Given as goal

abbrev pub invariant-rows : goal.invariant-rows
invariant-rows g l = record {
  passed : (passed : List LineRow)
      × (events_of (events_left l.initial.rows) ≡ map row passed ++ events_of (events_left l.rows))
      × HasPassed l.a passed l.search;
  at_end : files_at_end l.rows ≡ files_at_end l.initial.rows;
  files : length l.initial.rows.files ≤ length l.rows.files;
}

abbrev pub decreases-rows : goal.decreases-rows
decreases-rows g l = length (events_left l.rows)
