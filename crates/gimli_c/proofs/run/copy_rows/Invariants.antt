use Rattle.std.proofs.Common.{◌≡◌, length}
use Rattle.gimli_line.specs.run.Rows.{events_left, files_at_end}
use Rattle.gimli_line.specs.run.Sequences.{events_of}
use Rattle.gimli_c.proofs.Runs.{IsOnTheWay}
use Rattle.gimli_c.proofs.run.copy_rows.Given as goal

abbrev pub invariant-rows : goal.invariant-rows
invariant-rows g l = record {
  way : IsOnTheWay (events_of (events_left l.initial.rows)) (events_of (events_left l.rows)) l.skip l.count
      l.initial.room l.room;
  files : files_at_end l.rows ≡ files_at_end l.initial.rows;
}

abbrev pub decreases-rows : goal.decreases-rows
decreases-rows g l = length (events_of (events_left l.rows))
