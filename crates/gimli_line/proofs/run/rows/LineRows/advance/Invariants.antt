use Rattle.std.specs.Prelude.{◌≡◌}
use Rattle.gimli_line.proofs.Common.{[], length, made_left, KeepsRun, PassesOver, with_reset_row, events_left}
use Rattle.gimli_line.proofs.run.rows.LineRows.advance.Given as goal

abbrev pub invariant-rows : goal.invariant-rows
invariant-rows g l = record {
  events : events_left l.fn.self ≡ events_left l.self;
  passes : PassesOver (with_reset_row l.fn.self) (with_reset_row l.self) [];
  keeps : KeepsRun l.fn.self l.self;
}

abbrev pub decreases-rows : goal.decreases-rows
decreases-rows g l = length (made_left l.self)
