use Rattle.std.specs.Prelude.{◌≡◌}
use Rattle.gimli_line.proofs.Common.{[], length, live_made, made_left, KeepsRun, PassesOver, with_reset_row}
use Rattle.gimli_line.proofs.run.rows.LineRows.advance_any.Given as goal

abbrev pub invariant-instructions : goal.invariant-instructions
invariant-instructions g l = record {
  made : made_left l.fn.self ≡ live_made l.self;
  passes : PassesOver (with_reset_row l.fn.self) l.self [];
  keeps : KeepsRun l.fn.self l.self;
}

abbrev pub decreases-instructions : goal.decreases-instructions
decreases-instructions g l = length l.self.unread.bytes
