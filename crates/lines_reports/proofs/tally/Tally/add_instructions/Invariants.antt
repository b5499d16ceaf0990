use Rattle.std.proofs.Common.{◌≡◌, length}
use Rattle.lines_reports.specs.inside.Progress.{AreCounted}
use Rattle.lines_reports.proofs.tally.Tally.add_instructions.Given as goal

abbrev pub invariant-instructions : goal.invariant-instructions
invariant-instructions g l = record {
  counted : AreCounted l.header.layout l.header.meaning l.header.meaning.program l.initial.self
      (g.R.Reader.seen l.rest).bytes l.self;
  same : (g.R.Reader.seen l.rest).bytes ≡ l.instructions.bytes;
  layout : l.instructions.layout ≡ l.header.layout;
}

abbrev pub decreases-instructions : goal.decreases-instructions
decreases-instructions g l = length l.instructions.bytes
