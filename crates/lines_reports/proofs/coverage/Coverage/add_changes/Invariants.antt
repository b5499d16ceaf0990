use Rattle.lines_reports.specs.inside.Changes.{IsPart, Keeps}
use Rattle.lines_reports.proofs.Changes.{IsDone}
use Rattle.lines_reports.proofs.coverage.Coverage.add_changes.Given as goal

abbrev pub invariant-loop-place : goal.invariant-loop-place
invariant-loop-place l = record {
  part : IsPart l.old l.new l.changes;
  kept : Keeps l.old l.new l.initial.changes l.changes;
  done : IsDone l.old l.new l.self l.place-iterator l.changes;
}
