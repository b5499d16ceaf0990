use Rattle.std.proofs.Common.{rules, ◌≡◌, ◌∷◌, List, subst}
use Rattle.lines_reports.specs.declared.coverage.LinePlace.{LinePlace}
use Rattle.lines_reports.proofs.Changes.{IsDone, part_on, keeps_on, done_on}
use Rattle.lines_reports.proofs.coverage.Coverage.add_changes.Goals as goal

pub loop-place-preserved : goal.loop-place-preserved
loop-place-preserved c =
    let place : LinePlace = c.in-Some.place.now in
    let kept = c.in_ok-keep_change.ensures in
    let goes : c.loop-place.place-iterator ≡ place ∷ c.next.new.self = search rules in
    let part = c.loop-place.invariant.part in
    record {
      part = part_on c.args.old.now c.args.new.now place c.loop-place.changes c.keep_change.new.changes kept part;
      kept = λ other whole.
          keeps_on c.args.old.now c.args.new.now place c.loop-place.changes c.keep_change.new.changes kept other
          (c.loop-place.invariant.kept other whole);
      done =
          done_on c.args.old.now c.args.new.now c.args.self.now place c.next.new.self c.loop-place.changes
          c.keep_change.new.changes kept part
          (subst (λ (left : List LinePlace).
          IsDone c.args.old.now c.args.new.now c.args.self.now left c.loop-place.changes)
          goes c.loop-place.invariant.done);
    }
