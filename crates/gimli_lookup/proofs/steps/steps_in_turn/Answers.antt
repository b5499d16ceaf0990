use Rattle.std.proofs.Common.{arith}
use Rattle.gimli_lookup.proofs.StepsInTurn.{two_steps_more, no_step_more}
use Rattle.gimli_lookup.proofs.steps.steps_in_turn.Goals.{
  in-Some+else-covered-end+in_ok-push_step+in_ok-push_step-2,
  in_default-steps_of_one,
}
use Rattle.gimli_lookup.proofs.steps.steps_in_turn.Goals as goal

pub loop-index-preserved : goal.loop-index-preserved
loop-index-preserved c =
    let l = c.loop-index in
    let sequences = c.args.sequences.now in
    elim c.match-steps_of_one.branch [
      | in-Some+else-covered-end+in_ok-push_step+in_ok-push_step-2 w ↦ record {
        so_far = rw (w.steps-is, w.in_ok-push_step-2.ensures.ok, w.in_ok-push_step.ensures.ok, w.end-is)
            (two_steps_more c.args.first l.index sequences c.index-sequences-index.result l.steps.items l.end
            (omega arith) c.index-sequences-index.is
            l.invariant.so_far
            w.in-Some.covered w.in-Some.uncovered w.in-Some.ensures (omega (arith, w.if-covered-end.false)));
        at_start = λ zero. absurd (omega (arith, zero));
      }
      | in_default-steps_of_one w ↦ record {
        so_far = rw (w.steps-is, w.end-is)
            (no_step_more c.args.first l.index sequences c.index-sequences-index.result l.steps.items l.end
            (omega arith) c.index-sequences-index.is
            l.invariant.so_far
            w.in_default-steps_of_one.ensures);
        at_start = λ zero. absurd (omega (arith, zero));
      }
    ]
