use Rattle.std.proofs.Common.{◌<◌, ◌+◌, ◌-◌, ◌/◌, length, arith}
use Rattle.gimli_lookup.proofs.Digits.{halved}
use Rattle.gimli_lookup.proofs.step_table.steps_up_to.Goals as goal

pub loop-low-preserved-then-address_of_step-a : goal.loop-low-preserved-then-address_of_step-a
loop-low-preserved-then-address_of_step-a c =
    let low = c.loop-low.low in
    let high = c.loop-low.high in
    let middle = low + (high - low) / 2 in
    let i = c.loop-low.invariant in
    let steps = c.args.steps.now in
    let inside : middle < length steps = omega (arith, i.high) in
    record {
      low = omega arith;
      high = i.high;
      before =
          λ k d lt.
          omega (arith, c.requires.order k middle d (omega arith) inside, c.address_of_step.ensures.address d);
      after = i.after;
      count = omega (arith, c.address_of_step.ensures.counted, i.count);
      grows = omega (arith, c.address_of_step.ensures.counted, i.grows);
      at_least = λ lt. omega (arith, c.address_of_step.ensures.counted, i.grows);
      at_most =
          omega (
            arith,
            c.address_of_step.ensures.counted,
            i.at_most,
            halved (high - (middle + 1)) (high - low) (omega arith) (omega arith),
          );
    }

pub loop-low-preserved : goal.loop-low-preserved
loop-low-preserved c =
    let low = c.loop-low.low in
    let high = c.loop-low.high in
    let middle = low + (high - low) / 2 in
    let i = c.loop-low.invariant in
    let steps = c.args.steps.now in
    let inside : middle < length steps = omega (arith, i.high) in
    record {
      low = omega arith;
      high = omega (arith, inside);
      before = i.before;
      after = λ k d le lt. omega (arith, c.requires.order middle k d le lt, c.address_of_step.ensures.address d);
      count = omega (arith, c.address_of_step.ensures.counted, i.count);
      grows = omega (arith, c.address_of_step.ensures.counted, i.grows);
      at_least = λ lt. omega (arith, c.address_of_step.ensures.counted, i.grows);
      at_most =
          omega (
            arith,
            c.address_of_step.ensures.counted,
            i.at_most,
            halved (middle - low) (high - low) (omega arith) (omega arith),
          );
    }
