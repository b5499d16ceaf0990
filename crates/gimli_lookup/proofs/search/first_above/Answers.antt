use Rattle.std.proofs.Common.{◌<◌, ◌+◌, ◌-◌, ◌/◌, length, arith}
use Rattle.gimli_lookup.proofs.Digits.{halved}
use Rattle.gimli_lookup.proofs.Pairs.{rises}
use Rattle.gimli_lookup.proofs.search.first_above.Goals as goal

pub loop-low-preserved-then-address-a : goal.loop-low-preserved-then-address-a
loop-low-preserved-then-address-a c =
    let low = c.loop-low.low in
    let high = c.loop-low.high in
    let middle = low + (high - low) / 2 in
    let i = c.loop-low.invariant in
    let rows = c.args.rows.now in
    let inside : middle < length rows = omega (arith, i.high) in
    record {
      low = omega arith;
      high = i.high;
      before =
          λ k d lt.
          omega (arith, rises rows k middle d c.requires.order (omega arith) inside, c.address.ensures.address d);
      after = i.after;
      count = omega (arith, c.address.ensures.counted, i.count);
      grows = omega (arith, c.address.ensures.counted, i.grows);
      at_least = λ lt. omega (arith, c.address.ensures.counted, i.grows);
      at_most =
          omega (
            arith,
            c.address.ensures.counted,
            i.at_most,
            halved (high - (middle + 1)) (high - low) (omega arith) (omega arith),
          );
    }

pub loop-low-preserved : goal.loop-low-preserved
loop-low-preserved c =
    let low = c.loop-low.low in
    let high = c.loop-low.high in
    let middle = low + (high - low) / 2 in
    let i = c.loop-low.invariant in
    let rows = c.args.rows.now in
    let inside : middle < length rows = omega (arith, i.high) in
    record {
      low = omega arith;
      high = omega (arith, inside);
      before = i.before;
      after = λ k d le lt. omega (arith, rises rows middle k d c.requires.order le lt, c.address.ensures.address d);
      count = omega (arith, c.address.ensures.counted, i.count);
      grows = omega (arith, c.address.ensures.counted, i.grows);
      at_least = λ lt. omega (arith, c.address.ensures.counted, i.grows);
      at_most =
          omega
          (arith, c.address.ensures.counted, i.at_most, halved (middle - low) (high - low) (omega arith) (omega arith));
    }
