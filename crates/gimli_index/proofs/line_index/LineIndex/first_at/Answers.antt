use Rattle.std.proofs.Common.{◌<◌, ◌+◌, ◌-◌, ◌/◌, arith}
use Rattle.gimli_index.specs.Views.{index_of}
use Rattle.gimli_index.proofs.Ordered.{are_few, keys_rise, AreFew}
use Rattle.gimli_index.proofs.line_index.LineIndex.first_at.Goals as goal

pub loop-low-preserved-then-statement_key-key : goal.loop-low-preserved-then-statement_key-key
loop-low-preserved-then-statement_key-key c =
    let low = c.loop-low.low in
    let high = c.loop-low.high in
    let middle = low + (high - low) / 2 in
    let i = c.loop-low.invariant in
    let index = index_of c.args.self.now in
    let few : AreFew index = are_few index c.args.self.now.low c.are_bytes.ensures in
    let within : middle < index.statements = omega (arith, i.high) in
    record {
      low = omega arith;
      high = i.high;
      before = λ ordered k lt.
          omega (arith, keys_rise index few ordered k middle (omega arith) within, c.statement_key.ensures);
      after = i.after;
    }

pub loop-low-preserved : goal.loop-low-preserved
loop-low-preserved c =
    let low = c.loop-low.low in
    let high = c.loop-low.high in
    let middle = low + (high - low) / 2 in
    let i = c.loop-low.invariant in
    let index = index_of c.args.self.now in
    let few : AreFew index = are_few index c.args.self.now.low c.are_bytes.ensures in
    record {
      low = omega arith;
      high = omega (arith, i.high);
      before = i.before;
      after = λ ordered k le lt.
          omega (arith, keys_rise index few ordered middle k le lt, c.statement_key.ensures);
    }
