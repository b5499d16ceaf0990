use Rattle.std.proofs.Common.{arith}
use Rattle.gimli_index.proofs.Ascending.{count_above, count_below}
use Rattle.gimli_index.proofs.line_index.LineIndex.starts_up_to.Goals as goal

pub loop-low-preserved-then-start_number-number : goal.loop-low-preserved-then-start_number-number
loop-low-preserved-then-start_number-number c =
    count_above c.loop-low.invariant (omega arith) (omega arith)
    (omega (arith, c.start_number.ensures.number))

pub loop-low-preserved : goal.loop-low-preserved
loop-low-preserved c =
    count_below c.loop-low.invariant (omega arith) (omega arith)
    (omega (arith, c.start_number.ensures.number))
