use Rattle.std.proofs.Common.{arith}
use Rattle.gimli_index.proofs.Ascending.{count_above, count_below}
use Rattle.gimli_index.proofs.line_index.LineIndex.narrowed.Goals as goal

pub returns-then-start_number-number : goal.returns-then-start_number-number
returns-then-start_number-number c =
    count_above c.requires.between c.requires.above c.if-high-at.false
    (omega (arith, c.if-start_number-number.true, c.start_number.ensures.number))

pub returns-else-start_number-number : goal.returns-else-start_number-number
returns-else-start_number-number c =
    count_below c.requires.between c.requires.above c.if-high-at.false
    (omega (arith, c.if-start_number-number.false, c.start_number.ensures.number))
