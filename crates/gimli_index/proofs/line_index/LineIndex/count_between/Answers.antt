use Rattle.std.proofs.Common.{arith}
use Rattle.gimli_index.proofs.Ascending.{all_between, count_above, count_below}
use Rattle.gimli_index.proofs.line_index.LineIndex.count_between.Goals as goal

pub narrowed-requires-clause-between : goal.narrowed-requires-clause-between
narrowed-requires-clause-between c =
    count_above all_between (omega arith) c.even_share-guess.ensures
    (omega (arith, c.if-start_number-number.true, c.start_number.ensures.number))

pub narrowed-requires-else-start_number-number-clause-between :
    goal.narrowed-requires-else-start_number-number-clause-between
narrowed-requires-else-start_number-number-clause-between c =
    count_below all_between (omega arith) c.even_share-guess.ensures
    (omega (arith, c.if-start_number-number.false, c.start_number.ensures.number))
