use Rattle.gimli_index.specs.Views.{index_of}
use Rattle.gimli_index.specs.inside.Order.{RanksRise}
use Rattle.gimli_index.proofs.line_index.LineIndex.statements_ascend.Given as goal

abbrev pub invariant-loop-number : goal.invariant-loop-number
invariant-loop-number l = RanksRise (index_of l.self) l.number
