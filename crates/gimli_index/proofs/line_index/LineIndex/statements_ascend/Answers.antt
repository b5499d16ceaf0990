use Rattle.std.proofs.Common.{arith}
use Rattle.gimli_index.specs.Views.{index_of}
use Rattle.gimli_index.proofs.Ordered.{one_rank_more}
use Rattle.gimli_index.proofs.line_index.LineIndex.statements_ascend.Goals as goal

pub loop-number-preserved : goal.loop-number-preserved
loop-number-preserved c =
    one_rank_more (index_of c.args.self.now) c.loop-number.number (omega arith) c.loop-number.invariant
    (omega (arith, c.if-statement_rank.false))

pub returns-clause-yes : goal.returns-clause-yes
returns-clause-yes c = λ yes j k less inside. c.loop-number.invariant j k less (omega (arith, c.loop-number-test.false))
