use Rattle.std.proofs.Common.{◌∙◌, arith}
use Rattle.gimli_index.proofs.LineStatements.{none_left}
use Rattle.gimli_index.proofs.addresses.Addresses.next_place.Goals as goal

pub returns-in-Some-clause-left : goal.returns-in-Some-clause-left
returns-in-Some-clause-left c = c.loop-number.invariant ∙ c.in-Some.ensures

pub loop-number-preserved : goal.loop-number-preserved
loop-number-preserved c = c.loop-number.invariant ∙ c.in_default.ensures

pub returns-clause-left : goal.returns-clause-left
returns-clause-left c =
    c.loop-number.invariant ∙ none_left c.args.self.now c.loop-number.number (omega arith)
