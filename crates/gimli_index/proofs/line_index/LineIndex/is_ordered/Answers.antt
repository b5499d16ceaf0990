use Rattle.gimli_index.specs.Views.{index_of}
use Rattle.gimli_index.proofs.Ordered.{ordered_from, ranks_rise}
use Rattle.gimli_index.proofs.line_index.LineIndex.is_ordered.Goals as goal

pub returns-then-not-names_are_right-clause-no : goal.returns-then-not-names_are_right-clause-no
returns-then-not-names_are_right-clause-no c = λ no ordered.
    c.names_are_right.ensures.no c.if-not-names_are_right.true ordered.names

pub returns-clause-yes : goal.returns-clause-yes
returns-clause-yes c = λ yes.
    ordered_from (index_of c.args.self.now) (c.names_are_right.ensures.yes c.if-not-names_are_right.false)
    (c.statements_ascend.ensures.yes yes)

pub returns-clause-no : goal.returns-clause-no
returns-clause-no c = λ no ordered.
    c.statements_ascend.ensures.no no (ranks_rise (index_of c.args.self.now) ordered)
