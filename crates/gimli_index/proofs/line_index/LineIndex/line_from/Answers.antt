use Rattle.std.proofs.Common.{◌∙◌, sym, arith}
use Rattle.gimli_index.specs.Meaning.{statement_at}
use Rattle.gimli_index.specs.Views.{index_of}
use Rattle.gimli_index.proofs.Ordered.{of_lower_line, of_other_file, of_this}
use Rattle.gimli_index.proofs.line_index.LineIndex.line_from.Goals as goal

pub returns-then-line-asked-clause-line : goal.returns-then-line-asked-clause-line
returns-then-line-asked-clause-line c =
    of_lower_line c.args.path.now (statement_at (index_of c.args.self.now) c.args.number) c.args.asked
    (omega (arith, c.statement_line-line.ensures.line, c.if-line-asked.true))

pub returns-then-not-is_named-clause-line : goal.returns-then-not-is_named-clause-line
returns-then-not-is_named-clause-line c = λ l from.
    of_other_file c.args.path.now (statement_at (index_of c.args.self.now) c.args.number) l
    (sym c.is_named.ensures ∙ c.if-not-is_named.true)

pub returns-clause-line : goal.returns-clause-line
returns-clause-line c = (
  c.if-line-asked.false,
  of_this c.args.path.now (statement_at (index_of c.args.self.now) c.args.number) c.statement_line-line.result
      (sym c.is_named.ensures ∙ c.if-not-is_named.false) (sym c.statement_line-line.ensures.line),
)
