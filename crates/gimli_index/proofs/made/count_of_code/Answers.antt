use Rattle.std.proofs.Common.{◌∙◌, sym, arith}
use Rattle.gimli_lookup.specs.Section.{rows_of}
use Rattle.gimli_index.proofs.TurnSteps.{code_ended, code_open}
use Rattle.gimli_index.proofs.made.count_of_code.Goals as goal

pub returns-then-end_sequence-clause-code : goal.returns-then-end_sequence-clause-code
returns-then-end_sequence-clause-code c =
    code_ended (rows_of c.args.rows) c.in-Some.last c.row.result (omega (arith, c.len.ensures, c.in-Some.ensures))
    c.row.ensures
    (sym c.end_sequence.ensures ∙ c.if-end_sequence.true)

pub returns-else-end_sequence-clause-code : goal.returns-else-end_sequence-clause-code
returns-else-end_sequence-clause-code c =
    code_open (rows_of c.args.rows) c.in-Some.last c.row.result (omega (arith, c.len.ensures, c.in-Some.ensures))
    c.row.ensures
    (sym c.end_sequence.ensures ∙ c.if-end_sequence.false)
