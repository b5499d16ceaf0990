use Rattle.std.proofs.Common.{sym}
use Rattle.gimli_lookup.proofs.Cuts.{passes_open, passes_end}
use Rattle.gimli_lookup.proofs.run.PairSearch.after.Goals as goal

pub returns-then-end_sequence : goal.returns-then-end_sequence
returns-then-end_sequence c = λ rows passed.
    passes_end c.args.a rows c.args.row c.args.self c.with_row-search.result c.with_row-search.ensures passed
    c.at_end.result c.at_end.ensures
    (sym c.if-end_sequence.ensures)

pub returns-else-end_sequence : goal.returns-else-end_sequence
returns-else-end_sequence c = λ rows passed.
    passes_open c.args.a rows c.args.row c.args.self c.with_row-search.result c.with_row-search.ensures passed
    (sym c.if-end_sequence.ensures)
