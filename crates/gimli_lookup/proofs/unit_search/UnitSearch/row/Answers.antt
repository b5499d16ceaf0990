use Rattle.std.proofs.Common.{true, false, sym}
use Rattle.gimli_lookup.specs.inside.SequenceCut.{with_place}
use Rattle.gimli_lookup.proofs.UnitSearches.{row_taken}
use Rattle.gimli_lookup.proofs.unit_search.UnitSearch.row.Goals as goal

pub returns-then-not-end_sequence-clause-ok : goal.returns-then-not-end_sequence-clause-ok
returns-then-not-end_sequence-clause-ok c = λ unit cut sees.
    row_taken unit c.args.addresses.now cut c.args.row.now c.place.new.self false (sym c.if-not-end_sequence.ensures)
    (c.in_ok-place.ensures.ok unit cut sees)

pub returns-clause-ok : goal.returns-clause-ok
returns-clause-ok c = λ unit cut sees.
    row_taken unit c.args.addresses.now cut c.args.row.now c.end_sequence-2.new.self true
    (sym c.if-not-end_sequence.ensures)
    (c.end_sequence-2.ensures unit c.args.addresses.now (with_place c.args.row.now cut)
    (c.in_ok-place.ensures.ok unit cut sees))
