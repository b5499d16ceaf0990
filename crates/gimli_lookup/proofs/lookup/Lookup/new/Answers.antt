use Rattle.std.proofs.Common.{map}
use Rattle.std.proofs.lemmas.Result.{err_from_is_err_and}
use Rattle.gimli_line.specs.run.Sequences.{sequence_of}
use Rattle.gimli_lookup.proofs.KeptCut.{are_cut}
use Rattle.gimli_lookup.proofs.KeptRows.{are_joined}
use Rattle.gimli_lookup.proofs.lookup.Lookup.new.Goals as goal

pub returns-in_err-rows-clause-err : goal.returns-in_err-rows-clause-err
returns-in_err-rows-clause-err g c =
    let p = err_from_is_err_and c.from_residual-in_err-rows.result c.from_residual-in_err-rows.ensures.1 in
    rw (p.1, p.2) (λ other. absurd (other c.in_err-rows.ensures.err))

pub invariant_of-result : goal.invariant_of-result
invariant_of-result g c = rw c.as_slice.ensures.value at c.in_ok-table.ensures.ok

pub returns-clause-each : goal.returns-clause-each
returns-clause-each g c = rw c.in_ok-rows.ensures.ok c.in_ok-program.ensures.each

pub returns-clause-joined : goal.returns-clause-joined
returns-clause-joined g c =
    are_joined c.args.program.layout c.args.program.meaning c.in_ok-program.program.meaning
    (map sequence_of c.in_ok-program.sequences.items)
    c.in_ok-rows.rows.items
    c.in_ok-program.ensures.ok (returns-clause-each g c)

pub returns-clause-cut : goal.returns-clause-cut
returns-clause-cut g c =
    are_cut c.args.program.layout c.args.program.meaning c.in_ok-program.program.meaning
    (map sequence_of c.in_ok-program.sequences.items) c.in_ok-rows.rows.items
    c.in_ok-program.ensures.ok (returns-clause-each g c)
