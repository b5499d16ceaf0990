use Rattle.gimli_write.proofs
use proofs.Common.{err_from_is_err_and, beside}
use proofs.Outcomes.{rest_converts, rest_refused}
use proofs.convert.conversion.convert_all.Goals as goal

pub returns-in_err-feed_all-clause-err : goal.returns-in_err-feed_all-clause-err
returns-in_err-feed_all-clause-err g c =
    let p = err_from_is_err_and c.from_residual.result c.from_residual.ensures.1 in
    rw (p.1, p.2)
    (rest_refused (goal.F-post g c.args.convert_address) (beside c.args.line_strings.now c.args.conversion)
    c.in_err-feed_all.field-0.0 c.in_err-feed_all.ensures.err)

pub returns-clause-ok : goal.returns-clause-ok
returns-clause-ok g c =
    rest_converts (goal.F-post g c.args.convert_address) _ _ _
    (rw (c.into_program.ensures.program, c.into_program.ensures.files) c.in_ok-feed_all.ensures.ok)

pub returns-clause-writable : goal.returns-clause-writable
returns-clause-writable g c = λ can. rw c.into_program.ensures.program
    (record { can = λ strings. c.in_ok-feed_all.ensures.writable.still strings (can.can strings) })
