use Rattle.gimli_core.proofs.Taken.{read_of}
use Rattle.std.proofs.lemmas.Result.{err_from_is_err_and}
use Rattle.gimli_compilation.proofs.Declarations.{declaration_done, declaration_fault}
use Rattle.gimli_compilation.proofs.abbreviation.next_declaration.Goals as goal

pub returns-in_err-specifications-clause-read : goal.returns-in_err-specifications-clause-read
returns-in_err-specifications-clause-read g c =
    let p =
    err_from_is_err_and c.from_residual-in_err-specifications.result
    c.from_residual-in_err-specifications.ensures.1 in
    rw (p.1, p.2)
    (declaration_fault _ _ _ (read_of c.in_ok-code.ensures) c.if-code-eq0.false _ _
    c.in_err-specifications.ensures.read)

pub returns-clause-read : goal.returns-clause-read
returns-clause-read g c =
    declaration_done _ _ _ (read_of c.in_ok-code.ensures) c.if-code-eq0.false _ _ c.in_ok-specifications.ensures.read

pub returns-clause-declared : goal.returns-clause-declared
returns-clause-declared g c = (c.if-code-eq0.false, c.in_ok-specifications.ensures.listed)
