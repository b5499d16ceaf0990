use Rattle.gimli_core.proofs.Taken.{read_of}
use Rattle.std.proofs.lemmas.Result.{err_from_is_err_and}
use Rattle.gimli_compilation.proofs.Specifications.{passed_is_listed}
use Rattle.gimli_compilation.proofs.Declarations.{declared_done, declared_fault}
use Rattle.gimli_compilation.proofs.abbreviation.parse_declaration.Goals as goal

pub returns-in_err-pass_specifications-clause-read : goal.returns-in_err-pass_specifications-clause-read
returns-in_err-pass_specifications-clause-read g c =
    let p =
    err_from_is_err_and c.from_residual-in_err-pass_specifications.result
    c.from_residual-in_err-pass_specifications.ensures.1 in
    rw (p.1, p.2) (declared_fault _ _ _ _ _ (read_of c.in_ok-read_uleb128.ensures) (read_of c.in_ok-read_u8.ensures) _ _
    c.in_err-pass_specifications.ensures.read)

pub returns-clause-read : goal.returns-clause-read
returns-clause-read g c =
    declared_done _ _ _ _ _ (read_of c.in_ok-read_uleb128.ensures) (read_of c.in_ok-read_u8.ensures) _
    c.in_ok-pass_specifications.ensures.read

pub returns-clause-listed : goal.returns-clause-listed
returns-clause-listed g c = passed_is_listed _ _ c.in_ok-pass_specifications.ensures.read
