use Rattle.gimli_line.proofs
use proofs.Common.{err_from_is_err_and, path_of}
use proofs.Tables.{table_up_to_4, table_4_end, formats_end, table_from_5, table_5_end}
use proofs.header.tables.parse_directory_table.Goals as goal

pub returns-in_err-directories-clause-read : goal.returns-in_err-directories-clause-read
returns-in_err-directories-clause-read g c =
    let p = err_from_is_err_and c.from_residual.result c.from_residual.ensures.1 in
    rw (p.1, p.2) (λ other.
    table_4_end _ path_of _ _ _ _ c.if-encoding-le4.true (c.in_err-directories.ensures.read other))

pub returns-then-encoding-le4-clause-read : goal.returns-then-encoding-le4-clause-read
returns-then-encoding-le4-clause-read g c =
    table_up_to_4 _ path_of _ _ _ _ _ _ c.if-encoding-le4.true c.new.ensures.items c.in_ok-directories.ensures.read

pub returns-in_err-formats-clause-read : goal.returns-in_err-formats-clause-read
returns-in_err-formats-clause-read g c =
    let p = err_from_is_err_and c.from_residual-in_err-formats.result c.from_residual-in_err-formats.ensures.1 in
    rw (p.1, p.2) (λ other. formats_end _ path_of _ _ _ _ c.if-encoding-le4.false (c.in_err-formats.ensures.read other))

pub returns-in_err-directories-2-clause-read : goal.returns-in_err-directories-2-clause-read
returns-in_err-directories-2-clause-read g c =
    let p = err_from_is_err_and c.from_residual-in_err-directories-2.result
    c.from_residual-in_err-directories-2.ensures.1 in
    rw (p.1, p.2) (λ other.
    table_5_end _ path_of _ _ _ _ _ _ _ _ c.if-encoding-le4.false c.in_ok-formats.ensures.read
    c.parse_formats.ensures.order c.deref.ensures.value _
    (c.in_err-directories-2.ensures.read other))

pub returns-clause-read : goal.returns-clause-read
returns-clause-read g c = table_from_5 _ path_of _ _ _ _ _ _ _ _ c.if-encoding-le4.false c.in_ok-formats.ensures.read
    c.parse_formats.ensures.order c.deref.ensures.value _ _
    c.in_ok-directories-2.ensures.read
