use Rattle.gimli_line.proofs
use proofs.Common.{err_from_is_err_and, file_of_entry}
use proofs.Tables.{table_up_to_4, table_4_end, formats_end, table_from_5, table_5_end}
use proofs.Order.{files_kept}
use proofs.header.tables.parse_file_table.Goals as goal

pub returns-then-encoding-le4-clause-read : goal.returns-then-encoding-le4-clause-read
returns-then-encoding-le4-clause-read g c =
    table_up_to_4 _ file_of_entry _ _ _ _ _ _ c.if-encoding-le4.true c.new.ensures.items c.in_ok-files.ensures.read

pub returns-clause-read : goal.returns-clause-read
returns-clause-read g c =
    table_from_5 _ file_of_entry _ _ _ _ _ _ _ _ c.if-encoding-le4.false c.in_ok-formats.ensures.read
    c.parse_formats.ensures.order c.deref.ensures.value _ _
    c.in_ok-files-2.ensures.read

pub returns-clause-parts : goal.returns-clause-parts
returns-clause-parts g c =
    files_kept g.R.Reader.seen _ _ _ c.parse_formats.ensures.order c.in_ok-files-2.ensures.parts

pub returns-in_err-files-clause-read : goal.returns-in_err-files-clause-read
returns-in_err-files-clause-read g c =
    let p = err_from_is_err_and c.from_residual.result c.from_residual.ensures.1 in
    rw (p.1, p.2) (λ other.
    table_4_end _ file_of_entry _ _ _ _ c.if-encoding-le4.true (c.in_err-files.ensures.read other))

pub returns-in_err-formats-clause-read : goal.returns-in_err-formats-clause-read
returns-in_err-formats-clause-read g c =
    let p = err_from_is_err_and c.from_residual-in_err-formats.result c.from_residual-in_err-formats.ensures.1 in
    rw (p.1, p.2) (λ other.
    formats_end _ file_of_entry _ _ _ _ c.if-encoding-le4.false (c.in_err-formats.ensures.read other))

pub returns-in_err-files-2-clause-read : goal.returns-in_err-files-2-clause-read
returns-in_err-files-2-clause-read g c =
    let p = err_from_is_err_and c.from_residual-in_err-files-2.result c.from_residual-in_err-files-2.ensures.1 in
    rw (p.1, p.2) (λ other.
    table_5_end _ file_of_entry _ _ _ _ _ _ _ _ c.if-encoding-le4.false c.in_ok-formats.ensures.read
    c.parse_formats.ensures.order c.deref.ensures.value _
    (c.in_err-files-2.ensures.read other))
