use Rattle.gimli_build.proofs
use proofs.writing.Writes.{bytes_unwritten, joins, passed_on, unwritten, writes}
use proofs.tables.version_5.write_formats.Goals as goal

pub returns-in_err-write_byte : goal.returns-in_err-write_byte
returns-in_err-write_byte g c = passed_on c.from_residual.ensures.1 (bytes_unwritten c.in_err-write_byte.ensures)

pub returns-in_err-write_due_formats : goal.returns-in_err-write_due_formats
returns-in_err-write_due_formats g c = passed_on c.from_residual-in_err-write_due_formats.ensures.1
    (unwritten c.in_ok-write_byte.ensures c.in_err-write_due_formats.ensures)

pub returns : goal.returns
returns g c =
    let first = rw c.requires at c.in_ok-write_byte.ensures in
    let last = c.write_uleb128.ensures.appends in
    let third = writes _ last in
    joins (joins first c.in_ok-write_due_formats.ensures) third
