use Rattle.gimli_build.proofs
use proofs.Common.{err_from_is_err_and, drop-map, line_text}
use proofs.writing.Writes.{first_unwritten, joins}
use proofs.tables.version_4.write_directories.Goals as goal

pub returns-in_err-write_names : goal.returns-in_err-write_names
returns-in_err-write_names g c =
    let p = err_from_is_err_and c.from_residual.result c.from_residual.ensures.1 in
    rw (p.1, p.2, drop-map line_text 1 c.args.directories.now)
    (first_unwritten _ (rw c.others.ensures at c.in_err-write_names.ensures))

pub returns : goal.returns
returns g c = rw (drop-map line_text 1 c.args.directories.now)
    (joins (rw c.others.ensures at c.in_ok-write_names.ensures) c.write_byte.ensures)
