use Rattle.gimli_build.proofs
use proofs.writing.Writes.{first_unwritten, joins, passed_on}
use proofs.tables.version_4.write_version_4_tables.Goals as goal

pub returns-clause-writes : goal.returns-clause-writes
returns-clause-writes g c =
    let first = rw c.directories.ensures at c.in_ok-write_directories.ensures in
    joins first c.write_files.ensures.writes

pub returns-in_err-write_directories-clause-writes : goal.returns-in_err-write_directories-clause-writes
returns-in_err-write_directories-clause-writes g c = passed_on c.from_residual.ensures.1
    (first_unwritten _ (rw c.directories.ensures at c.in_err-write_directories.ensures))
