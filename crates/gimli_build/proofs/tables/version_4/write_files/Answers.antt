use Rattle.gimli_build.proofs
use proofs.writing.Writes.{first_unwritten, joins, passed_on}
use proofs.tables.version_4.write_files.Goals as goal

pub returns-in_err-write_each_file-clause-writes : goal.returns-in_err-write_each_file-clause-writes
returns-in_err-write_each_file-clause-writes g c =
    passed_on c.from_residual.ensures.1 (first_unwritten _ c.in_err-write_each_file.ensures.writes)

pub returns-clause-writes : goal.returns-clause-writes
returns-clause-writes g c = joins c.in_ok-write_each_file.ensures.writes c.write_byte.ensures
