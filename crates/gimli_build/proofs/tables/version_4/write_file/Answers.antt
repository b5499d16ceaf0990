use Rattle.gimli_build.proofs
use proofs.writing.Writes.{first_unwritten, joins, passed_on}
use proofs.tables.version_4.write_file.Goals as goal

pub returns-clause-writes : goal.returns-clause-writes
returns-clause-writes g c = joins c.in_ok-write_name.ensures c.write_numbers.ensures.writes

pub returns-in_err-write_name-clause-writes : goal.returns-in_err-write_name-clause-writes
returns-in_err-write_name-clause-writes g c =
    passed_on c.from_residual.ensures.1 (first_unwritten _ c.in_err-write_name.ensures)
