use Rattle.gimli_build.proofs
use proofs.writing.Writes.{joins}
use proofs.tables.version_5.write_version_5_tables.Goals as goal

pub returns-clause-writes : goal.returns-clause-writes
returns-clause-writes g c = joins c.in_ok-write_directory_table.ensures
    (rw c.in_ok-write_directory_table.ensures.ordered at c.write_file_table.ensures.writes)
