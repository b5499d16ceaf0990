use Rattle.gimli_build.proofs
use proofs.writing.Writes.{first_unwritten, joins, passed_on}
use proofs.tables.version_5.write_file_table.Goals as goal

pub returns-clause-writes : goal.returns-clause-writes
returns-clause-writes g c =
    let formats = rw (
      c.file_formats-formats.ensures,
      c.file_count-files.ensures.count,
      c.tables-2.ensures.files,
      c.program-program.ensures.program,
    )
    at
    c.in_ok-write_formats.ensures in
    joins formats (rw formats.ordered at c.write_file_entries.ensures.writes)

pub returns-in_err-write_formats-clause-writes : goal.returns-in_err-write_formats-clause-writes
returns-in_err-write_formats-clause-writes g c = passed_on c.from_residual.ensures.1 (first_unwritten _ (rw (
  c.file_formats-formats.ensures,
  c.file_count-files.ensures.count,
  c.tables-2.ensures.files,
  c.program-program.ensures.program,
) at c.in_err-write_formats.ensures))
