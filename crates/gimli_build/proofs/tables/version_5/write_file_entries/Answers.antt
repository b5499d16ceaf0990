use Rattle.gimli_build.proofs
use proofs.Common
use Common.{take_all, All-nil, All-push, FitsFile}
use proofs.writing.Joined.{next_at, taken_at, contains-at}
use proofs.writing.Writes.{none_written, one_written, one_unwritten, passed_on}
use proofs.tables.version_5.write_file_entries.Goals as goal

pub write_file_entry-requires-clause-there : goal.write_file_entry-requires-clause-there
write_file_entry-requires-clause-there g c =
    contains-at _ _ _ (rw (c.tables-tables.ensures.files, c.program.ensures.program) at c.file-file.ensures)

pub loop-index-init : goal.loop-index-init
loop-index-init g c = record { so = none_written _ _ _ _; fit = All-nil _ }

pub returns-in_err-write_file_entry-clause-writes : goal.returns-in_err-write_file_entry-clause-writes
returns-in_err-write_file_entry-clause-writes g c =
    let there = rw (c.tables-tables.ensures.files, c.program.ensures.program) at c.file-file.ensures in
    let so = rw (next_at _ _ _ there) at c.loop-index.invariant.so in
    let refused = rw c.loop-index.invariant.so.ordered at c.in_err-write_file_entry.ensures.writes in
    passed_on c.from_residual.ensures.1 (one_unwritten so refused)

pub loop-index-preserved : goal.loop-index-preserved
loop-index-preserved g c =
    let there = rw (c.tables-tables.ensures.files, c.program.ensures.program) at c.file-file.ensures in
    let so = rw (next_at _ _ _ there) at c.loop-index.invariant.so in
    record {
      so = one_written so (rw c.loop-index.invariant.so.ordered at c.in_ok-write_file_entry.ensures.writes);
      fit = rw (taken_at _ _ _ there)
          (All-push FitsFile _ _ c.loop-index.invariant.fit c.in_ok-write_file_entry.ensures.fit);
    }

pub returns-clause-fit : goal.returns-clause-fit
returns-clause-fit g c =
    let end = rw (
      c.file_count-index-end.ensures.count,
      c.tables-tables.ensures.files,
      c.program.ensures.program,
    ) at c.loop-index-test.false in
    rw (take_all _ _ end) at c.loop-index.invariant.fit
