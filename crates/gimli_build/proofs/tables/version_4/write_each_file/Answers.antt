use Rattle.gimli_build.proofs
use proofs.Common.{arith, take_all, All-push, FitsFile}
use proofs.writing.Joined.{next_at, taken_at}
use proofs.writing.Writes.{one_written, one_unwritten, passed_on}
use proofs.tables.version_4.write_each_file.Goals as goal

pub returns-in_err-write_file-clause-writes : goal.returns-in_err-write_file-clause-writes
returns-in_err-write_file-clause-writes g c =
    let i = c.loop-index.index in
    let so = rw (next_at _ i _ c.file-directory.ensures) at c.loop-index.invariant.so in
    passed_on c.from_residual.ensures.1 (one_unwritten so c.in_err-write_file.ensures.writes)

pub loop-index-preserved : goal.loop-index-preserved
loop-index-preserved g c =
    let i = c.loop-index.index in
    let so = rw (next_at _ i _ c.file-directory.ensures) at c.loop-index.invariant.so in
    record {
      so = one_written so c.in_ok-write_file.ensures.writes;
      fit = rw (taken_at _ i _ c.file-directory.ensures)
          (All-push FitsFile _ _ c.loop-index.invariant.fit c.in_ok-write_file.ensures.fit);
    }

pub returns-clause-fit : goal.returns-clause-fit
returns-clause-fit g c = grind (arith, take_all)
