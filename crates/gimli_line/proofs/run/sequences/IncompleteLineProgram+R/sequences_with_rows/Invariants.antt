use Rattle.gimli_line.proofs
use proofs.Common.{length, source_of}
use proofs.SequenceLaws.{IsSplit, Keeping}
use proofs.run.sequences.IncompleteLineProgram+R.sequences_with_rows.Given as goal

abbrev pub invariant-run : goal.invariant-run
invariant-run g l = IsSplit (Keeping l.fn.self.meaning l.split l.kept) l.fn.self.meaning
    (source_of g.R.Reader.seen g.R.Offset.ReaderOffset.number l.fn.self) l.run

abbrev pub decreases-run : goal.decreases-run
decreases-run g l = length l.run.unread.bytes
