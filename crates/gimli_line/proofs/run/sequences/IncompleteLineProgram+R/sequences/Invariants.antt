use Rattle.gimli_line.proofs
use proofs.Common.{length, source_of}
use proofs.SequenceLaws.{IsSplit, Splitting}
use proofs.run.sequences.IncompleteLineProgram+R.sequences.Given as goal

abbrev pub invariant-rows : goal.invariant-rows
invariant-rows g l = IsSplit (Splitting l.fn.self.meaning l.split) l.fn.self.meaning
    (source_of g.R.Reader.seen g.R.Offset.ReaderOffset.number l.fn.self) l.rows

abbrev pub decreases-rows : goal.decreases-rows
decreases-rows g l = length l.rows.unread.bytes
