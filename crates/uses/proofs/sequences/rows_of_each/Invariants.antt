-- The rows so far, and the runs of the sequences that are left, are the runs of all.
use Rattle.std.proofs.Common.{drop, List, map}
use Rattle.gimli_line.specs.run.Events.{Event}
use Rattle.gimli_line.specs.run.Sequences.{sequence_of, HaveRuns}
use Rattle.uses.proofs.ResumedRows.{AreAdded}
use Rattle.uses.proofs.sequences.rows_of_each.Given as goal

abbrev pub invariant-loop-sequence : goal.invariant-loop-sequence
invariant-loop-sequence g l =
    (runs : List (List Event)) → HaveRuns l.program.meaning (map sequence_of l.sequences) runs
    → AreAdded l.program.meaning (map sequence_of (drop l.sequence-index l.sequences)) l.rows.items runs
