use Rattle.std.proofs.Common.{take}
use Rattle.gimli_lookup.specs.RowFiles.{has_file, AreMarked}
use Rattle.gimli_lookup.proofs.row_files.mark_in.Given as goal

abbrev pub invariant-loop-index : goal.invariant-loop-index
invariant-loop-index l = AreMarked (has_file (take l.index l.rows)) l.initial.marks l.marks
