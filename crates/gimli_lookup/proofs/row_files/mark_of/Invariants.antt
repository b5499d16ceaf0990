use Rattle.std.proofs.Common.{take}
use Rattle.gimli_lookup.specs.RowFiles.{have_file, AreMarked}
use Rattle.gimli_lookup.proofs.row_files.mark_of.Given as goal

abbrev pub invariant-loop-rows : goal.invariant-loop-rows
invariant-loop-rows l = AreMarked (have_file (take l.rows-index l.sequences)) l.initial.marks l.marks
