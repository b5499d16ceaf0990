use Rattle.std.specs.Prelude.{◌≡◌, ◌-◌, ◌^◌}
use Rattle.gimli_build.proofs
use proofs.Common.{take, min, sum_by, entry_size, StringTables}
use proofs.tables.sizes.entries_size.Given as goal

abbrev pub invariant-loop-index : goal.invariant-loop-index
invariant-loop-index l = (texts : StringTables)
    → l.size ≡ min (sum_by (entry_size l.program texts) (take l.index l.program.files)) (2 ^ 64 - 1)
