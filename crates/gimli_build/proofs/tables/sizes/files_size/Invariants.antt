use Rattle.std.specs.Prelude.{◌≡◌, ◌-◌, ◌^◌}
use Rattle.gimli_build.proofs
use proofs.Common.{take, min, sum_by, file_size}
use proofs.tables.sizes.files_size.Given as goal

abbrev pub invariant-loop-index : goal.invariant-loop-index
invariant-loop-index l = l.size ≡ min (sum_by (file_size l.format) (take l.index l.tables.files)) (2 ^ 64 - 1)
