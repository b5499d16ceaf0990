use Rattle.std.proofs.Common.{◌≡◌, ◌^◌, ◌-◌, length, min, take}
use Rattle.std.specs.Prelude.{sum_by}
use Rattle.gimli_lookup.proofs.row_counts.count_of.Given as goal

abbrev pub invariant-loop-rows : goal.invariant-loop-rows
invariant-loop-rows l = l.count ≡ min (sum_by length (take l.rows-index l.sequences)) (2 ^ 64 - 1)
