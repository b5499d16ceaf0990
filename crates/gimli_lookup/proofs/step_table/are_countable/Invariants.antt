use Rattle.std.proofs.Common.{◌≡◌, ◌+◌, ◌<◌, ◌^◌, length, take}
use Rattle.std.specs.Prelude.{sum_by}
use Rattle.gimli_lookup.proofs.step_table.are_countable.Given as goal

abbrev pub invariant-loop-rows : goal.invariant-loop-rows
invariant-loop-rows l = record {
  count : l.count ≡ 2 ^ 8 + sum_by length (take l.rows-index l.sequences);
  fits : l.count < 2 ^ 64;
}
