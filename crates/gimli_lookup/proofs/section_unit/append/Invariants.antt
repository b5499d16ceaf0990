use Rattle.std.proofs.Common.{◌≡◌, ◌++◌}
use Rattle.gimli_lookup.proofs.section_unit.append.Given as goal

abbrev pub invariant-loop-rows : goal.invariant-loop-rows
invariant-loop-rows l = l.to.items ≡ l.initial.to.items ++ l.yielded
