use Rattle.std.proofs.Common.{take}
use Rattle.gimli_lookup.specs.inside.UnitSearch.{AreClear}
use Rattle.gimli_lookup.proofs.covering_pairs.clear_from.Given as goal

abbrev pub invariant-loop-a : goal.invariant-loop-a
invariant-loop-a l = AreClear (take l.a-index l.addresses) l.from l.clear
