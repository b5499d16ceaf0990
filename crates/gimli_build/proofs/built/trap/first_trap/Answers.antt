use Rattle.gimli_build.proofs
use proofs.Common
use Common.{arith, take_rest}
use Rattle.std.proofs.lemmas.List.{take_all}
use proofs.building.TrapLemmas.{past_more, at_item, traps_passed, traps_found, traps_end}
use proofs.built.trap.first_trap.Goals as goal

pub loop-index-preserved : goal.loop-index-preserved
loop-index-preserved c = grind (arith, past_more, at_item, take_rest, traps_passed)

pub returns-in-Some-clause-place : goal.returns-in-Some-clause-place
returns-in-Some-clause-place c = grind (arith, past_more, take_rest)

pub returns-in-Some-clause-traps : goal.returns-in-Some-clause-traps
returns-in-Some-clause-traps c = grind (arith, at_item, take_rest, traps_found)

pub returns-clause-place : goal.returns-clause-place
returns-clause-place c = grind (arith, take_all)

pub returns-clause-traps : goal.returns-clause-traps
returns-clause-traps c = grind (arith, traps_end)
