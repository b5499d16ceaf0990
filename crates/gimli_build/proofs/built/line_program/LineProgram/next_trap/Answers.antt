use Rattle.std.specs.Prelude.{◌≡◌, ◌+◌, ◌≤◌}
use Rattle.gimli_build.proofs
use proofs.Common
use Common.{ℕ, None, reverse, arith, below_more, take_rest, Built}
use Rattle.gimli_build.specs.Traps.{trap_at, HaveNoTrap}
use proofs.building.TrapLemmas.{past_more, at_item}
use proofs.built.line_program.LineProgram.next_trap.Goals as goal
use proofs.built.line_program.LineProgram.next_trap.Goals.{in-Some+else-index-from, in_default}

none_more : (p : Built) (from i : ℕ) → HaveNoTrap p from i → (from ≤ i → trap_at p i ≡ None) → HaveNoTrap p from (i + 1)
none_more p from i before here k low high = grind (arith, below_more)

pub loop-index-preserved : goal.loop-index-preserved
loop-index-preserved c =
    grind (arith, past_more, at_item, take_rest, reverse, none_more, in-Some+else-index-from, in_default)
