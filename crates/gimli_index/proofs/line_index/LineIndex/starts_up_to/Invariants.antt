use Rattle.std.proofs.Common.{◌-◌}
use Rattle.gimli_index.specs.Views.{index_of}
use Rattle.gimli_index.specs.inside.Numbers.{CountIsBetween}
use Rattle.gimli_index.proofs.line_index.LineIndex.starts_up_to.Given as goal

abbrev pub invariant-loop-low : goal.invariant-loop-low
invariant-loop-low l = CountIsBetween (index_of l.self) l.number l.low l.high

abbrev pub decreases-loop-low : goal.decreases-loop-low
decreases-loop-low l = l.high - l.low
