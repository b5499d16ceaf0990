use Rattle.gimli_index.specs.Views.{index_of}
use Rattle.gimli_index.specs.inside.Order.{AreNamesRight}
use Rattle.gimli_index.proofs.line_index.LineIndex.names_are_right.Given as goal

abbrev pub invariant-loop-source : goal.invariant-loop-source
invariant-loop-source l = AreNamesRight (index_of l.self) l.source
