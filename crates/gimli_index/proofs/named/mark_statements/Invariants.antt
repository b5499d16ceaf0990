use Rattle.std.proofs.Common.{take}
use Rattle.gimli_lookup.specs.RowFiles.{AreMarked}
use Rattle.gimli_index.specs.inside.Kept.{statements_name}
use Rattle.gimli_index.proofs.named.mark_statements.Given as goal

abbrev pub invariant-loop-statement : goal.invariant-loop-statement
invariant-loop-statement l =
    AreMarked (statements_name (take l.statement-index l.statements)) l.initial.named l.named
