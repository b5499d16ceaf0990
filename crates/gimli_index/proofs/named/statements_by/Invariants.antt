use Rattle.std.proofs.Common.{◌≡◌, map, take}
use Rattle.gimli_index.specs.inside.Kept.{statement_by}
use Rattle.gimli_index.proofs.named.statements_by.Given as goal

abbrev pub invariant-loop-statement : goal.invariant-loop-statement
invariant-loop-statement l = l.made.items ≡ map (statement_by l.numbers) (take l.statement-index l.statements)
