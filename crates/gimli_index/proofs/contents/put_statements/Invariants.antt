use Rattle.std.proofs.Common.{◌≡◌, ◌<◌, ◌++◌, ℕ, take, get_or}
use Rattle.std.specs.Prelude.{flat_map}
use Rattle.gimli_index.specs.Contents.{statement_bytes, FitsStatement}
use Rattle.gimli_index.specs.declared.contents.Statement.{Statement}
use Rattle.gimli_index.proofs.contents.put_statements.Given as goal

abbrev pub invariant-loop-statement : goal.invariant-loop-statement
invariant-loop-statement l = record {
  bytes : l.out.items
      ≡ l.initial.out.items ++ flat_map (statement_bytes l.size l.base) (take l.statement-index l.statements);
  fits : (k : ℕ) (d : Statement) → k < l.statement-index
      → FitsStatement l.size l.base (get_or l.statements k d);
}
