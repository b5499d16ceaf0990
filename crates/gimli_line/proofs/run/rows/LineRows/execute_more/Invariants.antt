use Rattle.std.specs.Prelude.{◌≡◌}
use Rattle.gimli_line.proofs
use proofs.Common.{length, ReadsOn}
use proofs.Steps.{with_rest}
use proofs.run.rows.LineRows.execute_more.Given as goal

abbrev pub invariant-common : goal.invariant-common
invariant-common g l = record {
  program : l.self-inside.program ≡ l.initial.self-inside.program;
  reads : ReadsOn (record l.fn.self { unread = l.fn.start }) (with_rest l.fn.self l.self-inside.row l.instructions);
}

abbrev pub decreases-common : goal.decreases-common
decreases-common g l = length l.instructions.bytes
