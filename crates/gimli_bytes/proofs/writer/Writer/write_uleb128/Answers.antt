use Rattle.gimli_bytes.proofs
use proofs.Common.{arith}
use proofs.LebLemmas.{uleb_one}
use proofs.ShortestUleb.{uleb_shortest}
use proofs.writer.Writer.write_uleb128.Goals as goal

pub returns-then-val-lt128-clause-shortest : goal.returns-then-val-lt128-clause-shortest
returns-then-val-lt128-clause-shortest g c = uleb_shortest c.args.val (omega arith)

pub returns-then-val-lt128-clause-appends : goal.returns-then-val-lt128-clause-appends
returns-then-val-lt128-clause-appends g c = grind (arith, uleb_one)

pub returns-clause-shortest : goal.returns-clause-shortest
returns-clause-shortest g c = uleb_shortest c.args.val (omega arith)
