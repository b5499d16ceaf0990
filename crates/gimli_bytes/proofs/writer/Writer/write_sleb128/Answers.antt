use Rattle.gimli_bytes.proofs
use proofs.Common.{arith}
use proofs.LebLemmas.{sleb_one}
use proofs.ShortestSleb.{sleb_shortest}
use proofs.writer.Writer.write_sleb128.Goals as goal

pub returns-then-has_seven_bits-clause-shortest : goal.returns-then-has_seven_bits-clause-shortest
returns-then-has_seven_bits-clause-shortest g c = sleb_shortest _ c.ranges.val

pub returns-then-has_seven_bits-clause-appends : goal.returns-then-has_seven_bits-clause-appends
returns-then-has_seven_bits-clause-appends g c = grind (arith, sleb_one)

pub returns-clause-shortest : goal.returns-clause-shortest
returns-clause-shortest g c = sleb_shortest _ c.ranges.val
