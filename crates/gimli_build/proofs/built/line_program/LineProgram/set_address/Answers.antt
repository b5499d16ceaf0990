use Rattle.gimli_build.proofs
use proofs.building.TableLemmas.{item_pushed}
use proofs.built.line_program.LineProgram.set_address.Goals as goal

pub invariant_of-self-2 : goal.invariant_of-self-2
invariant_of-self-2 c = rw c.in_ok-push.ensures.ok (item_pushed _ _ c.self.invariant tt)
