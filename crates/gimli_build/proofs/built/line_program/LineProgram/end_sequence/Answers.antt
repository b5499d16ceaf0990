use Rattle.gimli_build.proofs
use proofs.Common.{sym, subst, CanEndSequence}
use proofs.building.TableLemmas.{item_pushed}
use proofs.built.line_program.LineProgram.end_sequence.Goals as goal

pub invariant_of-self-2 : goal.invariant_of-self-2
invariant_of-self-2 c =
    let can = subst (λ p. CanEndSequence p c.args.address_offset) (sym c.self.view_is) c.requires.can in
    rw c.in_ok-push.ensures.ok (item_pushed _ _ c.self.invariant can)
