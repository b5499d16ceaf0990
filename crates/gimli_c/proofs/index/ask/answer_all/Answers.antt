use Rattle.std.proofs.Common.{arith}
use Rattle.gimli_c.specs.Indexed.{IsIndexAnswer}
use Rattle.gimli_c.proofs.Indexes.{none_answered, one_more_answered, all_answered}
use Rattle.gimli_c.proofs.index.ask.answer_all.Goals as goal

pub loop-slot-init : goal.loop-slot-init
loop-slot-init c = none_answered (λ asked seen. IsIndexAnswer c.args.stored.now asked.address seen) c.args.places.now

pub loop-slot-preserved : goal.loop-slot-preserved
loop-slot-preserved c =
    one_more_answered (λ asked seen. IsIndexAnswer c.args.stored.now asked.address seen) c.args.places.now
    c.loop-slot.places c.loop-slot.slot
    c.loop-slot.invariant _ _ (omega arith) c.answer_in.ensures

pub returns : goal.returns
returns c =
    all_answered (λ asked seen. IsIndexAnswer c.args.stored.now asked.address seen) c.args.places.now c.loop-slot.places
    c.loop-slot.slot
    c.loop-slot.invariant (omega arith)
