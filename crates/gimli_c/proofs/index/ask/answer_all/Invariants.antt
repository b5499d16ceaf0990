use Rattle.gimli_c.proofs.Indexes.{AreAnswered}
use Rattle.gimli_c.specs.Indexed.{IsIndexAnswer}
use Rattle.gimli_c.proofs.index.ask.answer_all.Given as goal

abbrev pub invariant-loop-slot : goal.invariant-loop-slot
invariant-loop-slot l =
    AreAnswered (λ asked seen. IsIndexAnswer l.stored asked.address seen) l.slot l.initial.places l.places
