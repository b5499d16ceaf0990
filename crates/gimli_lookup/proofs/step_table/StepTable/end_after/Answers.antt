use Rattle.std.proofs.Common.{◌<◌, ℕ, List, Option, length, subst, sym, arith}
use Rattle.std.specs.Prelude.{slice_index_or, IfSome}
use Rattle.gimli_lookup.specs.declared.step_table.Found.{Found}
use Rattle.gimli_lookup.specs.declared.steps.Step.{Step}
use Rattle.gimli_lookup.proofs.StillFound.{IsApart, apart_of, still_found}
use Rattle.gimli_lookup.proofs.step_table.StepTable.end_after.Goals as goal

pub returns-in-Some-clause-found : goal.returns-in-Some-clause-found
returns-in-Some-clause-found c = λ b le before.
    let inner = c.nearer.ensures.first b before in
    let next : b < c.in-Some.found.next.address = omega (arith, c.nearer.ensures.second b before, c.address.ensures) in
    still_found c.args.self.now c.args.sequences.now c.args.a b c.args.found.now c.requires.table le
    (subst
    (λ (steps : List Step). (k : ℕ) (d : Step) → k < length steps
    → IsApart c.args.a b (slice_index_or steps k d).from)
    c.as_slice.ensures.value
    (λ k d lt. apart_of c.args.a b (slice_index_or c.as_slice.result.now k d).from c.next_step-end.result inner
    (c.next_step-end.ensures.clear k d lt)))
    c.requires.order
    (subst (λ (o : Option Found). IfSome o (λ f. b < f.next.address)) (sym c.in-Some.is) next)
    c.requires.found

pub returns-in-None-clause-found : goal.returns-in-None-clause-found
returns-in-None-clause-found c = λ b le before.
    still_found c.args.self.now c.args.sequences.now c.args.a b c.args.found.now c.requires.table le
    (subst
    (λ (steps : List Step). (k : ℕ) (d : Step) → k < length steps
    → IsApart c.args.a b (slice_index_or steps k d).from)
    c.as_slice.ensures.value
    (λ k d lt. apart_of c.args.a b (slice_index_or c.as_slice.result.now k d).from c.next_step-end.result before
    (c.next_step-end.ensures.clear k d lt)))
    c.requires.order
    (subst (λ (o : Option Found). IfSome o (λ f. b < f.next.address)) (sym c.in-None.is) tt)
    c.requires.found
