use Rattle.std.proofs.Common.{ap, inl, inr, None, arith}
use Rattle.std.proofs.lemmas.Bool.{cases_lt}
use Rattle.std.proofs.lemmas.List.{get_or_default}
use Rattle.gimli_lookup.specs.declared.steps.Step.{Step}
use Rattle.gimli_lookup.proofs.ends.next_step.Goals as goal

pub returns-clause-clear : goal.returns-clause-clear
returns-clause-clear c = λ k d lt.
    let steps = c.args.steps.now in
    let none : Step = record { from = 0; sequence = None } in
    elim (cases_lt k c.args.index) [
      | inl before ↦ inl (c.requires.before k d before)
      | inr after ↦ inr (λ b below.
          let here = ap (λ (s : Step). s.from) (get_or_default steps k d none lt) in
          omega (arith, below, c.requires.order c.args.index k none after lt, here))
    ]
