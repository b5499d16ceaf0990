use Rattle.std.proofs.Common.{◌-◌, ◌<◌, length, sym, get_or, None, arith}
use Rattle.std.proofs.lemmas.List.{get_or_default}
use Rattle.gimli_lookup.proofs.StepLists.{none_before, last_before}
use Rattle.gimli_lookup.proofs.step_table.sequence_at.Goals as goal

pub returns-then-count-eq0-clause-value : goal.returns-then-count-eq0-clause-value
returns-then-count-eq0-clause-value c =
    sym (none_before c.args.a c.args.steps.now (λ k d le lt.
    c.steps_up_to-count.ensures.after k d (omega (arith, c.if-count-eq0.true)) lt))

pub returns-clause-value : goal.returns-clause-value
returns-clause-value c =
    let steps = c.args.steps.now in
    let count = c.steps_up_to-count.result in
    let index = count - 1 in
    let there = c.steps_up_to-count.ensures in
    let some : 0 < count = omega arith in
    let within : index < length steps = omega (arith, there.index) in
    let s = get_or steps index (record { from = 0; sequence = None }) in
    sym (last_before c.args.a steps index s within
    (get_or_default steps index s (record { from = 0; sequence = None }) within)
    (there.before index (record { from = 0; sequence = None }) (omega arith))
    (λ k d le lt. there.after k d (omega arith) lt))
