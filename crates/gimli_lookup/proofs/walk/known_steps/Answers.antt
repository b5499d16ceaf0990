use Rattle.std.proofs.Common.{◌-◌, ◌<◌, length, arith}
use Rattle.gimli_lookup.proofs.walk.known_steps.Goals as goal

pub returns-clause-before : goal.returns-clause-before
returns-clause-before c = λ k d lt.
    let last = c.args.near - 1 in
    let inside : last < length c.args.steps.now = omega (arith, c.if-near-eq0.false, c.if-steps-near.false) in
    omega
    (arith, c.requires.order k last d (omega arith) inside, c.address_of_step.ensures d, c.if-a-address_of_step.false)
