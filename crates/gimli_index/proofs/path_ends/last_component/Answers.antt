use Rattle.std.proofs.Common.{◌≡◌, ◌∙◌, sym, arith}
use Rattle.gimli_index.proofs.LastComponents.{parted}
use Rattle.gimli_index.proofs.PathStarts.{one_component}
use Rattle.gimli_index.proofs.path_ends.last_component.Goals as goal

pub returns-then-is_separator-clause-last : goal.returns-then-is_separator-clause-last
returns-then-is_separator-clause-last c =
    λ before.
    parted c.args.text.now c.loop-first.first c.loop-first-test.true c.loop-first.invariant.within
    (sym c.is_separator.ensures ∙ c.if-is_separator.true)
    c.loop-first.invariant.none before

pub returns-clause-last : goal.returns-clause-last
returns-clause-last c =
    λ before.
    let none : c.loop-first.first ≡ 0 = omega (arith, c.loop-first-test.false) in
    one_component c.args.text.now c.loop-first.first none c.loop-first.invariant.none before
