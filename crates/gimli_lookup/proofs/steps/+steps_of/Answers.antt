use Rattle.std.proofs.Common.{◌≡◌, ◌/◌, ◌+◌, ℕ, List, length, take, drop, sym, Vec, Global, subst, arith}
use Rattle.std.proofs.lemmas.List.{take-append-drop, take_rest, length-take-le}
use Rattle.std.proofs.lemmas.Result.{IfOk-weaker}
use Rattle.gimli_line.specs.declared.run.row.LineRow.{LineRow}
use Rattle.gimli_lookup.specs.declared.steps.Step.{Step}
use Rattle.gimli_lookup.specs.Steps.{AreStepsOf}
use Rattle.gimli_lookup.specs.inside.Steps.{AreJoined}
use Rattle.gimli_lookup.proofs.CoveringPairs.{joined_steps}
use Rattle.gimli_lookup.proofs.steps.+steps_of.Goals as goal

pub returns-clause-ok : goal.returns-clause-ok
returns-clause-ok t c =
    let first = c.args.first in
    let sequences = c.args.sequences.now in
    let middle = length sequences / 2 in
    let left = c.in_ok-left.left.items in
    let right = c.in_ok-right.right.items in
    let size : middle ≡ length (take middle sequences) = sym (length-take-le middle sequences (omega arith)) in
    let of_right : AreStepsOf (first + middle) (drop middle sequences) right =
    subst (λ (xs : List (List LineRow)). AreStepsOf (first + middle) xs right) (take_rest sequences middle)
    c.in_ok-right.ensures.ok in
    let of_right_part : AreStepsOf (first + length (take middle sequences)) (drop middle sequences) right =
    subst (λ (n : ℕ). AreStepsOf (first + n) (drop middle sequences) right) size of_right in
    IfOk-weaker c.join.result (λ (steps : Vec Step Global). AreJoined left right steps.items)
    (λ (steps : Vec Step Global).
    AreStepsOf first sequences steps.items)
    (λ (steps : Vec Step Global) (joined : AreJoined left right steps.items).
    subst (λ (xs : List (List LineRow)). AreStepsOf first xs steps.items) (take-append-drop middle sequences)
    (joined_steps first (take middle sequences) (drop middle sequences) left right steps.items c.in_ok-left.ensures.ok
    of_right_part joined))
    c.join.ensures.ok
