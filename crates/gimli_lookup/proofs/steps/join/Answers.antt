use Rattle.std.proofs.Common.{◌≡◌, ◌++◌, refl, arith}
use Rattle.std.proofs.lemmas.Grind.{common_steps}
use Rattle.gimli_lookup.proofs.StepLists.{are_appended}
use Rattle.gimli_lookup.proofs.steps.join.Goals as goal

pub returns-clause-ok : goal.returns-clause-ok
returns-clause-ok c =
    let joined : c.append.new.self.items ≡ c.args.left.items ++ c.args.right.items = grind (arith, common_steps) in
    let apart = rw (c.as_slice.ensures.value, c.as_slice-2.ensures.value) at (c.if-not-is_after.ensures refl) in
    rw joined (are_appended c.args.left.items c.args.right.items c.requires.left_order c.requires.right_order apart
    c.requires.left_end c.requires.right_end)
