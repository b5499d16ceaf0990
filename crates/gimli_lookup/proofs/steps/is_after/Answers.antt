use Rattle.std.proofs.Common.{◌-◌, length, sym, ap, arith}
use Rattle.std.proofs.lemmas.Bool.{leb-true}
use Rattle.std.proofs.lemmas.Option.{get_or_from_slice_get}
use Rattle.gimli_lookup.specs.declared.steps.Step.{Step}
use Rattle.gimli_lookup.proofs.steps.is_after.Goals as goal

pub returns-in-Some-Some : goal.returns-in-Some-Some
returns-in-Some-Some c = λ t i j d i_within j_within.
    let left = c.args.left.now in
    let right = c.args.right.now in
    let last = c.in-Some-Some.last.now in
    let first = c.in-Some-Some.first.now in
    omega (
      arith,
      leb-true last.from first.from t,
      ap (λ (s : Step). s.from)
          (get_or_from_slice_get left (length left - 1) last d (sym c.in-Some-Some.ensures.value)),
      ap (λ (s : Step). s.from) (get_or_from_slice_get right 0 first d (sym c.in-Some-Some.ensures'.value)),
      c.requires.left_order i (length left - 1) d (omega arith) (omega arith),
      c.requires.right_order 0 j d (omega arith) j_within,
    )
