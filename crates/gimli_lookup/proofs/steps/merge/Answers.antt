use Rattle.std.proofs.Common.{◌<◌, length, None, get_or, refl, ap, arith}
use Rattle.std.proofs.lemmas.List.{get_or_default}
use Rattle.gimli_lookup.specs.declared.steps.Step.{Step}
use Rattle.gimli_lookup.proofs.Merging.{walk_left, walk_right}
use Rattle.gimli_lookup.proofs.steps.merge.Goals.{then-is_left_next, else-is_left_next}
use Rattle.gimli_lookup.proofs.steps.merge.Goals as goal

pub loop-preserved : goal.loop-preserved
loop-preserved c = elim c.if-is_left_next.branch [
  | then-is_left_next w ↦
      let l = c.loop in
      let left = c.args.left.now in
      let lt : l.next_left < length left = w.if-is_left_next.ensures.left refl in
      let s = get_or left l.next_left (record { from = 0; sequence = None }) in
      let walked =
      walk_left left c.args.right.now l.merged.items l.next_left l.next_right l.by_left l.by_right l.from
      l.invariant.walked s c.requires.left_order
      c.requires.right_order lt
      (get_or_default left l.next_left s (record { from = 0; sequence = None }) lt)
      (λ r d. let first = w.if-is_left_next.ensures.left_first refl r d in
      let same = ap (λ (t : Step).
      t.from) (get_or_default left l.next_left d (record { from = 0; sequence = None }) lt) in omega arith) in
      record {
        walked =
            rw (
              c.in_ok-push_step.ensures.ok,
              c.or.ensures,
              w.next_left-is,
              w.next_right-is,
              w.by_left-is,
              w.by_right-is,
              w.from-is,
            )
            walked;
        count = omega (arith, w.next_left-is, w.next_right-is, l.invariant.count);
      }
  | else-is_left_next w ↦
      let l = c.loop in
      let right = c.args.right.now in
      let lt : l.next_right < length right = w.if-is_left_next.ensures.right refl in
      let s = get_or right l.next_right (record { from = 0; sequence = None }) in
      let walked =
      walk_right c.args.left.now right l.merged.items l.next_left l.next_right l.by_left l.by_right l.from
      l.invariant.walked s c.requires.left_order
      c.requires.right_order lt
      (get_or_default right l.next_right s (record { from = 0; sequence = None }) lt)
      (λ r d. let first = w.if-is_left_next.ensures.right_first refl r d in
      let same = ap (λ (t : Step).
      t.from) (get_or_default right l.next_right d (record { from = 0; sequence = None }) lt) in omega arith) in
      record {
        walked =
            rw (
              c.in_ok-push_step.ensures.ok,
              c.or.ensures,
              w.next_left-is,
              w.next_right-is,
              w.by_left-is,
              w.by_right-is,
              w.from-is,
            )
            walked;
        count = omega (arith, w.next_left-is, w.next_right-is, l.invariant.count);
      }
]
