use Rattle.std.specs.Prelude.{◌≡◌, ◌<◌, ◌^◌}
use Rattle.gimli_bytes.proofs
use proofs.Common.{refl, ◌∙◌, ap, sym, inl, arith, to_z, of_z, w64, cast_signed, of_z-to_z}
use proofs.Completing.{on_ok, stays_inside_at, completed_offset_at}
use proofs.RelocatableRefusals.{if_err, place_at_refused}
use proofs.relocatable_vec.RelocatableVecWriter.write_offset_at.Goals as goal

pub returns : goal.returns
returns g c =
    let v = c.args.self.now in
    let w = c.write_place_at.new.self in
    let r = c.write_place_at.result in
    let e = c.write_place_at.ensures in
    let n = c.args.val in
    let at = c.args.offset in
    let small : n < 2 ^ 64 = omega arith in
    let call = c.cast_signed-addend in
    let passed : cast_signed w64 n
    ≡ to_z w64 (of_z w64 call.result) = ap (to_z w64)
    (sym (of_z-to_z w64 n small) ∙ ap (of_z w64) (sym call.ensures)) in
    let ok = rw (← passed) at e.ok in
    record {
      len = e.len;
      before = e.before;
      ordered = e.ordered;
      stays = grind (arith, stays_inside_at);
      unrefused = λ unrefused. on_ok r (λ is. refl) e.ok;
      refused = grind (arith);
      ok = grind (arith);
      completed = grind (arith, completed_offset_at);
      err = grind (arith);
      own = if_err r (λ d is. inl (place_at_refused v at _ _ c.args.size d is)) e.cause;
      completed_own = λ places inside. if_err r (λ d is. inl (place_at_refused v at _ _ c.args.size d is)) e.cause;
    }
