use Rattle.std.specs.Prelude.{◌<◌, ◌^◌}
use Rattle.gimli_bytes.proofs
use proofs.Common.{refl, inl, arith, w64, cast_signed, OfSection}
use proofs.Parts.{begins_self}
use proofs.Completing.{on_ok, either, grows_offset, completed_offset}
use proofs.RelocatableRefusals.{if_err, place_refused}
use proofs.relocatable_vec.RelocatableVecWriter.write_offset.Goals as goal

pub returns : goal.returns
returns g c =
    let v = c.args.self.now in
    let w = c.write_offset.new.self in
    let r = c.write_offset.result in
    let e = c.write_offset.ensures in
    let small : c.args.val < 2 ^ 64 = omega arith in
    record {
      keeps = grind (arith, grows_offset, begins_self);
      ordered = grind (arith);
      stays = λ inside.
          either r e.ok e.err (λ is. (grows_offset v w c.args.section c.args.val c.args.size is).stays inside) (λ same.
          rw same inside);
      unrefused = λ unrefused. on_ok r (λ is. refl) e.ok;
      ok = grind (arith);
      completed = grind (arith, completed_offset);
      err = grind (arith);
      own = if_err r
          (λ d is. inl (place_refused v (OfSection c.args.section) (cast_signed w64 c.args.val) c.args.size d is))
          e.cause;
      completed_own = λ at inside. if_err r
          (λ d is. inl (place_refused v (OfSection c.args.section) (cast_signed w64 c.args.val) c.args.size d is))
          e.cause;
      untouched = grind (arith);
      none = grind (arith);
    }
