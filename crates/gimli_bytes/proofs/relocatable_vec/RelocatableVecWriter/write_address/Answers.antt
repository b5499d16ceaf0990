use Rattle.gimli_bytes.proofs
use proofs.Common.{refl}
use proofs.Parts.{begins_self}
use proofs.WrittenAs.{no_truth}
use proofs.Completing.{either, on_ok, on_err, grows_address, completed_address}
use proofs.RelocatableRefusals.{if_err, address_refused, placed_refused}
use proofs.relocatable_vec.RelocatableVecWriter.write_address.Goals as goal

pub returns : goal.returns
returns g c =
    let v = c.args.self.now in
    let w = c.write_address.new.self in
    let r = c.write_address.result in
    let e = c.write_address.ensures in
    record {
      keeps = either r e.ok e.err (λ is. (grows_address v w c.args.address c.args.size is).begins) (λ same.
          rw same (begins_self v.bytes));
      ordered =
          either r e.ok e.err (λ is. (grows_address v w c.args.address c.args.size is).big_is) (λ same. rw same refl);
      stays = λ inside.
          either r e.ok e.err (λ is. (grows_address v w c.args.address c.args.size is).stays inside) (λ same.
          rw same inside);
      unrefused = λ unrefused. on_ok r (λ is. refl) e.ok;
      ok = λ keeps. absurd (no_truth keeps);
      completed = λ at inside. on_ok r (λ is. completed_address at v w c.args.address c.args.size inside is) e.ok;
      err = λ memory. absurd (no_truth memory);
      own = if_err r (address_refused v c.args.address c.args.size) e.cause;
      completed_own = λ at inside. if_err r (placed_refused at v c.args.address c.args.size) e.cause;
      untouched = λ keeps. absurd (no_truth keeps);
      none = λ all. on_err r (λ same. rw same refl) e.err;
    }
