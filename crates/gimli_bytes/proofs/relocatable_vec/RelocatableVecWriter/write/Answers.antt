use Rattle.gimli_bytes.proofs
use proofs.Common.{inl, refl}
use proofs.Parts.{begins_self}
use proofs.WrittenAs.{no_truth}
use proofs.Completing.{either, on_ok, on_err, grows_bytes, completed_bytes}
use proofs.RelocatableRefusals.{if_err, bytes_refused}
use proofs.relocatable_vec.RelocatableVecWriter.write.Goals as goal

pub returns : goal.returns
returns g c =
    let v = c.args.self.now in
    let w = c.write.new.self in
    let r = c.write.result in
    let e = c.write.ensures in
    record {
      keeps = either r e.ok e.err (λ is. (grows_bytes v w _ is).begins) (λ same. rw same (begins_self v.bytes));
      ordered = either r e.ok e.err (λ is. (grows_bytes v w _ is).big_is) (λ same. rw same refl);
      stays = λ inside. either r e.ok e.err (λ is. (grows_bytes v w _ is).stays inside) (λ same. rw same inside);
      unrefused = λ unrefused. on_ok r (λ is. refl) e.ok;
      ok = λ keeps. absurd (no_truth keeps);
      completed = λ at inside. on_ok r (λ is. completed_bytes at v w c.args.bytes.now inside is) e.ok;
      err = λ memory. absurd (no_truth memory);
      own = if_err r (λ d is. inl (bytes_refused v _ d is)) e.cause;
      completed_own = λ at inside. if_err r (λ d is. inl (bytes_refused v _ d is)) e.cause;
      untouched = λ keeps. absurd (no_truth keeps);
      none = λ all. on_err r (λ same. rw same refl) e.err;
    }
