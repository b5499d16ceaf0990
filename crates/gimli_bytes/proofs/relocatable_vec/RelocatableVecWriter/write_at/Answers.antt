use Rattle.gimli_bytes.proofs
use proofs.Common.{inl, refl}
use proofs.WrittenAs.{no_truth}
use proofs.Completing.{either, on_ok, on_err, over_stays, stays_inside, completed_over}
use proofs.RelocatableRefusals.{if_err, bytes_at_refused}
use proofs.relocatable_vec.RelocatableVecWriter.write_at.Goals as goal

pub returns : goal.returns
returns g c =
    let v = c.args.self.now in
    let w = c.write_at.new.self in
    let r = c.write_at.result in
    let e = c.write_at.ensures in
    let x = c.args.bytes.now in
    let at = c.args.offset in
    record {
      len = either r e.ok e.err (λ is. (over_stays v w x at is).len) (λ same. rw same refl);
      before = either r e.ok e.err (λ is. (over_stays v w x at is).before) (λ same. rw same refl);
      ordered = either r e.ok e.err (λ is. (over_stays v w x at is).big_is) (λ same. rw same refl);
      stays = λ inside. either r e.ok e.err (λ is. stays_inside v w x at is inside) (λ same. rw same inside);
      unrefused = λ unrefused. on_ok r (λ is. refl) e.ok;
      refused = on_err r (λ same. rw same refl) e.err;
      ok = λ keeps. absurd (no_truth keeps);
      completed = λ places inside. on_ok r (λ is. completed_over places v w x at inside is) e.ok;
      err = λ memory. absurd (no_truth memory);
      own = if_err r (λ d is. inl (bytes_at_refused v at x d is)) e.cause;
      completed_own = λ places inside. if_err r (λ d is. inl (bytes_at_refused v at x d is)) e.cause;
    }
