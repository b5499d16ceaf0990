use Rattle.std.specs.Prelude.{◌≡◌, ◌<◌, ◌∷◌}
use Rattle.gimli_bytes.proofs.Common.{ℕ, Bool, true, false, [], ap, arith, number_bytes}
use Rattle.gimli_bytes.proofs.writer.Writer.write_u8_at.Goals as goal

one_byte : (is_big : Bool) (n : ℕ) → n < 256 → number_bytes is_big 1 n ≡ n ∷ []
one_byte true n fits = ap (λ (k : ℕ). k ∷ []) (omega arith)
one_byte false n fits = ap (λ (k : ℕ). k ∷ []) (omega arith)

pub returns : goal.returns
returns g c = rw (one_byte (g.Self.Sink.is_big c.args.self.now) c.args.val (omega arith)) c.write_at.ensures
