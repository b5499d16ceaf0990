use Rattle.std.specs.Prelude.{◌≡◌}
use Rattle.gimli_bytes.proofs.Common.{ap, ◌∙◌, number_bytes}
use Rattle.gimli_bytes.proofs.writer.Writer.write_u128_at.Goals as goal

pub returns : goal.returns
returns g c =
    let bytes : c.bytes_of_u128.result ≡ number_bytes (g.Self.Sink.is_big c.args.self.now) 16 c.args.val =
    c.bytes_of_u128.ensures ∙ ap (λ is_big. number_bytes is_big 16 c.args.val) c.endian.ensures in
    rw (← bytes) c.write_at.ensures
