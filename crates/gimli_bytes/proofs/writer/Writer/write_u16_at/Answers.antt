use Rattle.std.proofs.Common.{◌≡◌, ap, ◌∙◌}
use Rattle.gimli_core.specs.Numbers.{number_bytes}
use Rattle.gimli_bytes.proofs.writer.Writer.write_u16_at.Goals as goal

pub returns : goal.returns
returns g c =
    let bytes : c.bytes_of_u16.result ≡ number_bytes (g.Self.Sink.is_big c.args.self.now) 2 c.args.val =
    c.bytes_of_u16.ensures ∙ ap (λ is_big. number_bytes is_big 2 c.args.val) c.endian.ensures in
    rw (← bytes) c.write_at.ensures
