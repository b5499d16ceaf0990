use Rattle.std.proofs.Common.{◌≡◌, ◌≢◌, refl, ap, ◌∙◌, arith}
use Rattle.gimli_core.specs.Numbers.{number_bytes}
use Rattle.gimli_bytes.proofs
use proofs.WrittenAs.{unsigned_as, too_large, other_unsigned, append_as, refused_at_once}
use proofs.writer.Writer.write_udata.Goals as goal

pub returns-then-val-gt255 : goal.returns-then-val-gt255
returns-then-val-gt255 g c =
    refused_at_once _ (too_large _ _ _ 1 c.in-1.is refl (omega arith))

pub returns-else-val-gt255 : goal.returns-else-val-gt255
returns-else-val-gt255 g c =
    append_as (unsigned_as _ _ _ 1 c.in-1.is refl (omega arith)) c.write_u8.ensures

pub returns-then-val-gt65535 : goal.returns-then-val-gt65535
returns-then-val-gt65535 g c =
    refused_at_once _ (too_large _ _ _ 2 c.in-2.is refl (omega arith))

pub returns-else-val-gt65535 : goal.returns-else-val-gt65535
returns-else-val-gt65535 g c =
    append_as (unsigned_as _ _ _ 2 c.in-2.is refl (omega arith)) c.write_u16.ensures

pub returns-then-val-gt16777215 : goal.returns-then-val-gt16777215
returns-then-val-gt16777215 g c =
    refused_at_once _ (too_large _ _ _ 3 c.in-3.is refl (omega arith))

pub returns-else-val-gt16777215 : goal.returns-else-val-gt16777215
returns-else-val-gt16777215 g c =
    let bytes : c.bytes_of_u24.result ≡ number_bytes (g.Self.Sink.is_big c.args.self.now) 3 c.args.val =
    c.bytes_of_u24.ensures ∙ ap (λ is_big. number_bytes is_big 3 c.args.val) c.endian.ensures in
    append_as (unsigned_as _ _ _ 3 c.in-3.is refl (omega arith)) (rw (← bytes) c.write.ensures)

pub returns-then-val-gt4294967295 : goal.returns-then-val-gt4294967295
returns-then-val-gt4294967295 g c =
    refused_at_once _ (too_large _ _ _ 4 c.in-4.is refl (omega arith))

pub returns-else-val-gt4294967295 : goal.returns-else-val-gt4294967295
returns-else-val-gt4294967295 g c =
    append_as (unsigned_as _ _ _ 4 c.in-4.is refl (omega arith)) c.write_u32.ensures

pub returns-in-8 : goal.returns-in-8
returns-in-8 g c =
    append_as (unsigned_as _ _ _ 8 c.in-8.is refl (omega arith)) c.write_u64.ensures

pub returns-in_default : goal.returns-in_default
returns-in_default g c =
    let a : c.args.size ≢ 1 = omega arith in
    let b : c.args.size ≢ 2 = omega arith in
    let d : c.args.size ≢ 3 = omega arith in
    let e : c.args.size ≢ 4 = omega arith in
    let f : c.args.size ≢ 8 = omega arith in
    refused_at_once _ (other_unsigned _ _ _ a b d e f)
