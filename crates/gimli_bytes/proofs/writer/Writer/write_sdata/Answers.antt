use Rattle.std.proofs.lemmas.Result.{err_from_is_err_and}
use Rattle.std.proofs.lemmas.Int.{to_z-of_z}
use Rattle.gimli_bytes.proofs
use proofs.Common.{refl, ap, ◌∙◌, of_z, w64}
use proofs.WrittenAs.{append_as, refused_at_once, signed_as, all_bits}
use proofs.writer.Writer.write_sdata.Goals as goal

pub returns-in_err-bits_of_i8-in-1 : goal.returns-in_err-bits_of_i8-in-1
returns-in_err-bits_of_i8-in-1 g c =
    let p = err_from_is_err_and c.from_residual.result c.from_residual.ensures.1 in
    rw (p.1, p.2) (refused_at_once _ (signed_as _ _ _ _ 1 _ c.in-1.is refl
    c.in_err-bits_of_i8-in-1.ensures (to_z-of_z w64 _ c.ranges.val)))

pub returns-in_ok-bits_of_i8-in-1 : goal.returns-in_ok-bits_of_i8-in-1
returns-in_ok-bits_of_i8-in-1 g c =
    append_as (signed_as _ _ _ _ 1 _ c.in-1.is refl c.in_ok-bits_of_i8-in-1.ensures
    (to_z-of_z w64 _ c.ranges.val)) c.write_u8.ensures

pub returns-in_err-bits_of_i16-in-2 : goal.returns-in_err-bits_of_i16-in-2
returns-in_err-bits_of_i16-in-2 g c =
    let p = err_from_is_err_and c.from_residual-in_err-bits_of_i16-in-2.result
    c.from_residual-in_err-bits_of_i16-in-2.ensures.1 in
    rw (p.1, p.2) (refused_at_once _ (signed_as _ _ _ _ 2 _ c.in-2.is refl
    c.in_err-bits_of_i16-in-2.ensures (to_z-of_z w64 _ c.ranges.val)))

pub returns-in_ok-bits_of_i16-in-2 : goal.returns-in_ok-bits_of_i16-in-2
returns-in_ok-bits_of_i16-in-2 g c =
    append_as (signed_as _ _ _ _ 2 _ c.in-2.is refl c.in_ok-bits_of_i16-in-2.ensures
    (to_z-of_z w64 _ c.ranges.val)) c.write_u16.ensures

pub returns-in_err-bits_of_i32-in-4 : goal.returns-in_err-bits_of_i32-in-4
returns-in_err-bits_of_i32-in-4 g c =
    let p = err_from_is_err_and c.from_residual-in_err-bits_of_i32-in-4.result
    c.from_residual-in_err-bits_of_i32-in-4.ensures.1 in
    rw (p.1, p.2) (refused_at_once _ (signed_as _ _ _ _ 4 _ c.in-4.is refl
    c.in_err-bits_of_i32-in-4.ensures (to_z-of_z w64 _ c.ranges.val)))

pub returns-in_ok-bits_of_i32-in-4 : goal.returns-in_ok-bits_of_i32-in-4
returns-in_ok-bits_of_i32-in-4 g c =
    append_as (signed_as _ _ _ _ 4 _ c.in-4.is refl c.in_ok-bits_of_i32-in-4.ensures
    (to_z-of_z w64 _ c.ranges.val)) c.write_u32.ensures

pub returns-in-8 : goal.returns-in-8
returns-in-8 g c =
    let bits = all_bits c.args.val c.cast_unsigned.result c.ranges.val
    (c.cast_unsigned.ensures ∙ ap (of_z w64) (to_z-of_z w64 c.args.val c.ranges.val)) in
    append_as (signed_as _ _ c.args.val _ 8 _ c.in-8.is refl bits refl) c.write_u64.ensures
