use Rattle.std.specs.Prelude.{◌≡◌, ◌≢◌, ◌<◌, ◌^◌}
use Rattle.std.specs.Int.{cast_signed}
use Rattle.gimli_bytes.proofs
use Rattle.gimli_bytes.specs.Number.{sleb}
use proofs.Common.{Ok, Result, Error, List, sdata, ap, sym, ◌∙◌, arith, ℕ, ℤ, to_z, of_z, w64, of_z-to_z}
use proofs.WrittenAs.{append_as, refused_at_once, formatted_as, other_format}
use proofs.writer.Writer.write_eh_pointer_data.Goals as goal

pub returns-in-DW_EH_PE_absptr : goal.returns-in-DW_EH_PE_absptr
returns-in-DW_EH_PE_absptr g c =
    append_as (formatted_as (g.Self.Sink.is_big c.args.self.now) c.args.val c.args.format c.args.size 0 (omega arith))
    c.write_udata.ensures

pub returns-in-DW_EH_PE_uleb128 : goal.returns-in-DW_EH_PE_uleb128
returns-in-DW_EH_PE_uleb128 g c =
    append_as (formatted_as (g.Self.Sink.is_big c.args.self.now) c.args.val c.args.format c.args.size 1 (omega arith))
    c.write_uleb128.ensures.appends

pub returns-in-DW_EH_PE_udata2 : goal.returns-in-DW_EH_PE_udata2
returns-in-DW_EH_PE_udata2 g c =
    append_as (formatted_as (g.Self.Sink.is_big c.args.self.now) c.args.val c.args.format c.args.size 2 (omega arith))
    c.write_udata-in-DW_EH_PE_udata2.ensures

pub returns-in-DW_EH_PE_udata4 : goal.returns-in-DW_EH_PE_udata4
returns-in-DW_EH_PE_udata4 g c =
    append_as (formatted_as (g.Self.Sink.is_big c.args.self.now) c.args.val c.args.format c.args.size 3 (omega arith))
    c.write_udata-in-DW_EH_PE_udata4.ensures

pub returns-in-DW_EH_PE_udata8 : goal.returns-in-DW_EH_PE_udata8
returns-in-DW_EH_PE_udata8 g c =
    append_as (formatted_as (g.Self.Sink.is_big c.args.self.now) c.args.val c.args.format c.args.size 4 (omega arith))
    c.write_udata-in-DW_EH_PE_udata8.ensures

-- the signed number that is handed on
passed : (n : ℕ) (z : ℤ) → n < 2 ^ 64 → z ≡ cast_signed w64 n → cast_signed w64 n ≡ to_z w64 (of_z w64 z)
passed n z fits is = ap (to_z w64) (sym (of_z-to_z w64 n fits) ∙ ap (of_z w64) (sym is))

pub returns-in-DW_EH_PE_sleb128 : goal.returns-in-DW_EH_PE_sleb128
returns-in-DW_EH_PE_sleb128 g c =
    append_as (formatted_as (g.Self.Sink.is_big c.args.self.now) c.args.val c.args.format c.args.size 9 (omega arith)
    ∙ ap (λ (z : ℤ). let r : Result (List ℕ) Error = Ok (sleb z) in r)
    (passed _ _ c.ranges.val.fits c.cast_signed.ensures))
    c.write_sleb128.ensures.appends

pub returns-in-DW_EH_PE_sdata2 : goal.returns-in-DW_EH_PE_sdata2
returns-in-DW_EH_PE_sdata2 g c =
    append_as (formatted_as (g.Self.Sink.is_big c.args.self.now) c.args.val c.args.format c.args.size 10 (omega arith)
    ∙ ap (λ (z : ℤ). sdata (g.Self.Sink.is_big c.args.self.now) z 2)
    (passed _ _ c.ranges.val.fits c.cast_signed-in-DW_EH_PE_sdata2.ensures))
    c.write_sdata.ensures

pub returns-in-DW_EH_PE_sdata4 : goal.returns-in-DW_EH_PE_sdata4
returns-in-DW_EH_PE_sdata4 g c =
    append_as (formatted_as (g.Self.Sink.is_big c.args.self.now) c.args.val c.args.format c.args.size 11 (omega arith)
    ∙ ap (λ (z : ℤ). sdata (g.Self.Sink.is_big c.args.self.now) z 4)
    (passed _ _ c.ranges.val.fits c.cast_signed-in-DW_EH_PE_sdata4.ensures))
    c.write_sdata-in-DW_EH_PE_sdata4.ensures

pub returns-in-DW_EH_PE_sdata8 : goal.returns-in-DW_EH_PE_sdata8
returns-in-DW_EH_PE_sdata8 g c =
    append_as (formatted_as (g.Self.Sink.is_big c.args.self.now) c.args.val c.args.format c.args.size 12 (omega arith)
    ∙ ap (λ (z : ℤ). sdata (g.Self.Sink.is_big c.args.self.now) z 8)
    (passed _ _ c.ranges.val.fits c.cast_signed-in-DW_EH_PE_sdata8.ensures))
    c.write_sdata-in-DW_EH_PE_sdata8.ensures

pub returns-in_default : goal.returns-in_default
returns-in_default g c =
    let a : c.args.format.0 ≢ 0 = omega arith in
    let b : c.args.format.0 ≢ 1 = omega arith in
    let d : c.args.format.0 ≢ 2 = omega arith in
    let e : c.args.format.0 ≢ 3 = omega arith in
    let f : c.args.format.0 ≢ 4 = omega arith in
    let h : c.args.format.0 ≢ 9 = omega arith in
    let i : c.args.format.0 ≢ 10 = omega arith in
    let j : c.args.format.0 ≢ 11 = omega arith in
    let k : c.args.format.0 ≢ 12 = omega arith in
    refused_at_once _
    (other_format (g.Self.Sink.is_big c.args.self.now) c.args.val c.args.format c.args.size a b d e f h i j k)
