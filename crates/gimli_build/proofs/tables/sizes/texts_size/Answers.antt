use Rattle.std.specs.Prelude.{◌<◌, ◌-◌, ◌^◌}
use Rattle.gimli_build.proofs
use proofs.Common.{length, map, refl, arith, length-map, line_text, text_size}
use proofs.refusals.FirstCauses.{mapped_at}
use proofs.sizes.Saturated.{next_sum}
use proofs.tables.sizes.texts_size.Goals as goal

pub loop-text-preserved : goal.loop-text-preserved
loop-text-preserved c =
    let texts = c.args.texts.now in
    let i = c.loop-text.text-index in
    let text = c.text-item.result in
    let lt : i < length (map line_text texts) = rw (length-map texts line_text) (omega arith) in
    next_sum (text_size c.args.format) (map line_text texts) i (line_text text) (2 ^ 64 - 1) _ _ _
    (mapped_at line_text texts (map line_text texts) i text refl lt c.text-item.is)
    c.loop-text.invariant c.text_size.ensures c.saturating_add-size.ensures
