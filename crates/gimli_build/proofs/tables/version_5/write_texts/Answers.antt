use Rattle.std.specs.Prelude.{◌<◌}
use Rattle.gimli_build.proofs
use proofs.Common.{length, arith, IsWithin}
use proofs.writing.Joined.{next_seen, all_seen}
use proofs.writing.Writes.{one_written, one_unwritten, passed_on}
use proofs.tables.version_5.write_texts.Goals as goal

pub write_line_string-requires : goal.write_line_string-requires
write_line_string-requires g c =
    let texts = c.args.texts.now in
    let lt : c.loop-text.text-index < length texts = omega arith in
    all_seen (IsWithin c.args.input.now.texts) _ _ _ _ lt c.text-item.is
    c.requires

pub returns-in_err-write_line_string : goal.returns-in_err-write_line_string
returns-in_err-write_line_string g c =
    let texts = c.args.texts.now in
    let text = c.text-item.result in
    let i = c.loop-text.text-index in
    let lt : i < length texts = omega arith in
    let so = rw (next_seen _ _ _ _ lt c.text-item.is) at c.loop-text.invariant.so in
    let refused = rw c.loop-text.invariant.so.ordered at c.in_err-write_line_string.ensures in
    passed_on c.from_residual.ensures.1 (one_unwritten so refused)

pub loop-text-preserved : goal.loop-text-preserved
loop-text-preserved g c =
    let texts = c.args.texts.now in
    let text = c.text-item.result in
    let i = c.loop-text.text-index in
    let lt : i < length texts = omega arith in
    let so = rw (next_seen _ _ _ _ lt c.text-item.is) at c.loop-text.invariant.so in
    record { so = one_written so (rw c.loop-text.invariant.so.ordered at c.in_ok-write_line_string.ensures) }
