use Rattle.std.specs.Prelude.{◌<◌}
use Rattle.gimli_write.proofs
use proofs.Common.{length, arith, value_seen, HasText}
use proofs.ReadTexts.{mapped_at, one_by_one_more}
use proofs.read_back.texts.Goals as goal

pub text_there-requires : goal.text_there-requires
text_there-requires g c =
    let seen = value_seen g.R.Reader.seen g.R.Offset.ReaderOffset.number in
    let i = c.loop-value.value-index in
    let lt : i < length c.args.values.now = omega arith in
    mapped_at (HasText c.args.sections.now) seen c.args.values.now i lt c.value-item.is c.requires

pub loop-value-preserved : goal.loop-value-preserved
loop-value-preserved g c = grind (arith, value_seen, one_by_one_more)
