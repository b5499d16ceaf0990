use Rattle.std.specs.Prelude.{◌<◌}
use Rattle.gimli_write.proofs
use proofs.Common.{length, arith, file_seen, HasFileTexts, file_answer}
use proofs.ReadTexts.{mapped_at, one_by_one_more}
use proofs.read_back.read_files.Goals as goal

pub read_file-requires : goal.read_file-requires
read_file-requires g c =
    let seen = file_seen g.R.Reader.seen g.R.Offset.ReaderOffset.number in
    let i = c.loop-file.file-index in
    let lt : i < length c.args.files.now = omega arith in
    mapped_at (HasFileTexts c.args.sections.now) seen c.args.files.now i lt c.file-item.is c.requires

pub loop-file-preserved : goal.loop-file-preserved
loop-file-preserved g c = grind (arith, file_seen, one_by_one_more, file_answer)
