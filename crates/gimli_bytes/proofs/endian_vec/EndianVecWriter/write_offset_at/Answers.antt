use Rattle.std.proofs.Common.{◌<◌, ◌^◌, arith}
use Rattle.gimli_bytes.proofs
use proofs.SectionWords.{word-is}
use proofs.WrittenAs.{plainly_over}
use proofs.endian_vec.EndianVecWriter.write_offset_at.Goals as goal

pub returns : goal.returns
returns g c =
    let is_big = g.E.Endianity.is_big c.args.self.now.endian in
    let n = c.args.val in
    let size = c.args.size in
    let small : n < 2 ^ 64 = omega arith in
    plainly_over _ _ _ (λ never. never) (word-is is_big n size small)
    c.write_udata_at.ensures
