use Rattle.std.proofs.Common.{length, ap, sym, ◌∙◌}
use Rattle.std.proofs.lemmas.List.{length-take-le}
use Rattle.gimli_core.proofs.endianity.Endianity.write_u128.Goals as goal

pub copy_from_slice-requires : goal.copy_from_slice-requires
copy_from_slice-requires g c = length-take-le 16 c.args.buf.now c.requires ∙ sym (ap length c.to_be_bytes.ensures)

pub copy_from_slice-requires-else-is_big_endian : goal.copy_from_slice-requires-else-is_big_endian
copy_from_slice-requires-else-is_big_endian g c =
    length-take-le 16 c.args.buf.now c.requires ∙ sym (ap length c.to_le_bytes.ensures)
