use Rattle.gimli_core.proofs.Taken.{read_of, part_read_of}
use Rattle.gimli_core.proofs.Texts.{found_within, skip_refuses_not}
use Rattle.gimli_core.proofs.reader.Reader.read_null_terminated_slice.Goals as goal

pub returns-in_err-skip : goal.returns-in_err-skip
returns-in_err-skip g c =
    let within = found_within 0 _ _ c.in_ok-len.ensures in
    absurd
    (skip_refuses_not _ _ _ _ _ _ _ within c.from_u8.ensures (part_read_of c.in_ok-text.ensures)
    (read_of c.in_err-skip.ensures))
