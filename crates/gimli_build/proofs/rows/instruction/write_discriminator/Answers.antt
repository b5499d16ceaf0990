use Rattle.gimli_build.proofs.writing.Writes.{passed_on, joins, unwritten, writes, bytes_unwritten}
use Rattle.gimli_build.proofs.rows.instruction.write_discriminator.Goals as goal

pub returns-in_err-write_byte : goal.returns-in_err-write_byte
returns-in_err-write_byte g c = passed_on c.from_residual.ensures.1 (bytes_unwritten c.in_err-write_byte.ensures)

pub returns-in_err-write_byte-2 : goal.returns-in_err-write_byte-2
returns-in_err-write_byte-2 g c =
    let put = c.in_ok-write_uleb128.ensures.appends in
    let second = writes _ put in
    passed_on c.from_residual-in_err-write_byte-2.ensures.1
    (unwritten (joins c.in_ok-write_byte.ensures second) c.in_err-write_byte-2.ensures)

pub returns : goal.returns
returns g c =
    let put = c.in_ok-write_uleb128.ensures.appends in
    let second = rw (c.bytes.ensures, c.unsigned-operand.ensures) at (writes _ put) in
    let last = c.write.ensures in
    let fourth = rw (c.bytes-2.ensures, c.unsigned-operand.ensures) at (writes _ last) in
    joins c.in_ok-write_byte.ensures (joins second (joins c.in_ok-write_byte-2.ensures fourth))

pub returns-in_err-write_uleb128 : goal.returns-in_err-write_uleb128
returns-in_err-write_uleb128 g c = passed_on c.from_residual-in_err-write_uleb128.ensures.1
    (unwritten c.in_ok-write_byte.ensures (writes _ c.in_err-write_uleb128.ensures.appends))
