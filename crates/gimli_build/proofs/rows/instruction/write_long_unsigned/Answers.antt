use Rattle.gimli_build.proofs.writing.Writes.{bytes_unwritten, joins, writes, passed_on}
use Rattle.gimli_build.proofs.rows.instruction.write_long_unsigned.Goals as goal

pub returns : goal.returns
returns g c =
    let put = c.write_uleb128.ensures.appends in
    joins c.in_ok-write_byte.ensures (writes _ put)

pub returns-in_err-write_byte : goal.returns-in_err-write_byte
returns-in_err-write_byte g c =
    passed_on c.from_residual.ensures.1 (bytes_unwritten c.in_err-write_byte.ensures)
