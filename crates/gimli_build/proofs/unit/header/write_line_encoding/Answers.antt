use Rattle.std.specs.Prelude.{◌≡◌, ◌∷◌}
use Rattle.gimli_build.proofs
use proofs.Common.{[], rules, flag_byte}
use Rattle.gimli_build.specs.Unit.{base_byte}
use proofs.writing.Writes.{first_unwritten, joins, writes, passed_on}
use proofs.unit.header.write_line_encoding.Goals as goal

pub returns : goal.returns
unfolding base_byte
returns g c =
    let e = c.args.line_encoding in
    let bytes = c.from.result ∷ c.cast_unsigned.result ∷ e.line_range ∷ [] in
    let flag : c.from.result ≡ flag_byte e.default_is_stmt = search rules in
    let base : c.cast_unsigned.result ≡ base_byte e.line_base = search rules in
    let last = c.write.ensures in
    let third = rw (flag, base) at (writes _ last) in
    joins c.in_ok-write_byte.ensures (joins c.in_ok-write_operation_count.ensures third)

pub returns-in_err-write_byte : goal.returns-in_err-write_byte
returns-in_err-write_byte g c = passed_on c.from_residual.ensures.1 (first_unwritten _ c.in_err-write_byte.ensures)

pub returns-in_err-write_operation_count : goal.returns-in_err-write_operation_count
returns-in_err-write_operation_count g c = passed_on c.from_residual-in_err-write_operation_count.ensures.1
    (joins c.in_ok-write_byte.ensures (first_unwritten _ c.in_err-write_operation_count.ensures))
