use Rattle.std.specs.Prelude.{◌≡◌, ◌-ℤ◌}
use Rattle.gimli_build.proofs
use proofs.Common
use Common.{arith, to_z, of_z, w64, pos, ◌∙◌, ints, operations, marks, changes, line_part, line_opcode, operation_part}
use Common.{at_position}
use proofs.writing.InstructionsWritten.{four_parts}
use proofs.writing.Writes.{bytes_unwritten, joins, unwritten, passed_on}
use proofs.rows.encode.write_row.Goals as goal

pub returns-in_err-write_changes-clause-writes : goal.returns-in_err-write_changes-clause-writes
returns-in_err-write_changes-clause-writes g c =
    passed_on c.from_residual-in_err-write_changes.ensures.1
    (unwritten c.in_ok-write_marks.ensures.writes c.in_err-write_changes.ensures.writes)

pub returns-in_err-opcode-clause-writes : goal.returns-in_err-opcode-clause-writes
returns-in_err-opcode-clause-writes g c =
    passed_on c.from_residual-in_err-opcode.ensures.1 (unwritten
    (joins c.in_ok-write_marks.ensures.writes c.in_ok-write_changes.ensures.writes) c.in_err-opcode.ensures.writes)

pub returns-in_err-write_operation_advance-clause-writes : goal.returns-in_err-write_operation_advance-clause-writes
returns-in_err-write_operation_advance-clause-writes g c =
    passed_on c.from_residual-in_err-write_operation_advance.ensures.1 (unwritten (joins
    c.in_ok-write_marks.ensures.writes (joins c.in_ok-write_changes.ensures.writes c.in_ok-opcode.ensures.writes))
    c.in_err-write_operation_advance.ensures)

pub returns-clause-writes : goal.returns-clause-writes
returns-clause-writes g c =
    let e = c.args.line_encoding in
    let version = c.args.encoding.version in
    let row = c.args.row.now in
    let place = c.args.place.now in
    let previous = at_position (place.address_offset, place.op_index) c.args.previous.now in
    let d = pos row.line -ℤ pos previous.line in
    let n = operations e previous.address_offset previous.op_index row.address_offset row.op_index in
    let fits : to_z w64 (of_z w64 c.line_advance.result) ≡ c.line_advance.result = omega (arith, ints) in
    let back : to_z w64 (of_z w64 c.line_advance.result) ≡ d = fits ∙ c.line_advance.ensures in
    let third = rw back at c.in_ok-opcode.ensures.writes in
    let o = rw back at c.in_ok-opcode.ensures.opcode in
    let fourth = rw (o, c.operation_advance-count.ensures) at c.in_ok-write_operation_advance.ensures in
    four_parts (marks row) (changes version previous row) (line_part e d) (operation_part e (line_opcode e d) n)
    (joins (joins (joins c.in_ok-write_marks.ensures.writes c.in_ok-write_changes.ensures.writes) third) fourth)

pub returns-in_err-write_marks-clause-writes : goal.returns-in_err-write_marks-clause-writes
returns-in_err-write_marks-clause-writes g c =
    passed_on c.from_residual.ensures.1 (bytes_unwritten c.in_err-write_marks.ensures.writes)
