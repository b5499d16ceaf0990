use Rattle.std.specs.Prelude.{◌≡◌, ◌-ℤ◌}
use Rattle.gimli_build.proofs
use proofs.Common
use Common.{arith, to_z, of_z, w64, pos, ◌∙◌, ints, operations, marks, changes, line_part, line_opcode, operation_part}
use Common.{at_position}
use proofs.sizes.ItemSizes.{four_sizes}
use proofs.rows.sizes.row_size.Goals as goal

pub returns : goal.returns
returns c =
    let e = c.args.line_encoding in
    let version = c.args.encoding.version in
    let row = c.args.row.now in
    let place = c.args.place.now in
    let previous = at_position (place.address_offset, place.op_index) c.args.previous.now in
    let d = pos row.line -ℤ pos previous.line in
    let n = operations e previous.address_offset previous.op_index row.address_offset row.op_index in
    let advance = c.line_advance-advance in
    let fits : to_z w64 (of_z w64 advance.result) ≡ advance.result = omega (arith, ints) in
    let back : to_z w64 (of_z w64 advance.result) ≡ d = fits ∙ advance.ensures in
    let third = rw back at c.line_size.ensures.size in
    let o = rw back at c.line_opcode-opcode.ensures in
    let fourth = rw (o, c.operation_advance-count.ensures) at c.operation_size.ensures.size in
    four_sizes (marks row) (changes version previous row) (line_part e d) (operation_part e (line_opcode e d) n)
    _ _ _ _ c.marks_size.ensures.size c.changes_size.ensures.size third fourth
