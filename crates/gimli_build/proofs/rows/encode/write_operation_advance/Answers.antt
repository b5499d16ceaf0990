use Rattle.std.specs.Prelude.{◌≡◌, ◌+◌, ◌-◌, ◌*◌}
use Rattle.gimli_build.proofs
use proofs.Common.{nat_le, false, append-nil, row_maker, constant_advance, instruction_bytes}
use proofs.writing.Writes.{passed_on, joins, bytes_unwritten}
use proofs.writing.InstructionsWritten.{past, found, by_constant, by_advance}
use proofs.rows.encode.write_operation_advance.Goals as goal
use proofs.rows.encode.write_operation_advance.Goals.{in-Some-special_opcode, in-None}

pub returns-in_err-write_instruction : goal.returns-in_err-write_instruction
returns-in_err-write_instruction g c =
    passed_on c.from_residual.ensures.1 (bytes_unwritten c.in_err-write_instruction.ensures)

pub returns : goal.returns
returns g c =
    let e = c.args.line_encoding.now in
    let s = c.args.opcode in
    let n = c.args.count in
    let over : nat_le (s + n * e.line_range) 255
    ≡ false = past _ _ (rw (c.special_opcode.ensures, c.from-range.ensures) at c.in_default.is) in
    let m = n - constant_advance e in
    elim c.match-special_opcode-2.branch [
      | in-Some-special_opcode w ↦
          let there = found _ _ _
          (rw c.from-range.ensures at (rw (c.special_opcode-2.ensures, c.saturating_sub-rest.ensures, c.from.ensures) at
          w.in-Some-special_opcode.is)) in
          let first = rw w.first-is at c.in_ok-write_instruction.ensures in
          let last = rw there.1 at (rw w.first-is at (rw c.maker-2.ensures at c.write_instruction-3.ensures)) in
          rw (by_constant e s n over there.0, append-nil (instruction_bytes (row_maker e (s + m * e.line_range))))
          (joins first last)
      | in-None w ↦
          let under : nat_le (s + m * e.line_range) 255 ≡ false = past _ _
          (rw c.from-range.ensures at (rw (c.special_opcode-2.ensures, c.saturating_sub-rest.ensures, c.from.ensures) at
          w.in-None.is)) in
          let first = rw w.first-is at c.in_ok-write_instruction.ensures in
          let last = rw w.first-is at (rw c.maker-2.ensures at c.write_instruction-3.ensures) in
          rw (by_advance e s n over under, append-nil (instruction_bytes (row_maker e s)))
          (joins first last)
    ]
