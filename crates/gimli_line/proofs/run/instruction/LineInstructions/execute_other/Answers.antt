use Rattle.std.specs.Prelude.{◌≡◌}
use Rattle.gimli_line.proofs
use proofs.Common.{rules, ◌∙◌, refl, sym, ap, arith, layout_of, AdvancePc, ConstAddPc, read_of, order_of}
use proofs.Executions.{executes_it}
use proofs.OtherExecutions.{below_executed, advance_read, const_add_read, extended_first}
use proofs.run.instruction.LineInstructions.execute_other.Goals as goal

pub returns-then-is_executed-clause-ok : goal.returns-then-is_executed-clause-ok
returns-then-is_executed-clause-ok g c =
    let n = layout_of (g.R.Reader.seen c.self.inside.input).is_big g.R.Offset.ReaderOffset.limit in
    let first =
    extended_first n c.args.header.now.meaning _ _ c.in-Ok.opcode c.if-opcode-eq0.true (read_of c.in-Ok.ensures) in
    let is = sym c.is_executed.ensures ∙ c.if-is_executed.true in
    rw (← c.self.view_is) (executes_it _ _ _ _ _ _ is
    (rw first (rw (order_of c.in-Ok.ensures) at (c.exec_extended_opcode-executed.ensures.executed is))))

pub returns-else-is_executed-clause-ok : goal.returns-else-is_executed-clause-ok
returns-else-is_executed-clause-ok g c = grind (arith)

pub returns-in-Err-clause-err : goal.returns-in-Err-clause-err
returns-in-Err-clause-err g c =
    let same = ap (λ m. m.parameters) (ap (λ v. v.meaning) c.header.view_is) in
    let is : c.in-Ok.opcode ≡ 2 = search rules in
    let over = c.in-Err.ensures.overflow in
    rw (← c.self.view_is) (
      over.0,
      below_executed _ _ _ _ _ _ _ same c.opcode_base.ensures (omega (arith)) c.if-opcode-opcode_base.false
          (read_of c.in-Ok.ensures)
          (AdvancePc c.in-Some.advance)
          _ (advance_read _ _ _ _ is _ _ c.in-Some.ensures.read) refl _ _ _ c.apply_operation_advance.ensures.step
          over.1,
    )

pub returns-in-Ok-apply_operation_advance-clause-ok : goal.returns-in-Ok-apply_operation_advance-clause-ok
returns-in-Ok-apply_operation_advance-clause-ok g c =
    let same = ap (λ m. m.parameters) (ap (λ v. v.meaning) c.header.view_is) in
    let is : c.in-Ok.opcode ≡ 2 = search rules in
    rw (← c.self.view_is) (
      below_executed _ _ _ _ _ _ _ same c.opcode_base.ensures (omega (arith)) c.if-opcode-opcode_base.false
          (read_of c.in-Ok.ensures)
          (AdvancePc c.in-Some.advance) _ (advance_read _ _ _ _ is _ _ c.in-Some.ensures.read) refl _ _ _
          c.apply_operation_advance.ensures.step
          c.in-Ok-apply_operation_advance.ensures.fits,
      refl,
    )

pub returns-in-Err-exec_const_add_pc-clause-err : goal.returns-in-Err-exec_const_add_pc-clause-err
returns-in-Err-exec_const_add_pc-clause-err g c =
    let same = ap (λ m. m.parameters) (ap (λ v. v.meaning) c.header.view_is) in
    let is : c.in-Ok.opcode ≡ 8 = search rules in
    let over = c.in-Err-exec_const_add_pc.ensures.overflow in
    rw (← c.self.view_is) (
      over.0,
      below_executed _ _ _ _ _ _ _ same c.opcode_base.ensures (omega (arith)) c.if-opcode-opcode_base.false
          (read_of c.in-Ok.ensures) ConstAddPc _
          (const_add_read _ _ _ _ is) refl _ _ _ c.exec_const_add_pc.ensures.step over.1,
    )

pub returns-in-Ok-exec_const_add_pc-clause-ok : goal.returns-in-Ok-exec_const_add_pc-clause-ok
returns-in-Ok-exec_const_add_pc-clause-ok g c =
    let same = ap (λ m. m.parameters) (ap (λ v. v.meaning) c.header.view_is) in
    let is : c.in-Ok.opcode ≡ 8 = search rules in
    rw (← c.self.view_is) (
      below_executed _ _ _ _ _ _ _ same c.opcode_base.ensures (omega (arith)) c.if-opcode-opcode_base.false
          (read_of c.in-Ok.ensures)
          ConstAddPc _ (const_add_read _ _ _ _ is) refl _ _ _ c.exec_const_add_pc.ensures.step
          c.in-Ok-exec_const_add_pc.ensures.fits,
      refl,
    )

pub returns-clause-ok : goal.returns-clause-ok
returns-clause-ok g c = (refl, refl)

pub returns-in_default-clause-ok : goal.returns-in_default-clause-ok
returns-in_default-clause-ok g c = (refl, refl)

pub returns-in_default-read_short_uleb128-clause-ok : goal.returns-in_default-read_short_uleb128-clause-ok
returns-in_default-read_short_uleb128-clause-ok g c = (refl, refl)

pub returns-then-opcode-opcode_base-clause-ok : goal.returns-then-opcode-opcode_base-clause-ok
returns-then-opcode-opcode_base-clause-ok g c = (refl, refl)
