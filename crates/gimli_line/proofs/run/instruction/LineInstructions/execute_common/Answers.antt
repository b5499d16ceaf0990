use Rattle.gimli_line.proofs
use proofs.Common.{refl, sym, ap, ◌∙◌, Header, read_of}
use proofs.Executions.{special_executed, standard_executed, executes_it, executes_none}
use proofs.run.instruction.LineInstructions.execute_common.Goals as goal

pub returns-in-Err-clause-err : goal.returns-in-Err-clause-err
returns-in-Err-clause-err g c =
    let same = ap (λ (m : Header). m.parameters) (ap (λ v. v.meaning) c.header.view_is) in
    let over = c.in-Err.ensures.overflow in
    rw (← c.self.view_is) (
      over.0,
      special_executed _ _ _ _ _ _ _ same c.opcode_base.ensures c.exec_special_opcode.ensures.some
          c.if-opcode-opcode_base.true (read_of c.in-Ok.ensures) _ _ _
          c.exec_special_opcode.ensures.step over.1,
    )

pub returns-in-Ok-exec_special_opcode-clause-ok : goal.returns-in-Ok-exec_special_opcode-clause-ok
returns-in-Ok-exec_special_opcode-clause-ok g c =
    let same = ap (λ m. m.parameters) (ap (λ v. v.meaning) c.header.view_is) in
    rw (← c.self.view_is) (
      special_executed _ _ _ _ _ _ _ same c.opcode_base.ensures c.exec_special_opcode.ensures.some
          c.if-opcode-opcode_base.true
          (read_of c.in-Ok.ensures) _ _ _ c.exec_special_opcode.ensures.step c.in-Ok-exec_special_opcode.ensures.fits,
      refl,
    )

pub returns-then-is_executed-clause-ok : goal.returns-then-is_executed-clause-ok
returns-then-is_executed-clause-ok g c =
    let is = sym c.is_executed.ensures ∙ c.if-is_executed.true in
    let executed = c.exec_common_opcode-executed.ensures in
    rw (← c.self.view_is) (executes_it _ _ _ _ _ _ is
    (standard_executed _ _ _ _ _ _ c.opcode_base.ensures (executed.some is) c.if-opcode-opcode_base.false
    (read_of c.in-Ok.ensures) _ _ _ _ (executed.executed is _ _)))

pub returns-else-is_executed-clause-ok : goal.returns-else-is_executed-clause-ok
returns-else-is_executed-clause-ok g c =
    let is = sym c.is_executed.ensures ∙ c.if-is_executed.false in
    rw (← c.self.view_is) (executes_none _ _ _ _ _ _ is (λ none.
    (refl, c.exec_common_opcode-executed.ensures.none none)))
