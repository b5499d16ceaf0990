use Rattle.gimli_build.proofs
use proofs.Common.{arith}
use proofs.sizes.Steps.{operations_above}
use proofs.rows.encode.operation_advance.Goals as goal

pub overflow_sub-result-2 : goal.overflow_sub-result-2
overflow_sub-result-2 c =
    let e = c.args.line_encoding.now in
    let r = c.requires in
    let h =
    operations_above _ _ _ _ _
    _
    (omega arith) r.stands.divides r.follows.position.divides r.follows.after r.follows.later r.stands.within in
    rw (c.instruction_count-instructions.ensures, c.from-operations.ensures) h
