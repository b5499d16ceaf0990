use Rattle.gimli_line.proofs
use proofs.Common.{◌∙◌, layout_of, read_of, order_of}
use proofs.OtherExecutions.{extended_first}
use proofs.run.instruction.LineInstructions.next_defined_file.Goals as goal

pub returns-clause-read : goal.returns-clause-read
returns-clause-read g c =
    let n = layout_of _ _ in
    let first =
    extended_first n _ _ _ _ c.if-opcode-ne0.false (read_of c.in-Ok.ensures) in
    rw (← c.self.view_is) (first ∙ rw (order_of c.in-Ok.ensures) at c.in-Some.ensures.read)
