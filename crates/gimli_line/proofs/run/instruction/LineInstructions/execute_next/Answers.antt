use Rattle.gimli_line.proofs.run.instruction.LineInstructions.execute_next.Goals as goal

pub returns-in-No-clause-ok : goal.returns-in-No-clause-ok
returns-in-No-clause-ok g c =
    let none = rw c.in-No.is at c.in-Ok.ensures.ok in
    rw (none.0, none.1) at c.execute_other.ensures.ok
