use Rattle.gimli_line.proofs.debug_line.DebugLine.borrow.Goals as goal

pub returns : goal.returns
returns g c = rw c.into.ensures (_, c.borrow.new.self, c.self.view_is, c.borrow.ensures)
