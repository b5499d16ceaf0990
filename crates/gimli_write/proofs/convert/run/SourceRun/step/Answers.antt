use Rattle.std.proofs.Common.{◌≡◌, refl}
use Rattle.gimli_write.proofs
use proofs.SourceSteps.{state}
use proofs.SourceFromBytes.{address_steps, quiet_steps, refused_ready, refused_steps, row_steps}
use proofs.convert.run.SourceRun.step.Goals as goal

pub returns-in-Err : goal.returns-in-Err
returns-in-Err g c =
    let s =
    state c.self.inside.program.meaning c.self.inside.row c.self.inside.base c.self.inside.pending
    c.self.inside.instructions in
    let lent : c.header-header.result.now.meaning ≡ c.self.inside.program.meaning = rw c.header-header.ensures refl in
    rw (← c.self.view_is)
    (refused_steps g.R.Reader.seen g.R.Offset.ReaderOffset.number s _ lent _ _
    c.in-Err.ensures.layout _ c.in-Err.ensures.err)

pub returns-in-Quiet : goal.returns-in-Quiet
returns-in-Quiet g c =
    let s =
    state c.self.inside.program.meaning c.self.inside.row c.self.inside.base c.self.inside.pending
    c.self.inside.instructions in
    let lent : c.header-header.result.now.meaning ≡ c.self.inside.program.meaning = rw c.header-header.ensures refl in
    let q = rw c.in-Quiet.is at c.in-Ok.ensures.ok in
    rw (← c.self.view_is)
    (quiet_steps g.R.Reader.seen g.R.Offset.ReaderOffset.number s _ lent _ _
    c.in-Ok.ensures.layout q.0 q.1)

pub returns-in-Address : goal.returns-in-Address
returns-in-Address g c =
    let s =
    state c.self.inside.program.meaning c.self.inside.row c.self.inside.base c.self.inside.pending
    c.self.inside.instructions in
    let lent : c.header-header.result.now.meaning ≡ c.self.inside.program.meaning = rw c.header-header.ensures refl in
    let q = rw c.in-Address.is at c.in-Ok.ensures.ok in
    rw (← c.self.view_is)
    (address_steps g.R.Reader.seen g.R.Offset.ReaderOffset.number s _ lent _ _
    c.in-Ok.ensures.layout q.0 _ q.1)

pub returns-in-Row : goal.returns-in-Row
returns-in-Row g c =
    let s =
    state c.self.inside.program.meaning c.self.inside.row c.self.inside.base c.self.inside.pending
    c.self.inside.instructions in
    let lent : c.header-header.result.now.meaning ≡ c.self.inside.program.meaning = rw c.header-header.ensures refl in
    let q = rw c.in-Row.is at c.in-Ok.ensures.ok in
    rw (← c.self.view_is)
    (row_steps g.R.Reader.seen g.R.Offset.ReaderOffset.number s _ lent _ _ c.in-Ok.ensures.layout q.0 c.self.invariant
    q.1 c.header.result.now.meaning
    (rw c.header.ensures refl) c.reset.ensures _ _ c.made.ensures.step c.made.ensures.new)

pub returns-in-No : goal.returns-in-No
returns-in-No g c =
    let q = rw c.in-No.is at c.in-Ok.ensures.ok in
    rw (← c.self.view_is)
    (rw (q.0, q.1) at c.step_parsed.ensures)

pub invariant_of-self : goal.invariant_of-self
invariant_of-self g c =
    let s =
    state c.self.inside.program.meaning c.self.inside.row c.self.inside.base c.self.inside.pending
    c.self.inside.instructions in
    refused_ready s _ (rw c.header-header.ensures refl) _ c.execute_next.new.self _ c.in-Err.ensures.err
    c.self.invariant
