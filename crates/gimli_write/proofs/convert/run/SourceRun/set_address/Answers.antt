use Rattle.std.specs.Prelude.{◌≡◌}
use Rattle.gimli_write.proofs
use proofs.Common.{subst, Some, SetAddress, SourceRun, state_after}
use proofs.SourceSteps.{state, address_done, address_ready, address_state}
use proofs.convert.run.SourceRun.set_address.Goals as goal

pub invariant_of-self : goal.invariant_of-self
invariant_of-self g c =
    let h = c.self.inside.program.meaning in
    let h2 = c.execute-never_refused.new.program.meaning in
    let done = address_done c.args.address c.self.inside.row c.execute-never_refused.new.self h h2 _
    c.execute-never_refused.ensures.executed in
    address_ready c.args.address c.self.inside.row c.execute-never_refused.new.self h h2 c.self.invariant done.0

pub returns : goal.returns
returns g c =
    let h = c.self.inside.program.meaning in
    let h2 = c.execute-never_refused.new.program.meaning in
    let r2 = c.execute-never_refused.new.self in
    let u = c.self.inside.instructions in
    let done = address_done c.args.address c.self.inside.row r2 h h2 _ c.execute-never_refused.ensures.executed in
    subst
    (λ (s : SourceRun). state h2 r2 c.args.address (Some c.args.address) u ≡ state_after (SetAddress c.args.address) s)
    c.self.view_is
    (address_state c.args.address h h2 c.self.inside.row c.self.inside.base c.self.inside.pending u done.1 done.0)
