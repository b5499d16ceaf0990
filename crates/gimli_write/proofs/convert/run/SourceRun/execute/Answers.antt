use Rattle.std.specs.Prelude.{◌≡◌}
use Rattle.gimli_write.proofs
use proofs.Common
use Common.{true, false, refl, ap, ◌∙◌, subst, is_refused, reset_row, state_after, step_made, ins_seen, Read}
use Rattle.gimli_line.proofs.ExecutionLaws.{done_of, overflow_of}
use proofs.SourceSteps
use SourceSteps.{state, ready_at_refusal, ready_when_quiet, ready_after_row, header_kept, quiet_state}
use SourceSteps.{row_state, made_is}
use proofs.convert.run.SourceRun.execute.Goals as goal

pub invariant_of-self : goal.invariant_of-self
invariant_of-self g c =
    let o = (overflow_of _ _ _ _ _ _ _ c.requires.file c.in-Err.ensures.executed).1 in
    ready_at_refusal (ins_seen g.R.Reader.seen g.R.Offset.ReaderOffset.number c.args.instruction) c.self.inside.row
    c.execute.new.self c.self.invariant c.self.inside.program.meaning.parameters o.over o.step

pub returns-in-Err-clause-overflow : goal.returns-in-Err-clause-overflow
returns-in-Err-clause-overflow g c =
    let o = overflow_of _ _ _ _ _ _ _ c.requires.file c.in-Err.ensures.executed in (
      ap Read o.0,
      subst (λ s.
          is_refused s.header.parameters (ins_seen g.R.Reader.seen g.R.Offset.ReaderOffset.number c.args.instruction)
          s.row ≡ true) c.self.view_is o.1.over,
    )

pub returns-in-Err-clause-header : goal.returns-in-Err-clause-header
returns-in-Err-clause-header g c =
    let o = overflow_of _ _ _ _ _ _ _ c.requires.file c.in-Err.ensures.executed in
    subst (λ s. c.execute.new.program.meaning ≡ s.header) c.self.view_is o.1.kept

pub invariant_of-self-then-not-made : goal.invariant_of-self-then-not-made
invariant_of-self-then-not-made g c =
    let d = done_of _ _ _ _ _ _ _ c.in-Ok.ensures.executed in
    ready_when_quiet (ins_seen g.R.Reader.seen g.R.Offset.ReaderOffset.number c.args.instruction) c.self.inside.row
    c.execute.new.self c.self.invariant c.self.inside.program.meaning.parameters
    (d.makes ∙ c.if-not-made.true) d.step

pub returns-then-not-made-clause-fits : goal.returns-then-not-made-clause-fits
returns-then-not-made-clause-fits g c =
    let d = done_of _ _ _ _ _ _ _ c.in-Ok.ensures.executed in
    subst (λ s.
    is_refused s.header.parameters (ins_seen g.R.Reader.seen g.R.Offset.ReaderOffset.number c.args.instruction) s.row
    ≡ false) c.self.view_is d.fits

pub returns-then-not-made-clause-step : goal.returns-then-not-made-clause-step
returns-then-not-made-clause-step g c =
    let d = done_of _ _ _ _ _ _ _ c.in-Ok.ensures.executed in
    subst (λ s. state c.execute.new.program.meaning c.execute.new.self c.self.inside.base c.self.inside.pending
    c.self.inside.instructions
    ≡ state_after (ins_seen g.R.Reader.seen g.R.Offset.ReaderOffset.number c.args.instruction) s) c.self.view_is
    (quiet_state (ins_seen g.R.Reader.seen g.R.Offset.ReaderOffset.number c.args.instruction)
    c.self.inside.program.meaning c.execute.new.program.meaning
    c.self.inside.row c.execute.new.self c.self.inside.base c.self.inside.pending c.self.inside.instructions
    c.requires.address c.requires.file d.fits d.files d.step
    (d.makes ∙ c.if-not-made.true))

pub returns-then-not-made-clause-header : goal.returns-then-not-made-clause-header
returns-then-not-made-clause-header g c =
    let d = done_of _ _ _ _ _ _ _ c.in-Ok.ensures.executed in
    subst (λ s. c.execute.new.program.meaning ≡ s.header) c.self.view_is
    (header_kept (ins_seen g.R.Reader.seen g.R.Offset.ReaderOffset.number c.args.instruction)
    c.self.inside.program.meaning c.execute.new.program.meaning
    c.self.inside.row c.execute.new.self c.self.inside.base c.self.inside.pending c.self.inside.instructions
    c.requires.address c.requires.file d.fits d.files d.step)

pub returns-clause-fits : goal.returns-clause-fits
returns-clause-fits g c =
    let d = done_of _ _ _ _ _ _ _ c.in-Ok.ensures.executed in
    subst (λ s.
    is_refused s.header.parameters (ins_seen g.R.Reader.seen g.R.Offset.ReaderOffset.number c.args.instruction) s.row
    ≡ false) c.self.view_is d.fits

pub returns-clause-step : goal.returns-clause-step
returns-clause-step g c =
    let d = done_of _ _ _ _ _ _ _ c.in-Ok.ensures.executed in
    let reset : c.reset.new.self
    ≡ reset_row c.header.result.now.meaning.parameters c.execute.new.self = c.reset.ensures in
    let lent : c.header.result.now.meaning ≡ c.execute.new.program.meaning = rw c.header.ensures refl in
    subst
    (λ s. c.made.new.self ≡ state_after (ins_seen g.R.Reader.seen g.R.Offset.ReaderOffset.number c.args.instruction) s)
    c.self.view_is (c.made.ensures.new
    ∙ row_state (ins_seen g.R.Reader.seen g.R.Offset.ReaderOffset.number c.args.instruction)
    c.self.inside.program.meaning c.execute.new.program.meaning
    c.self.inside.row c.execute.new.self c.self.inside.base c.self.inside.pending c.self.inside.instructions
    c.requires.address c.requires.file d.fits d.files d.step
    (d.makes ∙ c.if-not-made.false) c.self.invariant lent reset refl refl)

pub returns-clause-made : goal.returns-clause-made
returns-clause-made g c =
    let d = done_of _ _ _ _ _ _ _ c.in-Ok.ensures.executed in
    subst
    (λ s. c.made.result ≡ step_made s (ins_seen g.R.Reader.seen g.R.Offset.ReaderOffset.number c.args.instruction))
    c.self.view_is
    (made_is (ins_seen g.R.Reader.seen g.R.Offset.ReaderOffset.number c.args.instruction) c.self.inside.program.meaning
    c.execute.new.program.meaning
    c.self.inside.row c.execute.new.self c.self.inside.base c.self.inside.pending c.self.inside.instructions
    c.requires.address c.requires.file d.fits d.files d.step
    c.made.ensures.step (d.makes ∙ c.if-not-made.false) refl)

pub returns-clause-header : goal.returns-clause-header
returns-clause-header g c =
    let d = done_of _ _ _ _ _ _ _ c.in-Ok.ensures.executed in
    subst (λ s. c.made.new.self.header ≡ s.header) c.self.view_is (ap (λ q. q.header) c.made.ensures.new
    ∙ header_kept (ins_seen g.R.Reader.seen g.R.Offset.ReaderOffset.number c.args.instruction)
    c.self.inside.program.meaning c.execute.new.program.meaning
    c.self.inside.row c.execute.new.self c.self.inside.base c.self.inside.pending c.self.inside.instructions
    c.requires.address c.requires.file d.fits d.files d.step)

pub invariant_of-self-2 : goal.invariant_of-self-2
invariant_of-self-2 g c =
    ready_after_row c.header.result.now.meaning.parameters c.execute.new.self c.reset.new.self c.reset.ensures

pub returns-clause-unread : goal.returns-clause-unread
returns-clause-unread g c =
    subst (λ s. c.made.new.self.unread ≡ s.unread) c.self.view_is (ap (λ q. q.unread) c.made.ensures.new)
