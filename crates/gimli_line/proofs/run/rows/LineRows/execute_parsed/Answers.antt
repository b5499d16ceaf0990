use Rattle.std.specs.Prelude.{◌≡◌, ◌≢◌}
use Rattle.gimli_line.proofs
use proofs.Common.{inl, inr, refl, sym, ap, ◌∙◌, true, false, without_files, InsHasOrder, Unread, AddressOverflow}
use proofs.Common.{OutOfMemory}
use proofs.ExecutionLaws.{done_of, refused_of}
use proofs.Runs.{source_same}
use proofs.Steps.{keeps_rest, keeps_run, step_done, step_faults, step_goes, step_overflows, step_wants}
use proofs.run.rows.LineRows.execute_parsed.Goals as goal

apart : OutOfMemory ≢ AddressOverflow
apart e = cc

pub returns-in-Err : goal.returns-in-Err
returns-in-Err g c =
    rw (← c.self.view_is)
    (step_faults _ _ _ c.header.ensures.meaning _ _ (refl, refl, refl) _ (refl, refl, refl) c.in-Err.ensures.refusal
    (keeps_rest _ _ _ c.in-Err.ensures.layout))

pub returns-in-Ok-None : goal.returns-in-Ok-None
returns-in-Ok-None g c =
    let n = rw c.in-Ok-None.field-0-is at c.in-Ok-None.ensures.next in
    let nothing : c.next_instruction.new.self
    ≡ c.self.inside.instructions = source_same _ _ (n.1 ∙ sym n.0) c.in-Ok-None.ensures.layout in
    rw (← c.self.view_is) (step_done _ _ (rw nothing refl) n.0)

pub returns-then-not-made : goal.returns-then-not-made
returns-then-not-made g c =
    let n = rw c.in-Ok-Some.field-0-is at c.in-Ok-Some.ensures.next in
    let operands = rw c.in-Ok-Some.field-0-is at c.in-Ok-Some.ensures.operands in
    let d = done_of _ _ _ _ _ _ _ c.in-Ok.ensures.executed in
    rw (← c.self.view_is)
    (step_goes _ _ _ c.header.ensures.meaning _ _ (refl, refl, refl) _ n c.in-Ok-Some.ensures.layout _
    d.files d.fits false (d.makes ∙ c.if-not-made.true) d.step (refl, refl, refl)
    (keeps_run _ _ _ _ _ (refl, refl, refl) (refl, refl, refl) (ap without_files d.files)
    c.in-Ok-Some.ensures.layout
    (λ is_big. InsHasOrder g.R.Reader.seen is_big c.in-Ok-Some.instruction) c.execute.ensures.source operands))

pub returns : goal.returns
returns g c =
    let n = rw c.in-Ok-Some.field-0-is at c.in-Ok-Some.ensures.next in
    let operands = rw c.in-Ok-Some.field-0-is at c.in-Ok-Some.ensures.operands in
    let d = done_of _ _ _ _ _ _ _ c.in-Ok.ensures.executed in
    rw (← c.self.view_is)
    (step_goes _ _ _ c.header.ensures.meaning _ _ (refl, refl, refl) _ n c.in-Ok-Some.ensures.layout _
    d.files d.fits true (d.makes ∙ c.if-not-made.false) d.step (refl, refl, refl)
    (keeps_run _ _ _ _ _ (refl, refl, refl) (refl, refl, refl) (ap without_files d.files)
    c.in-Ok-Some.ensures.layout
    (λ is_big. InsHasOrder g.R.Reader.seen is_big c.in-Ok-Some.instruction) c.execute.ensures.source operands))

pub returns-in-OutOfMemory : goal.returns-in-OutOfMemory
returns-in-OutOfMemory g c =
    let n = rw c.in-Ok-Some.field-0-is at c.in-Ok-Some.ensures.next in
    let operands = rw c.in-Ok-Some.field-0-is at c.in-Ok-Some.ensures.operands in
    elim (refused_of _ _ _ _ _ _ _ c.in-Err-execute.ensures.executed) [
      | inl over ↦ absurd (apart (sym c.in-OutOfMemory.is ∙ over.0))
      | inr m ↦ rw (c.in-OutOfMemory.is, ← c.self.view_is)
          (step_wants _ _ _ c.header.ensures.meaning _ _ (refl, refl, refl) _ c.next_instruction.new.self n m.1.defines
          _
          m.1.kept m.1.adds
          (ap (λ (s : Unread). s.bytes) c.clear.ensures) (refl, refl, refl)
          (keeps_run _ _ _ _ _ (refl, refl, refl) (refl, refl, refl) (ap without_files m.1.kept)
          (ap (λ (u : Unread). u.layout) c.clear.ensures ∙ c.in-Ok-Some.ensures.layout)
          (λ is_big. InsHasOrder g.R.Reader.seen is_big c.in-Ok-Some.instruction) c.execute.ensures.source operands))
    ]

pub returns-in_default : goal.returns-in_default
returns-in_default g c =
    let n = rw c.in-Ok-Some.field-0-is at c.in-Ok-Some.ensures.next in
    let operands = rw c.in-Ok-Some.field-0-is at c.in-Ok-Some.ensures.operands in
    elim (refused_of _ _ _ _ _ _ _ c.in-Err-execute.ensures.executed) [
      | inr lacks ↦ absurd (c.in_default.not-OutOfMemory lacks.0)
      | inl o ↦ rw (o.0, ← c.self.view_is)
          (step_overflows _ _ _ c.header.ensures.meaning _ _ (refl, refl, refl) _ n c.in-Ok-Some.ensures.layout _
          o.1.kept o.1.over o.1.step (refl, refl, refl)
          (keeps_run _ _ _ _ _ (refl, refl, refl) (refl, refl, refl) (ap without_files o.1.kept)
          c.in-Ok-Some.ensures.layout
          (λ is_big. InsHasOrder g.R.Reader.seen is_big c.in-Ok-Some.instruction) c.execute.ensures.source operands))
    ]
