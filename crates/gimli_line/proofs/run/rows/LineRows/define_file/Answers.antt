use Rattle.gimli_line.proofs
use proofs.Common.{refl, ap, ◌∙◌, false, FileHasOrder, without_files, Unread}
use proofs.InstructionLaws.{reads_instruction}
use proofs.Steps.{keeps_run, step_goes, step_wants}
use proofs.run.rows.LineRows.define_file.Goals as goal

pub returns-in-Ok : goal.returns-in-Ok
returns-in-Ok g c =
    let n = (reads_instruction _ c.header-header.result.now.meaning).found _ _ _ c.in-Some.ensures.read in
    rw (← c.self.view_is) (step_goes _ _ _ c.header-header.ensures.meaning _ _ (refl, refl, refl) _ n
    c.in-Some.ensures.layout _ c.in-Ok.ensures.ok refl false
    refl refl (refl, refl, refl)
    (keeps_run _ _ _ _ _ (refl, refl, refl) (refl, refl, refl) (ap without_files c.in-Ok.ensures.ok)
    c.in-Some.ensures.layout
    (λ is_big. FileHasOrder g.R.Reader.seen is_big c.in-Some.file) c.in-Ok.ensures.source c.in-Some.ensures.order))

pub returns-in-Err : goal.returns-in-Err
returns-in-Err g c =
    let n = (reads_instruction _ c.header-header.result.now.meaning).found _ _ _ c.in-Some.ensures.read in
    let m = c.in-Err.ensures.memory in
    rw (m.0, ← c.self.view_is)
    (step_wants _ _ _ c.header-header.ensures.meaning _ _ (refl, refl, refl) _ c.next_defined_file.new.self n refl _
    c.in-Err.ensures.err m.1
    (ap (λ (s : Unread). s.bytes) c.clear.ensures) (refl, refl, refl)
    (keeps_run _ _ _ _ _ (refl, refl, refl) (refl, refl, refl) (ap without_files c.in-Err.ensures.err)
    (ap (λ (u : Unread). u.layout) c.clear.ensures ∙ c.in-Some.ensures.layout)
    (λ is_big. FileHasOrder g.R.Reader.seen is_big c.in-Some.file) c.in-Err.ensures.source c.in-Some.ensures.order))
