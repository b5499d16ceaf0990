use Rattle.std.proofs.Common.{◌+◌, ◌<◌, ℕ, Bool, sym, ◌∙◌, ap, subst, Result}
use Rattle.std.proofs.lemmas.Result.{err_from_is_err_and}
use Rattle.elf_sections.specs.Steps.{◌>>=◌}
use Rattle.elf_sections.specs.Relocation.{relocates}
use Rattle.elf_sections.specs.Relocating.{room_after}
use Rattle.elf_sections.specs.declared.error.ElfError.{ElfError}
use Rattle.elf_sections.specs.declared.section_header.SectionHeader.{SectionHeader}
use Rattle.elf_sections.proofs.Headers.{header_of}
use Rattle.elf_sections.proofs.StepLaws.{kept_from, kept_passes, kept_fails}
use Rattle.elf_sections.proofs.relocating.Relocator.fit.Goals as goal
use Rattle.elf_sections.proofs.relocating.Relocator.fit.Goals.{then-relocates+in_ok-room, else-relocates}

pub returns-in_err-room : goal.returns-in_err-room
returns-in_err-room c =
    let q : SectionHeader → Bool = relocates c.args.index in
    let table = c.args.self.now.elf.table in
    let f : ℕ → SectionHeader = header_of table.layout table.entry_size table.entries.now in
    let p = err_from_is_err_and c.from_residual.result c.from_residual.ensures.1 in
    rw (p.1, p.2) (sym (c.loop-other.invariant
    ∙ kept_passes room_after q f table.count c.loop-other.other c.loop-other.room c.header-header.result
    (subst (λ (end : ℕ). c.loop-other.other < end) c.len-other-end.ensures c.loop-other-test.true)
    c.header-header.ensures
    (sym c.relocates.ensures ∙ c.if-relocates.true)
    ∙ ap (λ (r : Result ℕ ElfError). r >>= λ s. kept_from room_after q f table.count (c.loop-other.other + 1) s)
    (sym c.in_err-room.ensures)))

pub loop-other-preserved : goal.loop-other-preserved
loop-other-preserved c =
    let q : SectionHeader → Bool = relocates c.args.index in
    let table = c.args.self.now.elf.table in
    let f : ℕ → SectionHeader = header_of table.layout table.entry_size table.entries.now in
    let within : c.loop-other.other < table.count
    = subst (λ (end : ℕ). c.loop-other.other < end) c.len-other-end.ensures c.loop-other-test.true in
    elim c.if-relocates.branch [
      | then-relocates+in_ok-room w ↦ c.loop-other.invariant
          ∙ kept_passes room_after q f table.count c.loop-other.other c.loop-other.room c.header-header.result within
          c.header-header.ensures
          (sym c.relocates.ensures ∙ w.if-relocates.true)
          ∙ ap (λ (r : Result ℕ ElfError). r >>= λ s. kept_from room_after q f table.count (c.loop-other.other + 1) s)
          (sym w.in_ok-room.ensures)
          ∙ ap (kept_from room_after q f table.count (c.loop-other.other + 1)) (sym w.room-is)
      | else-relocates w ↦ c.loop-other.invariant
          ∙ kept_fails room_after q f table.count c.loop-other.other c.loop-other.room c.header-header.result within
          c.header-header.ensures
          (sym c.relocates.ensures ∙ w.if-relocates.false)
          ∙ ap (kept_from room_after q f table.count (c.loop-other.other + 1)) (sym w.room-is)
    ]
