use Rattle.std.proofs.Common.{◌+◌, ◌*◌, ◌/◌, ◌<◌, ℕ, List, length, drop, sym, ◌∙◌, ap, subst, Result}
use Rattle.std.proofs.lemmas.Result.{err_from_is_err_and}
use Rattle.elf_sections.specs.Steps.{◌>>=◌}
use Rattle.elf_sections.specs.Entries.{entries}
use Rattle.elf_sections.specs.Relocating.{applied, entry_applied}
use Rattle.elf_sections.specs.Elf.{file_of}
use Rattle.elf_sections.specs.Relocation.{of_machine}
use Rattle.elf_sections.specs.declared.error.ElfError.{ElfError}
use Rattle.elf_sections.specs.declared.relocation.Relocation.{Relocation}
use Rattle.elf_sections.proofs.StepLaws.{steps_from, steps_next}
use Rattle.elf_sections.proofs.relocating.Relocator.apply_entries.Goals as goal

pub returns-in_err-apply : goal.returns-in_err-apply
returns-in_err-apply c =
    let step : List ℕ → List ℕ → Result (List ℕ) ElfError
    =
    entry_applied (file_of c.args.self.now.elf) c.args.self.now.place c.args.form
    (entries c.args.symbols.now.size c.args.symbols.now.bytes.now) in
    let f : ℕ → List ℕ = λ index. drop (index * c.args.all.now.size) c.args.all.now.bytes.now in
    let n : ℕ = length c.args.all.now.bytes.now / c.args.all.now.size in
    let p = err_from_is_err_and c.from_residual.result c.from_residual.ensures.1 in
    rw (p.1, p.2) (sym (c.loop-index.invariant
    ∙ steps_next step f n c.loop-index.index c.loop-index.bytes c.at.result.now
    (subst (λ (end : ℕ). c.loop-index.index < end) c.count-index-end.ensures c.loop-index-test.true) c.at.ensures.value
    ∙ ap (λ (r : Result (List ℕ) ElfError). r >>= λ s. steps_from step f n (c.loop-index.index + 1) s)
    (ap (λ (entry : Relocation).
    applied (file_of c.args.self.now.elf) c.args.self.now.place
    (entries c.args.symbols.now.size c.args.symbols.now.bytes.now)
    c.loop-index.bytes entry) (sym (c.of_machine-entry.ensures
    ∙ ap (λ (r : Relocation). of_machine c.args.self.now.elf.machine c.args.self.now.elf.layout r)
    c.parse-noted.ensures))
    ∙ sym c.in_err-apply.ensures)))

pub loop-index-preserved : goal.loop-index-preserved
loop-index-preserved c =
    let step : List ℕ → List ℕ → Result (List ℕ) ElfError
    =
    entry_applied (file_of c.args.self.now.elf) c.args.self.now.place c.args.form
    (entries c.args.symbols.now.size c.args.symbols.now.bytes.now) in
    let f : ℕ → List ℕ = λ index. drop (index * c.args.all.now.size) c.args.all.now.bytes.now in
    let n : ℕ = length c.args.all.now.bytes.now / c.args.all.now.size in
    c.loop-index.invariant
    ∙ steps_next step f n c.loop-index.index c.loop-index.bytes c.at.result.now
    (subst (λ (end : ℕ). c.loop-index.index < end) c.count-index-end.ensures c.loop-index-test.true) c.at.ensures.value
    ∙ ap (λ (r : Result (List ℕ) ElfError). r >>= λ s. steps_from step f n (c.loop-index.index + 1) s)
    (ap (λ (entry : Relocation).
    applied (file_of c.args.self.now.elf) c.args.self.now.place
    (entries c.args.symbols.now.size c.args.symbols.now.bytes.now)
    c.loop-index.bytes entry) (sym (c.of_machine-entry.ensures
    ∙ ap (λ (r : Relocation). of_machine c.args.self.now.elf.machine c.args.self.now.elf.layout r)
    c.parse-noted.ensures))
    ∙ sym c.in_ok-apply.ensures)
