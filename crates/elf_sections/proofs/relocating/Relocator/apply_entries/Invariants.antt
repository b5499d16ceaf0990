use Rattle.std.proofs.Common.{◌≡◌, ◌*◌, ◌/◌, length, drop}
use Rattle.elf_sections.specs.Elf.{file_of}
use Rattle.elf_sections.specs.Entries.{entries}
use Rattle.elf_sections.specs.Steps.{steps}
use Rattle.elf_sections.specs.Relocating.{entry_applied}
use Rattle.elf_sections.proofs.StepLaws.{steps_from}
use Rattle.elf_sections.proofs.relocating.Relocator.apply_entries.Given as goal

-- what the entries from the index on make of the bytes so far is what all make
abbrev pub invariant-loop-index : goal.invariant-loop-index
invariant-loop-index l =
    let step = entry_applied (file_of l.self.elf) l.self.place l.form (entries l.symbols.size l.symbols.bytes.now) in
    steps step l.initial.bytes (entries l.all.size l.all.bytes.now)
    ≡ steps_from step (λ index. drop (index * l.all.size) l.all.bytes.now) (length l.all.bytes.now / l.all.size) l.index
    l.bytes
