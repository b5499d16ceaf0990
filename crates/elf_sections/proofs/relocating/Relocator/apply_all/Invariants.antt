use Rattle.std.proofs.Common.{◌≡◌}
use Rattle.std.specs.List.{filter}
use Rattle.elf_sections.specs.Elf.{file_of}
use Rattle.elf_sections.specs.Relocation.{relocates}
use Rattle.elf_sections.specs.Relocating.{section_applied}
use Rattle.elf_sections.specs.Steps.{steps}
use Rattle.elf_sections.proofs.Headers.{header_of}
use Rattle.elf_sections.proofs.StepLaws.{kept_from}
use Rattle.elf_sections.proofs.relocating.Relocator.apply_all.Given as goal

-- what the sections from the index on make of the bytes so far is what all make
abbrev pub invariant-loop-other : goal.invariant-loop-other
invariant-loop-other l =
    let table = l.self.elf.table in
    steps (section_applied (file_of l.self.elf) l.self.place) l.initial.bytes
    (filter (relocates l.index) (file_of l.self.elf).headers)
    ≡ kept_from (section_applied (file_of l.self.elf) l.self.place) (relocates l.index)
    (header_of table.layout table.entry_size table.entries.now) table.count l.other l.bytes
