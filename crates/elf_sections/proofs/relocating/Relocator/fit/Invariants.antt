use Rattle.std.proofs.Common.{◌≡◌, length}
use Rattle.std.specs.List.{filter}
use Rattle.elf_sections.specs.Elf.{file_of}
use Rattle.elf_sections.specs.Relocation.{relocates}
use Rattle.elf_sections.specs.Relocating.{room_after}
use Rattle.elf_sections.specs.Steps.{steps}
use Rattle.elf_sections.proofs.Headers.{header_of}
use Rattle.elf_sections.proofs.StepLaws.{kept_from}
use Rattle.elf_sections.proofs.relocating.Relocator.fit.Given as goal

-- what the sections from the index on leave of the room so far is what all leave
abbrev pub invariant-loop-other : goal.invariant-loop-other
invariant-loop-other l =
    let file = file_of l.self.elf in
    let table = l.self.elf.table in
    steps room_after (length file.bytes) (filter (relocates l.index) file.headers)
    ≡ kept_from room_after (relocates l.index) (header_of table.layout table.entry_size table.entries.now)
    table.count l.other l.room
