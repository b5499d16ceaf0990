use Rattle.std.proofs.Common.{◌≡◌, ◌&&◌, Bool}
use Rattle.std.specs.List.{position_from}
use Rattle.elf_sections.specs.SectionHeader.{is_active}
use Rattle.elf_sections.specs.Table.{is_name_at}
use Rattle.elf_sections.specs.SectionTable.{table_of}
use Rattle.elf_sections.specs.declared.section_header.SectionHeader.{SectionHeader}
use Rattle.elf_sections.proofs.Headers.{header_of}
use Rattle.elf_sections.proofs.StepLaws.{first_index}
use Rattle.elf_sections.proofs.section_table.SectionTable.index_of.Given as goal

-- no header before the index is the section's
abbrev pub invariant-loop-index : goal.invariant-loop-index
invariant-loop-index l =
    let named : SectionHeader → Bool = λ header. is_active header && is_name_at l.names header.name l.name in
    position_from named 0 (table_of l.self).headers
    ≡ first_index named (header_of l.self.layout l.self.entry_size l.self.entries.now) l.self.count l.index
