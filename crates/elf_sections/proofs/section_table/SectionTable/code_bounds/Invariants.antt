use Rattle.std.proofs.Common.{◌≡◌, None}
use Rattle.std.specs.List.{filter}
use Rattle.elf_sections.specs.SectionHeader.{is_active, is_code}
use Rattle.elf_sections.specs.SectionTable.{table_of}
use Rattle.elf_sections.proofs.Headers.{header_of, kept_from}
use Rattle.elf_sections.proofs.CodeBounds.{bounds_of}
use Rattle.elf_sections.proofs.section_table.SectionTable.code_bounds.Given as goal

-- the bounds so far, and the headers from the index on
abbrev pub invariant-loop-index : goal.invariant-loop-index
invariant-loop-index l =
    bounds_of None (filter is_code (filter is_active (table_of l.self).headers))
    ≡ bounds_of l.bounds
    (kept_from is_code is_active (header_of l.self.layout l.self.entry_size l.self.entries.now) l.self.count l.index)
