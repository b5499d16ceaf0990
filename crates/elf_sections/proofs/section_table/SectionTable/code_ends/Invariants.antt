use Rattle.std.proofs.Common.{◌≡◌, ◌++◌, map}
use Rattle.elf_sections.specs.SectionHeader.{code_end_of}
use Rattle.elf_sections.specs.SectionTable.{table_of}
use Rattle.elf_sections.proofs.Headers.{header_of, values}
use Rattle.elf_sections.proofs.section_table.SectionTable.code_ends.Given as goal

-- the ends so far, and those of the headers from the index on
abbrev pub invariant-loop-index : goal.invariant-loop-index
invariant-loop-index l =
    map code_end_of (table_of l.self).headers
    ≡ l.ends.items
    ++ map code_end_of (values (header_of l.self.layout l.self.entry_size l.self.entries.now) l.self.count l.index)
