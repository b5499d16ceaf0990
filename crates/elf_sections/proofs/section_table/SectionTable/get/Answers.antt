use Rattle.std.proofs.Common.{sym, ◌∙◌, ap, Some}
use Rattle.elf_sections.proofs.Headers.{header_at_index, no_header_at_index}
use Rattle.elf_sections.proofs.section_table.SectionTable.get.Goals as goal

pub returns-then-index-self : goal.returns-then-index-self
returns-then-index-self c =
    ap Some c.header.ensures
    ∙ sym
    (header_at_index c.args.self.now.layout c.args.self.now.entry_size c.args.self.now.count c.args.self.now.entries.now
    c.args.index c.if-index-self.true)

pub returns-else-index-self : goal.returns-else-index-self
returns-else-index-self c =
    sym
    (no_header_at_index c.args.self.now.layout c.args.self.now.entry_size c.args.self.now.count
    c.args.self.now.entries.now c.args.index c.if-index-self.false)
