use Rattle.std.proofs.Common.{sym, ◌∙◌, ap, Some, None, arith}
use Rattle.elf_sections.specs.SectionTable.{table_of}
use Rattle.elf_sections.specs.Table.{names_or_cut}
use Rattle.elf_sections.proofs.Headers.{header_at_index, no_header_at_index}
use Rattle.elf_sections.proofs.TableNames.{names_of}
use Rattle.elf_sections.proofs.section_table.SectionTable.names.Goals as goal

pub returns-then-self-index : goal.returns-then-self-index
returns-then-self-index c =
    sym (names_of c.args.file.now (table_of c.args.self.now) None c.if-self-eq-UNDEF.false
    (no_header_at_index c.args.self.now.layout c.args.self.now.entry_size c.args.self.now.count
    c.args.self.now.entries.now
    c.args.self.now.names_index c.if-self-index.true))

pub returns-in-Ok : goal.returns-in-Ok
returns-in-Ok c =
    sym (names_of c.args.file.now (table_of c.args.self.now) (Some c.header.result) c.if-self-eq-UNDEF.false
    (header_at_index c.args.self.now.layout c.args.self.now.entry_size c.args.self.now.count c.args.self.now.entries.now
    c.args.self.now.names_index (omega arith)
    ∙ ap Some (sym c.header.ensures))
    ∙ ap names_or_cut (sym c.in-Ok.ensures))

pub returns-in-Err : goal.returns-in-Err
returns-in-Err c =
    sym (names_of c.args.file.now (table_of c.args.self.now) (Some c.header.result) c.if-self-eq-UNDEF.false
    (header_at_index c.args.self.now.layout c.args.self.now.entry_size c.args.self.now.count c.args.self.now.entries.now
    c.args.self.now.names_index (omega arith)
    ∙ ap Some (sym c.header.ensures))
    ∙ ap names_or_cut (sym c.in-Err.ensures))
