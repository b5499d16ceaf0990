use Rattle.std.proofs.Common.{sym, ◌∙◌, ap, map, ℕ, ◌+◌, List, [], ◌∷◌, ◌++◌, append_assoc}
use Rattle.elf_sections.specs.SectionHeader.{code_end_of}
use Rattle.elf_sections.specs.declared.section_header.SectionHeader.{SectionHeader}
use Rattle.elf_sections.proofs.Headers.{header_of, values, values_step}
use Rattle.elf_sections.proofs.section_table.SectionTable.code_ends.Goals as goal

pub loop-index-preserved : goal.loop-index-preserved
loop-index-preserved c =
    let f : ℕ
    → SectionHeader = header_of c.args.self.now.layout c.args.self.now.entry_size c.args.self.now.entries.now in
    let later : List ℕ = map code_end_of (values f c.args.self.now.count (c.loop-index.index + 1)) in
    c.loop-index.invariant
    ∙ ap (λ headers. c.loop-index.ends.items ++ map code_end_of headers)
    (values_step f c.args.self.now.count c.loop-index.index c.loop-index-test.true)
    ∙ ap (λ end. c.loop-index.ends.items ++ end ∷ later) (sym (c.code_end.ensures ∙ ap code_end_of c.header.ensures))
    ∙ sym (append_assoc c.loop-index.ends.items (c.code_end.result ∷ []) later)
    ∙ ap (λ ends. ends ++ later) (sym c.in_ok-push.ensures.items)
