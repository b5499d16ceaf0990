use Rattle.std.proofs.Common.{sym, ◌∙◌, ap, arith, ◌&&◌, Bool, ℕ}
use Rattle.std.specs.List.{position_from}
use Rattle.elf_sections.specs.SectionHeader.{is_active}
use Rattle.elf_sections.specs.Table.{is_name_at}
use Rattle.elf_sections.specs.declared.section_header.SectionHeader.{SectionHeader}
use Rattle.elf_sections.proofs.Headers.{header_of, values_all}
use Rattle.elf_sections.proofs.StepLaws.{index_found, index_passed, index_end}
use Rattle.elf_sections.proofs.section_table.SectionTable.index_of.Goals as goal
use Rattle.elf_sections.proofs.section_table.SectionTable.index_of.Goals.{
  else-is_active-via-then-is_active+else-is_name_at,
  else-is_active-via-else-is_active,
}

pub loop-index-init : goal.loop-index-init
loop-index-init c =
    ap (position_from (λ header. is_active header && is_name_at c.args.names.now header.name c.args.name.now) 0)
    (values_all (header_of c.args.self.now.layout c.args.self.now.entry_size c.args.self.now.entries.now)
    c.args.self.now.count)

pub returns-then-is_name_at : goal.returns-then-is_name_at
returns-then-is_name_at c =
    sym (c.loop-index.invariant
    ∙ index_found (λ header. is_active header && is_name_at c.args.names.now header.name c.args.name.now)
    (header_of c.args.self.now.layout c.args.self.now.entry_size c.args.self.now.entries.now) c.args.self.now.count
    c.loop-index.index
    c.header-found.result c.loop-index-test.true c.header-found.ensures
    (ap (λ b. b && is_name_at c.args.names.now c.header-found.result.name c.args.name.now)
    (sym c.is_active.ensures ∙ c.if-is_active.true)
    ∙ sym c.is_name_at.ensures ∙ c.if-is_name_at.true))

pub loop-index-preserved : goal.loop-index-preserved
loop-index-preserved c =
    let named : SectionHeader → Bool = λ header.
    is_active header && is_name_at c.args.names.now header.name c.args.name.now in
    let f : ℕ
    → SectionHeader = header_of c.args.self.now.layout c.args.self.now.entry_size c.args.self.now.entries.now in
    elim c.else-is_active.branch [
      | else-is_active-via-then-is_active+else-is_name_at w ↦ c.loop-index.invariant
          ∙ index_passed named f c.args.self.now.count c.loop-index.index c.header-found.result c.loop-index-test.true
          c.header-found.ensures
          (ap (λ b. b && is_name_at c.args.names.now c.header-found.result.name c.args.name.now)
          (sym c.is_active.ensures ∙ w.if-is_active.true)
          ∙ sym w.is_name_at.ensures ∙ w.if-is_name_at.false)
      | else-is_active-via-else-is_active w ↦ c.loop-index.invariant
          ∙ index_passed named f c.args.self.now.count c.loop-index.index c.header-found.result c.loop-index-test.true
          c.header-found.ensures
          (ap (λ b. b && is_name_at c.args.names.now c.header-found.result.name c.args.name.now)
          (sym c.is_active.ensures ∙ w.if-is_active.false))
    ]

pub returns : goal.returns
returns c =
    sym (c.loop-index.invariant
    ∙ index_end (λ header. is_active header && is_name_at c.args.names.now header.name c.args.name.now)
    (header_of c.args.self.now.layout c.args.self.now.entry_size c.args.self.now.entries.now) c.args.self.now.count
    c.loop-index.index (omega arith))
