use Rattle.std.proofs.Common.{◌≡◌, ◌+◌, sym, ◌∙◌, ap, subst, map, Option, Some, None, MatchOption, ℕ, List, [], arith}
use Rattle.std.specs.List.{filter}
use Rattle.elf_sections.specs.File.{IsLeast, IsGreatest}
use Rattle.elf_sections.specs.SectionHeader.{is_active, is_code, end_of}
use Rattle.elf_sections.specs.SectionTable.{table_of}
use Rattle.elf_sections.specs.declared.section_header.SectionHeader.{SectionHeader}
use Rattle.elf_sections.specs.declared.code_bounds.CodeBounds.{CodeBounds}
use Rattle.elf_sections.proofs.Headers.{header_of, values_all, kept_from, kept, passed, left, kept_end}
use Rattle.elf_sections.proofs.CodeBounds.{bounds_of, lowest_of_all, end_of_all}
use Rattle.elf_sections.proofs.section_table.SectionTable.code_bounds.Goals as goal
use Rattle.elf_sections.proofs.section_table.SectionTable.code_bounds.Goals.{
  then-is_active+then-is_code,
  else-is_active,
  else-is_active-via-then-is_active+else-is_code,
  else-is_active-via-else-is_active,
}

pub loop-index-init : goal.loop-index-init
loop-index-init c =
    ap (λ headers. bounds_of None (filter is_code (filter is_active headers)))
    (values_all (header_of c.args.self.now.layout c.args.self.now.entry_size c.args.self.now.entries.now)
    c.args.self.now.count)

pub loop-index-preserved : goal.loop-index-preserved
loop-index-preserved c =
    let f : ℕ
    → SectionHeader = header_of c.args.self.now.layout c.args.self.now.entry_size c.args.self.now.entries.now in
    let later : List SectionHeader = kept_from is_code is_active f c.args.self.now.count (c.loop-index.index + 1) in
    elim c.if-is_active.branch [
      | then-is_active+then-is_code w ↦ c.loop-index.invariant
          ∙ ap (bounds_of c.loop-index.bounds)
          (kept is_code is_active f c.args.self.now.count c.loop-index.index c.header-header.result
          c.loop-index-test.true c.header-header.ensures
          (sym c.is_active.ensures ∙ w.if-is_active.true) (sym w.is_code.ensures ∙ w.if-is_code.true))
          ∙ ap (λ bounds. bounds_of bounds later) (ap Some (sym w.widened.ensures) ∙ sym w.bounds-is)
      | else-is_active w ↦ c.loop-index.invariant
          ∙ elim w.else-is_active.branch [
            | else-is_active-via-then-is_active+else-is_code v ↦
                ap (bounds_of c.loop-index.bounds)
                (passed is_code is_active f c.args.self.now.count c.loop-index.index c.header-header.result
                c.loop-index-test.true c.header-header.ensures
                (sym c.is_active.ensures ∙ v.if-is_active.true) (sym v.is_code.ensures ∙ v.if-is_code.false))
            | else-is_active-via-else-is_active v ↦
                ap (bounds_of c.loop-index.bounds)
                (left is_code is_active f c.args.self.now.count c.loop-index.index c.header-header.result
                c.loop-index-test.true c.header-header.ensures (sym c.is_active.ensures ∙ v.if-is_active.false))
          ]
          ∙ ap (λ bounds. bounds_of bounds later) (sym w.bounds-is)
    ]

pub returns-clause-lowest : goal.returns-clause-lowest
returns-clause-lowest c =
    let headers : List SectionHeader = filter is_code (filter is_active (table_of c.args.self.now).headers) in
    let addresses : List ℕ = map (λ header. header.address) headers in
    let none_left =
    kept_end is_code is_active
    (header_of c.args.self.now.layout c.args.self.now.entry_size c.args.self.now.entries.now)
    c.args.self.now.count c.loop-index.index (omega arith) in
    subst (λ (o : Option CodeBounds). MatchOption o (addresses ≡ []) (λ bounds. IsLeast addresses bounds.lowest))
    (c.loop-index.invariant ∙ ap (bounds_of c.loop-index.bounds) none_left) (lowest_of_all headers)

pub returns-clause-end : goal.returns-clause-end
returns-clause-end c =
    let headers : List SectionHeader = filter is_code (filter is_active (table_of c.args.self.now).headers) in
    let ends : List ℕ = map end_of headers in
    let none_left =
    kept_end is_code is_active
    (header_of c.args.self.now.layout c.args.self.now.entry_size c.args.self.now.entries.now)
    c.args.self.now.count c.loop-index.index (omega arith) in
    subst (λ (o : Option CodeBounds). MatchOption o (ends ≡ []) (λ bounds. IsGreatest ends bounds.end))
    (c.loop-index.invariant ∙ ap (bounds_of c.loop-index.bounds) none_left) (end_of_all headers)
