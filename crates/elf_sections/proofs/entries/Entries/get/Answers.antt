use Rattle.std.proofs.Common.{◌<◌, ◌≤◌, ◌*◌, ◌/◌, sym, ◌∙◌, ap, subst, ℕ, Some, length, drop}
use Rattle.elf_sections.proofs.StepLaws.{value_at, no_value_at}
use Rattle.elf_sections.proofs.entries.Entries.get.Goals as goal

pub returns-then-index-count-clause-value : goal.returns-then-index-count-clause-value
returns-then-index-count-clause-value c =
    ap Some c.at.ensures.value
    ∙ sym (value_at (λ index. drop (index * c.args.self.now.size) c.args.self.now.bytes.now)
    (length c.args.self.now.bytes.now / c.args.self.now.size)
    c.args.index (subst (λ (n : ℕ). c.args.index < n) c.count.ensures c.if-index-count.true))

pub returns-else-index-count-clause-value : goal.returns-else-index-count-clause-value
returns-else-index-count-clause-value c =
    sym (no_value_at (λ index. drop (index * c.args.self.now.size) c.args.self.now.bytes.now)
    (length c.args.self.now.bytes.now / c.args.self.now.size)
    c.args.index (subst (λ (n : ℕ). n ≤ c.args.index) c.count.ensures c.if-index-count.false))
