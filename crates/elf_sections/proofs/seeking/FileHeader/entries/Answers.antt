use Rattle.std.proofs.Common.{◌≡◌, ◌<◌, ◌*◌, ◌+◌, sym, ap, ℕ, arith}
use Rattle.elf_sections.proofs.FileRanges.{range_past}
use Rattle.elf_sections.proofs.seeking.FileHeader.entries.Goals as goal

past : (count size width offset length : ℕ) → width ≡ size → (count * width < 18446744073709551616 → ⊥)
    → length < 18446744073709551616 → length < offset + count * size
past count size width offset length same large fits =
    let product = ap (λ n. count * n) same in omega (arith, product, large)

pub returns-in-None : goal.returns-in-None
returns-in-None c =
    sym (range_past c.args.self.now.header.table_offset (c.args.count * c.args.self.now.header.entry_size)
    c.args.self.now.length
    (past c.args.count c.args.self.now.header.entry_size c.from.result c.args.self.now.header.table_offset
    c.args.self.now.length
    c.from.ensures c.in-None.ensures (omega arith)))
