use Rattle.std.specs.Prelude.{◌-◌, ◌^◌}
use Rattle.gimli_build.proofs
use proofs.Common.{line_text, details, entry_size, take_all}
use proofs.sizes.Saturated.{next_part}
use proofs.tables.sizes.entries_size.Goals as goal

pub loop-index-preserved : goal.loop-index-preserved
loop-index-preserved c = λ texts.
    let p = c.args.program.now in
    let file = c.file-file.result in
    let there = rw c.tables-tables.ensures.files at c.file-file.ensures in
    next_part (entry_size p texts) p.files c.loop-index.index ((line_text file.0.now, file.1), details file.2.now)
    (2 ^ 64 - 1) _ _ _ there (c.loop-index.invariant texts) (c.entry_size.ensures texts) c.saturating_add-size.ensures

pub returns : goal.returns
returns c = λ texts.
    let end = rw (c.file_count-index-end.ensures.count, c.tables-tables.ensures.files) at c.loop-index-test.false in
    rw (take_all _ _ end) at (c.loop-index.invariant texts)
