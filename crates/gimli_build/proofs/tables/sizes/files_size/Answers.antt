use Rattle.std.specs.Prelude.{◌-◌, ◌^◌}
use Rattle.gimli_build.proofs
use proofs.Common.{arith, line_text, details, file_size, take_all}
use proofs.sizes.Saturated.{next_part}
use proofs.tables.sizes.files_size.Goals as goal

pub loop-index-preserved : goal.loop-index-preserved
loop-index-preserved c =
    let file = c.file-directory.result in
    next_part (file_size c.args.format) c.args.tables.now.files c.loop-index.index
    ((line_text file.0.now, file.1), details file.2.now) (2 ^ 64 - 1) _ _ _ c.file-directory.ensures
    c.loop-index.invariant c.file_size.ensures c.saturating_add-size.ensures

pub returns : goal.returns
returns c = grind (arith, take_all)
