use Rattle.std.proofs.Common.{rules, refl}
use Rattle.lines_reports.proofs.Counting.{one_piece}
use Rattle.lines_reports.proofs.tally.Tally.add.Goals as goal

pub returns : goal.returns
returns c =
    one_piece _ _ c.args.kind c.args.bytes c.args.operands _ _ c.number-number.ensures.number (search rules) refl
    (c.with_piece.ensures c.args.kind)
