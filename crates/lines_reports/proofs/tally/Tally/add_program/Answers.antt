use Rattle.std.proofs.Common.{◌∙◌}
use Rattle.lines_reports.proofs.Counting.{program_counted}
use Rattle.lines_reports.proofs.tally.Tally.add_program.Goals as goal

pub returns : goal.returns
returns g c =
    let end = c.add_instructions-end in
    program_counted _ _ _ _ _ _ _ _ end.result end.ensures.counted end.ensures.end end.ensures.fault end.ensures.some
    (c.into_u64.ensures ∙ c.len.ensures) c.add_unread.ensures.none c.add_unread.ensures.some
