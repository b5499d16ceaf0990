use Rattle.std.proofs.Common.{◌∙◌}
use Rattle.gimli_c.proofs.Runs.{files_ended}
use Rattle.gimli_c.proofs.run.advance.Goals as goal

pub returns-in-Ok-None-clause-files : goal.returns-in-Ok-None-clause-files
returns-in-Ok-None-clause-files g c =
    let next = rw c.in-Ok-None.field-0-is at (rw c.in-Ok-None.is at c.next_row.follows.holds-at-none.1) in
    files_ended c.next_row.follows.lender-at-none next.2 ∙ next.3
