use Rattle.gimli_line.proofs
use proofs.Common.{refl}
use proofs.Steps.{executed_more, executed_refused, executed_row}
use proofs.run.rows.LineRows.execute_uncommon.Goals as goal

pub returns-in-Err : goal.returns-in-Err
returns-in-Err g c =
    rw (← c.self.view_is) (executed_refused _ _ _ c.header-header.ensures.meaning _ _ _ (refl, refl, refl)
    c.in-Err.ensures.layout _ c.in-Err.ensures.err)

pub returns-in-Row : goal.returns-in-Row
returns-in-Row g c =
    rw (← c.self.view_is)
    (executed_row _ _ _ c.header-header.ensures.meaning _ _ _ (refl, refl, refl) c.in-Ok.ensures.layout
    (rw c.in-Row.is at c.in-Ok.ensures.ok))

pub returns-in_default : goal.returns-in_default
returns-in_default g c =
    rw (← c.self.view_is) (executed_more _ _ _ c.header-header.ensures.meaning _ _ _ (refl, refl, refl)
    c.in-Ok.ensures.layout _ c.in-Ok.ensures.ok
    c.in_default.not-No c.in_default.not-Row)
