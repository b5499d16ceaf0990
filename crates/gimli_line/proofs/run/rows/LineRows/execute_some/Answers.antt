use Rattle.gimli_line.proofs
use proofs.Common.{refl}
use proofs.Steps.{Has, executed_more, executed_refused, executed_row, reads_both, reads_more}
use proofs.Steps.{reads_none, steps_after, with_rest}
use proofs.run.rows.LineRows.execute_some.Goals as goal

pub returns-in-Err : goal.returns-in-Err
returns-in-Err g c =
    let before = with_rest c.args.self.now c.self.inside.row c.clone-instructions.result in
    let here = reads_none c.args.self.now before (rw (← c.self.view_is, c.clone-instructions.ensures) refl) in
    let has : Has g.P.LineProgram.appends (g.P.LineProgram.meaning c.self.inside.program) c.args.self.now =
    rw (← c.self.view_is) (refl, refl, refl) in
    let refused =
    executed_refused _ _ _ c.header-header.ensures.meaning before _ _ has c.in-Err.ensures.layout _
    c.in-Err.ensures.err in
    rw (← c.self.view_is) (rw (← c.self.view_is) at (steps_after _ before _ here _ refused))

pub returns-in-Row : goal.returns-in-Row
returns-in-Row g c =
    let before = with_rest c.args.self.now c.self.inside.row c.clone-instructions.result in
    let here = reads_none c.args.self.now before (rw (← c.self.view_is, c.clone-instructions.ensures) refl) in
    let has : Has g.P.LineProgram.appends (g.P.LineProgram.meaning c.self.inside.program) c.args.self.now =
    rw (← c.self.view_is) (refl, refl, refl) in
    let made =
    executed_row _ _ _ c.header-header.ensures.meaning before _ _ has c.in-Ok.ensures.layout
    (rw c.in-Row.is at c.in-Ok.ensures.ok) in
    rw (← c.self.view_is) (rw (← c.self.view_is) at (steps_after _ before _ here _ made))

pub returns-in_default : goal.returns-in_default
returns-in_default g c =
    let before = with_rest c.args.self.now c.self.inside.row c.clone-instructions.result in
    let here = reads_none c.args.self.now before (rw (← c.self.view_is, c.clone-instructions.ensures) refl) in
    let has : Has g.P.LineProgram.appends (g.P.LineProgram.meaning c.self.inside.program) c.args.self.now =
    rw (← c.self.view_is) (refl, refl, refl) in
    let more =
    executed_more _ _ _ c.header-header.ensures.meaning before _ _ has c.in-Ok.ensures.layout _ c.in-Ok.ensures.ok
    c.in_default.not-No c.in_default.not-Row in
    let after = reads_both _ before _ here (reads_more before _ more) in
    rw (← c.self.view_is) (steps_after _ _ _ (rw (← c.self.view_is) at after) _ c.execute_more.ensures)
