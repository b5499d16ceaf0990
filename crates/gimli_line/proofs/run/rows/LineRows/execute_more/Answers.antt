use Rattle.gimli_line.proofs
use proofs.Common.{ap, refl, ◌∙◌}
use proofs.Steps.{Has, executed_more, executed_refused, executed_row, none_executed, reads_both, reads_more, reads_none}
use proofs.Steps.{steps_after, with_rest}
use proofs.run.rows.LineRows.execute_more.Goals as goal

pub common-init : goal.common-init
common-init g c = record {
  program = refl;
  reads = reads_none _ _ (rw (← c.self.view_is) refl);
}

pub common-smaller : goal.common-smaller
common-smaller g c =
    let before = with_rest c.args.self.now c.common.self-inside.row c.common.instructions in
    let has : Has g.P.LineProgram.appends (g.P.LineProgram.meaning c.self.inside.program) c.args.self.now =
    rw (← c.self.view_is) (refl, refl, refl) in
    let lent = c.header-header.ensures.meaning ∙ ap g.P.LineProgram.meaning c.common.invariant.program in
    (executed_more _ _ _ lent before _ _ has c.in-Ok.ensures.layout _ c.in-Ok.ensures.ok c.in_default.not-No
    c.in_default.not-Row).ok.1

pub common-preserved : goal.common-preserved
common-preserved g c =
    let before = with_rest c.args.self.now c.common.self-inside.row c.common.instructions in
    let has : Has g.P.LineProgram.appends (g.P.LineProgram.meaning c.self.inside.program) c.args.self.now =
    rw (← c.self.view_is) (refl, refl, refl) in
    let lent = c.header-header.ensures.meaning ∙ ap g.P.LineProgram.meaning c.common.invariant.program in
    let more =
    executed_more _ _ _ lent before _ _ has c.in-Ok.ensures.layout _ c.in-Ok.ensures.ok c.in_default.not-No
    c.in_default.not-Row in
    record {
      program = c.common.invariant.program;
      reads = reads_both _ before _ c.common.invariant.reads (reads_more before _ more);
    }

pub returns-in-Err : goal.returns-in-Err
returns-in-Err g c =
    let before = with_rest c.args.self.now c.common.self-inside.row c.common.instructions in
    let has : Has g.P.LineProgram.appends (g.P.LineProgram.meaning c.self.inside.program) c.args.self.now =
    rw (← c.self.view_is) (refl, refl, refl) in
    let lent = c.header-header.ensures.meaning ∙ ap g.P.LineProgram.meaning c.common.invariant.program in
    let refused = executed_refused _ _ _ lent before _ _ has c.in-Err.ensures.layout _ c.in-Err.ensures.err in
    rw (c.common.invariant.program, ← c.self.view_is)
    (rw (← c.self.view_is) at (steps_after _ before _ c.common.invariant.reads _ refused))

pub returns-in-Row : goal.returns-in-Row
returns-in-Row g c =
    let before = with_rest c.args.self.now c.common.self-inside.row c.common.instructions in
    let has : Has g.P.LineProgram.appends (g.P.LineProgram.meaning c.self.inside.program) c.args.self.now =
    rw (← c.self.view_is) (refl, refl, refl) in
    let lent = c.header-header.ensures.meaning ∙ ap g.P.LineProgram.meaning c.common.invariant.program in
    let made = executed_row _ _ _ lent before _ _ has c.in-Ok.ensures.layout (rw c.in-Row.is at c.in-Ok.ensures.ok) in
    rw (c.common.invariant.program, ← c.self.view_is)
    (rw (← c.self.view_is) at (steps_after _ before _ c.common.invariant.reads _ made))

pub returns : goal.returns
returns g c =
    let before = with_rest c.args.self.now c.common.self-inside.row c.common.instructions in
    let none = none_executed c.header-header.result.now.meaning before _ _ (rw c.in-No.is at c.in-Ok.ensures.ok) in
    let here = reads_both _ before _ c.common.invariant.reads none in
    rw (← c.self.view_is)
    (steps_after _ _ _ (rw (← c.self.view_is) at here) _ (rw c.common.invariant.program at c.execute_one.ensures))
