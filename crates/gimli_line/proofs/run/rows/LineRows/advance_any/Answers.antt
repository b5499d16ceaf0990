use Rattle.std.specs.Prelude.{◌≡◌}
use Rattle.gimli_line.proofs
use proofs.Common
use Common.{[], refl, sym, ap, ◌∙◌, LineRow, Header, live_made, reset_row, given_row, with_reset_row}
use proofs.Runs.{none_to_make, end_here, same_end, passes_none, passes_both, refused_after}
use proofs.Sources.{keeps_both}
use proofs.Steps.{keeps_rest, with_rest}
use proofs.run.rows.LineRows.advance_any.Goals as goal

pub instructions-init : goal.instructions-init
instructions-init g c =
    let old = c.args.self.now in
    let reset =
    c.reset.ensures ∙ ap (λ (h : Header). reset_row h.parameters c.self.inside.row) c.header.ensures.meaning in
    let here = with_rest old c.reset.new.self old.unread in
    let same : here
    ≡ with_reset_row old = rw (← c.self.view_is)
    (rw (← c.self.view_is) at (ap (λ (r : LineRow). with_rest old r old.unread) reset)) in
    record {
      made = rw (← c.self.view_is) (rw (← c.self.view_is) at (ap live_made (sym same)));
      passes = rw (← c.self.view_is) (rw (← c.self.view_is) at (passes_none (with_reset_row old) here same));
      keeps = rw (← c.self.view_is) (rw (← c.self.view_is) at (keeps_rest old c.reset.new.self old.unread refl));
    }

pub returns-in-Err : goal.returns-in-Err
returns-in-Err g c =
    let i = c.instructions.invariant in
    record {
      row = tt;
      err = refused_after live_made _ c.instructions.self _ c.in-Err.e i.made i.passes c.in-Err.ensures.err;
      keeps = keeps_both _ c.instructions.self _ i.keeps c.in-Err.ensures.keeps;
      passes = tt;
    }

pub returns-in-Ok-Done : goal.returns-in-Ok-Done
returns-in-Ok-Done g c =
    let i = c.instructions.invariant in
    let d = rw c.in-Ok-Done.field-0-is at c.in-Ok-Done.ensures.ok in
    let passed =
    passes_both (with_reset_row c.args.self.now) c.instructions.self c.execute_some.new.self [] [] i.passes d.2 in
    record {
      row = (
        i.made ∙ d.0,
        none_to_make c.execute_some.new.self d.1,
        d.1,
        sym (end_here c.execute_some.new.self d.1)
            ∙ same_end (with_reset_row c.args.self.now) c.execute_some.new.self [] passed,
      );
      err = tt;
      keeps = keeps_both _ c.instructions.self _ i.keeps c.in-Ok-Done.ensures.keeps;
      passes = (d.1, passed);
    }

pub returns-in-Ok-Made : goal.returns-in-Ok-Made
returns-in-Ok-Made g c =
    let i = c.instructions.invariant in
    let m = rw c.in-Ok-Made.field-0-is at c.in-Ok-Made.ensures.ok in
    let events = given_row c.execute_some.new.self.row in
    let passed =
    passes_both (with_reset_row c.args.self.now) c.instructions.self (with_reset_row c.execute_some.new.self) []
    events i.passes m.1 in
    record {
      row = (
        i.made ∙ m.0,
        refl,
        same_end (with_reset_row c.args.self.now) (with_reset_row c.execute_some.new.self) events passed,
      );
      err = tt;
      keeps = keeps_both _ c.instructions.self _ i.keeps c.in-Ok-Made.ensures.keeps;
      passes = passed;
    }

pub instructions-preserved : goal.instructions-preserved
instructions-preserved g c =
    let i = c.instructions.invariant in
    let m = rw c.in-Ok-More.field-0-is at c.in-Ok-More.ensures.ok in
    record {
      made = i.made ∙ m.0;
      passes =
          passes_both (with_reset_row c.args.self.now) c.instructions.self c.execute_some.new.self [] [] i.passes m.2;
      keeps = keeps_both _ c.instructions.self _ i.keeps c.in-Ok-More.ensures.keeps;
    }
