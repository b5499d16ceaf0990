use Rattle.std.specs.Prelude.{◌∷◌, ◌≡◌}
use Rattle.gimli_line.proofs
use proofs.Common
use Common.{List, [], refl, sym, ap, subst, ◌∙◌, LineRow, Event, row, given_row, with_reset_row, PassesOver}
use Common.{live_events}
use proofs.GivenRows.{fault_given, hidden, none_given, seen}
use proofs.Runs.{passes_both, refused_after, same_end}
use proofs.Sources.{keeps_both}
use proofs.run.rows.LineRows.advance.Goals as goal

pub returns-in-Err : goal.returns-in-Err
returns-in-Err g c =
    let i = c.rows.invariant in
    record {
      row = tt;
      err =
          refused_after live_events (with_reset_row c.args.self.now) (with_reset_row c.rows.self) c.advance_any.new.self
          c.in-Err.e i.events i.passes
          (fault_given (with_reset_row c.rows.self) c.advance_any.new.self c.in-Err.e c.in-Err.ensures.err);
      keeps = keeps_both _ c.rows.self _ i.keeps c.in-Err.ensures.keeps;
      passes = tt;
    }

pub returns-then-not-is_under_tombstone : goal.returns-then-not-is_under_tombstone
returns-then-not-is_under_tombstone g c =
    let i = c.rows.invariant in
    let next = rw c.in-Ok-true.field-0-test at c.in-Ok-true.ensures.row in
    let passes = rw c.in-Ok-true.field-0-test at c.in-Ok-true.ensures.passes in
    let shown =
    ap (λ (r : LineRow). r.tombstone) (sym c.row.ensures) ∙ sym c.is_under_tombstone.ensures
    ∙ c.if-not-is_under_tombstone.true in
    let s = seen c.rows.self c.advance_any.new.self _ _ next shown in
    let given : given_row c.advance_any.new.self.row ≡ row c.advance_any.new.self.row ∷ [] = rw shown refl in
    record {
      row = (
        i.events ∙ s.0,
        s.1,
        s.2 ∙ same_end (with_reset_row c.args.self.now) (with_reset_row c.rows.self) [] i.passes,
      );
      err = tt;
      keeps = keeps_both _ c.rows.self _ i.keeps c.in-Ok-true.ensures.keeps;
      passes =
          subst
          (λ (es : List Event). PassesOver (with_reset_row c.args.self.now) (with_reset_row c.advance_any.new.self) es)
          given
          (passes_both (with_reset_row c.args.self.now) (with_reset_row c.rows.self)
          (with_reset_row c.advance_any.new.self) []
          (given_row c.advance_any.new.self.row) i.passes passes);
    }

pub rows-preserved : goal.rows-preserved
rows-preserved g c =
    let i = c.rows.invariant in
    let next = rw c.in-Ok-true.field-0-test at c.in-Ok-true.ensures.row in
    let passes = rw c.in-Ok-true.field-0-test at c.in-Ok-true.ensures.passes in
    let under =
    ap (λ (r : LineRow). r.tombstone) (sym c.row.ensures) ∙ sym c.is_under_tombstone.ensures
    ∙ c.if-not-is_under_tombstone.false in
    let given : given_row c.advance_any.new.self.row ≡ [] = rw under refl in
    record {
      events = i.events ∙ hidden c.rows.self c.advance_any.new.self _ _ next under;
      passes =
          subst
          (λ (es : List Event). PassesOver (with_reset_row c.args.self.now) (with_reset_row c.advance_any.new.self) es)
          given
          (passes_both (with_reset_row c.args.self.now) (with_reset_row c.rows.self)
          (with_reset_row c.advance_any.new.self) []
          (given_row c.advance_any.new.self.row) i.passes passes);
      keeps = keeps_both _ c.rows.self _ i.keeps c.in-Ok-true.ensures.keeps;
    }

pub returns-in-Ok-false : goal.returns-in-Ok-false
returns-in-Ok-false g c =
    let i = c.rows.invariant in
    let none = rw c.in-Ok-false.field-0-test at c.in-Ok-false.ensures.row in
    let passes = rw c.in-Ok-false.field-0-test at c.in-Ok-false.ensures.passes in
    record {
      row = (
        i.events ∙ none_given c.rows.self none.0,
        none_given c.advance_any.new.self none.1,
        none.2,
        none.3 ∙ same_end (with_reset_row c.args.self.now) (with_reset_row c.rows.self) [] i.passes,
      );
      err = tt;
      keeps = keeps_both _ c.rows.self _ i.keeps c.in-Ok-false.ensures.keeps;
      passes = (
        passes.0,
        passes_both (with_reset_row c.args.self.now) (with_reset_row c.rows.self) c.advance_any.new.self [] []
            i.passes passes.1,
      );
    }
