use Rattle.std.proofs.lemmas.Result.{err_from_is_err_and}
use Rattle.gimli_bytes.proofs
use proofs.Common.{◌∙◌, number_bytes, table_bytes}
use proofs.Parts.{begins_then, refused_after}
use proofs.TablesWritten.{text_put, all_put}
use proofs.str.Texts.write.Goals as goal

pub returns-in_err-write-clause-appends : goal.returns-in_err-write-clause-appends
returns-in_err-write-clause-appends g c =
    let p = err_from_is_err_and c.from_residual.result c.from_residual.ensures.1 in
    rw (p.1, p.2)
    (refused_after c.as_slice.result.now (table_bytes c.args.self.now) c.loop-text.invariant.keeps
    c.loop-text.invariant.ordered c.loop-text.invariant.stays c.loop-text.invariant.unrefused
    c.in_err-write.ensures)

pub returns-in_err-write_u8-clause-appends : goal.returns-in_err-write_u8-clause-appends
returns-in_err-write_u8-clause-appends g c =
    let contents = g.W.Sink.contents in
    let p = err_from_is_err_and c.from_residual-in_err-write_u8.result c.from_residual-in_err-write_u8.ensures.1 in
    let keeps =
    begins_then (contents c.args.w.now) (contents c.loop-text.w) (contents c.write.new.self) c.loop-text.invariant.keeps
    c.in_ok-write.ensures.keeps in
    rw (p.1, p.2)
    (refused_after (number_bytes (g.W.Sink.is_big c.write.new.self) 1 0) (table_bytes c.args.self.now) keeps
    (c.in_ok-write.ensures.ordered ∙ c.loop-text.invariant.ordered) (λ completes.
    c.in_ok-write.ensures.stays (c.loop-text.invariant.stays completes))
    (λ unrefused. c.in_ok-write.ensures.unrefused (c.loop-text.invariant.unrefused unrefused))
    c.in_err-write_u8.ensures)

pub loop-text-preserved : goal.loop-text-preserved
loop-text-preserved g c =
    let contents = g.W.Sink.contents in
    record {
      keeps = begins_then _ _ _
          (begins_then _ _ _ c.loop-text.invariant.keeps c.in_ok-write.ensures.keeps)
          c.in_ok-write_u8.ensures.keeps;
      ordered = c.in_ok-write_u8.ensures.ordered ∙ c.in_ok-write.ensures.ordered ∙ c.loop-text.invariant.ordered;
      stays =
          λ completes.
          c.in_ok-write_u8.ensures.stays (c.in_ok-write.ensures.stays (c.loop-text.invariant.stays completes));
      unrefused =
          λ unrefused.
          c.in_ok-write_u8.ensures.unrefused
          (c.in_ok-write.ensures.unrefused (c.loop-text.invariant.unrefused unrefused));
      put = λ keeps. text_put _ _ _ _ _
          _ _ _ _
          c.loop-text-test.true c.text-item.is c.as_slice.ensures.value (c.loop-text.invariant.put keeps)
          (c.in_ok-write.ensures.ok keeps)
          (c.in_ok-write_u8.ensures.ok keeps);
      completed = λ at completes.
          text_put _ _ _ _ _
          _ _ _
          _ c.loop-text-test.true c.text-item.is c.as_slice.ensures.value
          (c.loop-text.invariant.completed at completes)
          (c.in_ok-write.ensures.completed at (c.loop-text.invariant.stays completes))
          (c.in_ok-write_u8.ensures.completed at (c.in_ok-write.ensures.stays (c.loop-text.invariant.stays completes)));
    }

pub returns-clause-appends : goal.returns-clause-appends
returns-clause-appends g c =
    let contents = g.W.Sink.contents in
    record {
      keeps = c.loop-text.invariant.keeps;
      ordered = c.loop-text.invariant.ordered;
      stays = c.loop-text.invariant.stays;
      unrefused = c.loop-text.invariant.unrefused;
      ok = λ keeps. all_put _ _ _ _
          _ _ c.loop-text-test.false c.as_slice-text-items.ensures.keys c.self.view_is
          (c.loop-text.invariant.put keeps);
      completed = λ at completes. all_put _ _ _ _
          _ _ c.loop-text-test.false c.as_slice-text-items.ensures.keys c.self.view_is
          (c.loop-text.invariant.completed at completes);
      err = λ memory_alone. tt;
      own = tt;
    }
