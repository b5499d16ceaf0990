use Rattle.std.specs.Prelude.{◌≡◌, ◌-◌, ◌<◌, ◌^◌, ◌++◌}
use Rattle.gimli_build.proofs
use proofs.Common
use Common.{ℕ, List, length, Ok, refl, sym, ap, ◌∙◌, arith, append_assoc, length_word, open_length, result_append}
use Common.{escape_bytes, inl, Result, Error}
use proofs.writing.Joined.{on_ok}
use proofs.linking.Lengths.{patched_length}
use proofs.writing.Frames.{counted_written, no_less, open_word, escape_is, escape_long, length_word_long}
use proofs.writing.Writes.{counted_unwritten, passed_on}
use proofs.unit.write_whole.Goals as goal

pub returns-clause-writes : goal.returns-clause-writes
returns-clause-writes g c =
    let is_big = g.W.Sink.is_big c.args.w.now in
    let format = c.args.input.now.program.encoding.format in
    let n = c.len.result - c.len-start.result in
    let opening = rw c.format-format.ensures at c.in_ok-length.ensures in
    let inside = rw opening.appends.ordered at c.in_ok-write_inside.ensures.writes in
    let call =
    rw (inside.ordered ∙ opening.appends.ordered, c.format-format.ensures) at c.write_initial_length_at.ensures in
    let whole = λ (k : ℕ). result_append (Ok (escape_bytes is_big format)) (length_word is_big format k) in
    let blank = λ (old new : List ℕ) (is : new ≡ old ++ open_length is_big format).
    is ∙ ap (λ l. old ++ l) (escape_is is_big format)
    ∙ sym (append_assoc old (escape_bytes is_big format) (open_word is_big format)) in
    counted_written whole (length_word is_big format) (λ k. refl) (length_word_long is_big format n) (record {
      keeps = opening.appends.keeps;
      ordered = opening.appends.ordered;
      stays = opening.appends.stays;
      unrefused = opening.appends.unrefused;
      after = opening.after;
      held = λ keeps_bytes. record {
        opened = blank _ _ (opening.appends.ok keeps_bytes);
        at = rw (escape_long is_big format) (opening.place keeps_bytes);
      };
      linked = λ at completes. record {
        opened = blank _ _ (opening.appends.completed at completes);
        at = rw (escape_long is_big format) (opening.completed at completes);
      };
      count = rw (c.len.ensures.contents, c.len-start.ensures.contents) refl;
      count_linked = λ at completes.
          let so = opening.appends.stays completes in
          rw (c.len.ensures.completed at (inside.stays so), c.len-start.ensures.completed at so) refl;
    }) inside call

pub returns-clause-completed_short : goal.returns-clause-completed_short
returns-clause-completed_short g c = λ at completes.
    let inside = c.in_ok-write_inside.ensures.writes in
    let there = inside.stays (c.in_ok-length.ensures.appends.stays completes) in
    let long : length (g.W.Sink.completed at c.write_inside.new.w)
    < 2 ^ 64 = omega (arith, c.len.ensures.completed at there) in
    on_ok c.write_initial_length_at.result
    (λ written. omega (
      arith,
      long,
      patched_length _ (g.W.Sink.completed at c.write_inside.new.w)
          (g.W.Sink.completed at c.write_initial_length_at.new.self)
          c.in_ok-length.length.0 written,
    ))
    (c.write_initial_length_at.ensures.completed at there)

pub returns-in_err-write_inside-clause-writes : goal.returns-in_err-write_inside-clause-writes
returns-in_err-write_inside-clause-writes g c =
    let is_big = g.W.Sink.is_big c.args.w.now in
    let format = c.args.input.now.program.encoding.format in
    let opening = c.in_ok-length.ensures.appends in
    let whole : ℕ → Result (List ℕ) Error = λ k.
    result_append (Ok (escape_bytes is_big format)) (length_word is_big format k) in
    let refused = rw opening.ordered at c.in_err-write_inside.ensures.writes in
    passed_on c.from_residual-in_err-write_inside.ensures.1
    (counted_unwritten whole opening.keeps opening.ordered opening.stays opening.unrefused refused)

pub returns-in_err-length-clause-writes : goal.returns-in_err-length-clause-writes
returns-in_err-length-clause-writes g c =
    let so = c.in_err-length.ensures.appends in
    passed_on c.from_residual.ensures.1 (record {
      keeps = so.keeps;
      ordered = so.ordered;
      stays = so.stays;
      unrefused = λ unrefused. tt;
      ok = λ keeps_bytes. tt;
      err = λ keeps_bytes memory_alone. inl (so.err memory_alone);
      own = λ keeps_bytes. inl so.own;
      completed = λ at completes. tt;
      completed_own = λ at completes. inl so.own;
    })

pub overflow_sub-count : goal.overflow_sub-count
overflow_sub-count g c = rw (c.len-start.ensures.contents, c.len.ensures.contents)
    (no_less _ _ c.in_ok-write_inside.ensures.writes.keeps)
