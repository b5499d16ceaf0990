use Rattle.std.specs.Prelude.{◌≡◌, ◌-◌, ◌++◌}
use Rattle.std.proofs.Common.{le_of_eq, lt_of_le_of_lt, sub-le}
use Rattle.gimli_build.proofs
use proofs.Common.{Ok, add-zero, always, ℕ, List, refl, sym, ap, ◌∙◌, Result, append-nil, Error, format_word}
use proofs.writing.Frames.{counted_written, no_less, open_word, word_is, zero_word, no_escape, header_word_long}
use proofs.writing.Writes.{bytes_unwritten, counted_unwritten, passed_on, writes}
use proofs.unit.header.write_header.Goals as goal

pub overflow_sub-count : goal.overflow_sub-count
overflow_sub-count g c = rw (c.len-start.ensures.contents, c.len.ensures.contents)
    (no_less _ _ c.in_ok-write_fields.ensures.writes.keeps)

pub returns-clause-writes : goal.returns-clause-writes
returns-clause-writes g c =
    let is_big = g.W.Sink.is_big c.args.w.now in
    let format = c.args.input.now.program.encoding.format in
    let n = c.len.result - c.len-start.result in
    let small = lt_of_le_of_lt (sub-le _ _) c.len.type_inv in
    let zero =
    rw (c.word_size-size.ensures, c.format.ensures, zero_word is_big format) at c.in_ok-write_udata.ensures in
    let fields = rw zero.ordered at c.in_ok-write_fields.ensures.writes in
    let call =
    rw (fields.ordered ∙ zero.ordered, c.word_size-size.ensures, c.format.ensures, word_is is_big format n small) at
    c.write_udata_at.ensures in
    let word = λ (k : ℕ). format_word is_big format k in
    let blank = λ (old new : List ℕ) (is : new ≡ old ++ open_word is_big format).
    is ∙ ap (λ (l : List ℕ). l ++ open_word is_big format) (sym (append-nil old)) in
    counted_written word word (λ k. no_escape (word k)) (header_word_long is_big format n) (record {
      keeps = zero.keeps;
      ordered = zero.ordered;
      stays = zero.stays;
      unrefused = zero.unrefused;
      after = le_of_eq (sym c.len-length.ensures.contents);
      held = λ keeps_bytes. record {
        opened = blank _ _ (zero.ok keeps_bytes);
        at = c.len-length.ensures.contents ∙ sym (add-zero _);
      };
      linked = λ at completes. record {
        opened = blank _ _ (zero.completed at completes);
        at = c.len-length.ensures.completed at completes ∙ sym (add-zero _);
      };
      count = rw (c.len.ensures.contents, c.len-start.ensures.contents) refl;
      count_linked = λ at completes.
          let so = zero.stays completes in
          rw (c.len.ensures.completed at (fields.stays so), c.len-start.ensures.completed at so) refl;
    }) fields call

pub returns-in_err-write_fields-clause-writes : goal.returns-in_err-write_fields-clause-writes
returns-in_err-write_fields-clause-writes g c =
    let zero = c.in_ok-write_udata.ensures in
    let word : ℕ → Result (List ℕ) Error = λ k.
    format_word (g.W.Sink.is_big c.args.w.now) c.args.input.now.program.encoding.format k in
    let refused = rw zero.ordered at c.in_err-write_fields.ensures.writes in
    passed_on c.from_residual-in_err-write_fields.ensures.1
    (counted_unwritten word zero.keeps zero.ordered zero.stays zero.unrefused refused)

pub returns-in_err-write_udata-clause-writes : goal.returns-in_err-write_udata-clause-writes
returns-in_err-write_udata-clause-writes g c =
    let is_big = g.W.Sink.is_big c.args.w.now in
    let format = c.args.input.now.program.encoding.format in
    let put =
    rw (c.word_size-size.ensures, c.format.ensures, zero_word is_big format) at c.in_err-write_udata.ensures in
    passed_on c.from_residual.ensures.1 (bytes_unwritten (writes (always (Ok (open_word is_big format))) put))
