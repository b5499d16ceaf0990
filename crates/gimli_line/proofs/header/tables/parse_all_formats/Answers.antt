use Rattle.gimli_line.proofs
use proofs.Common.{◌∙◌, sym, err_from_is_err_and, format_production, read_of, order_of}
use proofs.Loops.{viewed_same, times_goes_on, times_ends}
use proofs.header.tables.parse_all_formats.Goals as goal

pub returns-in_err-format-clause-read : goal.returns-in_err-format-clause-read
returns-in_err-format-clause-read g c =
    let p = err_from_is_err_and c.from_residual.result c.from_residual.ensures.1 in
    rw (p.1, p.2) (λ _.
    times_ends (λ x. x) format_production _ _ c.loop.counter _ _ _ _ c.loop-test.true
    (read_of c.in_err-format.ensures ∙ sym (viewed_same (format_production.read (g.R.Reader.seen c.loop.input).bytes)))
    c.loop.invariant.so_far)

pub loop-preserved : goal.loop-preserved
loop-preserved g c = record {
  so_far =
      rw c.in_ok-push.ensures.ok (times_goes_on (λ x. x) format_production _ _ c.loop.counter _ _ _ _ c.loop-test.true
      (read_of c.in_ok-format.ensures ∙ sym (viewed_same (format_production.read (g.R.Reader.seen c.loop.input).bytes)))
      c.loop.invariant.so_far);
  order = order_of c.parse_format.ensures ∙ c.loop.invariant.order;
}
