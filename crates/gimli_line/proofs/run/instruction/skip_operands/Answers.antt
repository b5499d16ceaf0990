use Rattle.gimli_line.proofs
use proofs.Common.{rules, err_from_is_err_and, unsigned, ◌∙◌, read_of, order_of, taken_of}
use proofs.Operands.{passes_on, pass_ends}
use proofs.run.instruction.skip_operands.Goals as goal

pub returns-in_err-read_uleb128 : goal.returns-in_err-read_uleb128
returns-in_err-read_uleb128 g c =
    let p = err_from_is_err_and c.from_residual.result c.from_residual.ensures.1 in
    rw (p.1, p.2) (taken_of
    (pass_ends unsigned _ c.loop.counter _ _ _ _ c.loop-test.true (read_of c.in_err-read_uleb128.ensures)
    c.loop.invariant.so_far)
    (order_of c.in_err-read_uleb128.ensures ∙ c.loop.invariant.order))

pub loop-preserved : goal.loop-preserved
loop-preserved g c = record {
  so_far = passes_on unsigned _ c.loop.counter _ _ _ _ c.loop-test.true (read_of c.in_ok-read_uleb128.ensures)
      c.loop.invariant.so_far;
  order = search rules;
}
