use Rattle.std.proofs.Common.{rules}
use Rattle.std.proofs.lemmas.Result.{err_from_is_err_and}
use Rattle.gimli_core.proofs.Taken.{read_of}
use Rattle.gimli_core.specs.Production.{byte}
use Rattle.gimli_line.proofs.Operands.{passes_on, pass_ends}
use Rattle.lines_reports.proofs.sizes.skip_bytes.Goals as goal

pub returns-in_err-read_u8-clause-read : goal.returns-in_err-read_u8-clause-read
returns-in_err-read_u8-clause-read g c =
    let p = err_from_is_err_and c.from_residual.result c.from_residual.ensures.1 in
    rw (p.1, p.2)
    (pass_ends byte _ c.loop.counter _ _ _ _ c.loop-test.true (read_of c.in_err-read_u8.ensures)
    c.loop.invariant.so_far)

pub loop-preserved : goal.loop-preserved
loop-preserved g c = record {
  so_far =
      passes_on byte _ c.loop.counter _ _ _ _ c.loop-test.true (read_of c.in_ok-read_u8.ensures)
      c.loop.invariant.so_far;
  order = search rules;
}
