use Rattle.gimli_line.proofs
use proofs.Common.{◌∙◌, map_push, err_from_is_err_and, path_of, read_of, order_of}
use proofs.Order.{values_pushed}
use proofs.Loops.{times_goes_on, times_ends, times_done, entry_kept}
use proofs.header.tables.parse_directories_v5.Goals as goal

pub returns-in_err-directory-clause-read : goal.returns-in_err-directory-clause-read
returns-in_err-directory-clause-read g c =
    let p = err_from_is_err_and c.from_residual-in_err-directory.result c.from_residual-in_err-directory.ensures.1 in
    let is = entry_kept _ path_of _ _ _ _ _ _ c.loop.invariant.order (read_of c.in_err-directory.ensures.read) in
    rw (p.1, p.2) (λ _. times_ends path_of _ _ _ c.loop.counter _ _ _ _ c.loop-test.true is c.loop.invariant.so_far)

pub loop-preserved : goal.loop-preserved
loop-preserved g c = record {
  so_far =
      let is = entry_kept _ path_of _ _ _ _ _ _ c.loop.invariant.order (read_of c.in_ok-directory.ensures.read) in
      rw (c.in_ok-push.ensures.ok, map_push)
      (times_goes_on path_of _ _ _ _ _ _ _ _ c.loop-test.true is c.loop.invariant.so_far);
  order = order_of c.parse_directory_v5.ensures.read ∙ c.loop.invariant.order;
  parts =
      values_pushed g.R.Reader.seen _ _ _ _ _ c.in_ok-push.ensures.ok c.loop.invariant.order c.loop.invariant.parts
      c.in_ok-directory.ensures.part;
}

pub returns-clause-read : goal.returns-clause-read
returns-clause-read g c = times_done path_of _ _ _ _ _ _ c.loop-test.false c.loop.invariant.so_far
