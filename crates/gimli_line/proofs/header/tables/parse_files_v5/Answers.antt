use Rattle.gimli_line.proofs
use proofs.Common.{◌∙◌, map_push, err_from_is_err_and, FileHasOrder, file_of_entry, read_of, order_of}
use proofs.Order.{files_pushed}
use proofs.Loops.{times_goes_on, times_ends, times_done, entries_start, entry_kept}
use proofs.Tables.{none_yet}
use proofs.header.tables.parse_files_v5.Goals as goal

pub loop-init : goal.loop-init
loop-init g c = record {
  so_far = rw c.new-files.ensures.items (entries_start _ _ file_of_entry _ _ _ _ (read_of c.in_ok-count.ensures));
  order = order_of c.read_uleb128.ensures;
  parts = none_yet (FileHasOrder g.R.Reader.seen (g.R.Reader.seen c.args.input.now).is_big) _ c.new-files.ensures.items;
}

pub returns-in_err-file-clause-read : goal.returns-in_err-file-clause-read
returns-in_err-file-clause-read g c =
    let p = err_from_is_err_and c.from_residual-in_err-file.result c.from_residual-in_err-file.ensures.1 in
    let is = entry_kept _ file_of_entry _ _ _ _ _ _ c.loop.invariant.order (read_of c.in_err-file.ensures.read) in
    rw (p.1, p.2) (λ _.
    times_ends file_of_entry _ _ _ _ _ _ _ _ c.loop-test.true is c.loop.invariant.so_far)

pub loop-preserved : goal.loop-preserved
loop-preserved g c = record {
  so_far =
      let is = entry_kept _ file_of_entry _ _ _ _ _ _ c.loop.invariant.order (read_of c.in_ok-file.ensures.read) in
      rw (c.in_ok-push.ensures.ok, map_push)
      (times_goes_on file_of_entry _ _ _ _ _ _ _ _ c.loop-test.true is c.loop.invariant.so_far);
  order = order_of c.parse_file_v5.ensures.read ∙ c.loop.invariant.order;
  parts = files_pushed g.R.Reader.seen _ _ _ _ _ c.in_ok-push.ensures.ok c.loop.invariant.order c.loop.invariant.parts
      c.in_ok-file.ensures.part;
}

pub returns-clause-read : goal.returns-clause-read
returns-clause-read g c = times_done file_of_entry _ _ _ _ _ _ c.loop-test.false c.loop.invariant.so_far
