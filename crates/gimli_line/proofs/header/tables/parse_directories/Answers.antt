use Rattle.gimli_line.proofs
use proofs.Common.{refl, ap, ◌∙◌, map_push, err_from_is_err_and, ValueHasOrder, String, read_map, path_text}
use proofs.Common.{part_read_of, part_order_of}
use proofs.Order.{values_pushed, taken_part}
use proofs.Closed.{reads_name}
use proofs.Tables.{text_smaller, none_yet}
use proofs.Loops.{closed_goes_on, closed_ends, closed_done, text_closed, text_free, text_refused}
use proofs.header.tables.parse_directories.Goals as goal

pub returns-in_err-directory-clause-read : goal.returns-in_err-directory-clause-read
returns-in_err-directory-clause-read g c =
    let p = err_from_is_err_and c.from_residual.result c.from_residual.ensures.1 in
    rw (p.1, p.2) (λ _.
    closed_ends String path_text reads_name _ _ _ _ _
    (text_refused (g.R.Reader.seen c.loop-directories.input).bytes _ _ (part_read_of c.in_err-directory.ensures))
    (ap (read_map String) (part_read_of c.in_err-directory.ensures))
    c.loop-directories.invariant.so_far)

pub returns-then-is_empty-clause-read : goal.returns-then-is_empty-clause-read
returns-then-is_empty-clause-read g c =
    closed_done String path_text reads_name _ _ _ _
    (text_closed (g.R.Reader.seen c.loop-directories.input).bytes _ _ c.if-is_empty.ensures
    (part_read_of c.in_ok-directory.ensures))
    c.loop-directories.invariant.so_far

pub loop-directories-preserved : goal.loop-directories-preserved
loop-directories-preserved g c = record {
  so_far = rw (c.in_ok-push.ensures.ok, map_push)
      (closed_goes_on String path_text reads_name _ _ _ _ _
      (text_free (g.R.Reader.seen c.loop-directories.input).bytes _ _ c.if-is_empty.ensures
      (part_read_of c.in_ok-directory.ensures))
      (ap (read_map String) (part_read_of c.in_ok-directory.ensures)) c.loop-directories.invariant.so_far);
  order = part_order_of c.read_null_terminated_slice.ensures ∙ c.loop-directories.invariant.order;
  parts = values_pushed g.R.Reader.seen _ _ _ _ _ c.in_ok-push.ensures.ok c.loop-directories.invariant.order
      c.loop-directories.invariant.parts
      (taken_part _ _ c.in_ok-directory.ensures);
}

pub loop-directories-smaller : goal.loop-directories-smaller
loop-directories-smaller g c =
    text_smaller (g.R.Reader.seen c.loop-directories.input).bytes _ _ c.if-is_empty.ensures
    (part_read_of c.in_ok-directory.ensures)

pub returns-in_err-push-clause-read : goal.returns-in_err-push-clause-read
returns-in_err-push-clause-read g c =
    let p = err_from_is_err_and c.from_residual-in_err-push.result c.from_residual-in_err-push.ensures.1 in
    rw (p.1, p.2) (λ other. absurd (other c.in_err-push.ensures.err))

pub returns-in_err-push-clause-order : goal.returns-in_err-push-clause-order
returns-in_err-push-clause-order g c =
    part_order_of c.read_null_terminated_slice.ensures ∙ c.loop-directories.invariant.order

pub loop-directories-init : goal.loop-directories-init
loop-directories-init g c = record {
  so_far = rw c.new-directories.ensures.items refl;
  order = refl;
  parts =
      none_yet (ValueHasOrder g.R.Reader.seen (g.R.Reader.seen c.args.input.now).is_big) _
      c.new-directories.ensures.items;
}
