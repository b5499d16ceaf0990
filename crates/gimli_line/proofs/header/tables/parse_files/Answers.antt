use Rattle.std.proofs.lemmas.List.{map-id}
use Rattle.gimli_line.proofs
use proofs.Common.{refl, ◌∙◌, map_push, err_from_is_err_and, FileHasOrder, named_file, read_of, order_of, part_read_of}
use proofs.Common.{part_order_of}
use proofs.Order.{files_pushed, taken_part}
use proofs.HeaderLaws.{reads_named_file}
use proofs.Loops.{closed_goes_on, closed_ends, closed_done, closed_smaller, text_closed, text_free, text_refused}
use proofs.Loops.{named_is, named_fault, viewed_same}
use proofs.Tables.{none_yet}
use proofs.header.tables.parse_files.Goals as goal

pub returns-in_err-path_name-clause-read : goal.returns-in_err-path_name-clause-read
returns-in_err-path_name-clause-read g c =
    let p = err_from_is_err_and c.from_residual.result c.from_residual.ensures.1 in
    rw (p.1, p.2) (λ _.
    closed_ends (λ x. x) named_file reads_named_file _ _ _ _ _
    (text_refused (g.R.Reader.seen c.loop-files.input).bytes _ _ (part_read_of c.in_err-path_name.ensures))
    (named_fault (g.R.Reader.seen c.loop-files.input).bytes _ _ (part_read_of c.in_err-path_name.ensures))
    c.loop-files.invariant.so_far)

pub returns-then-is_empty-clause-read : goal.returns-then-is_empty-clause-read
returns-then-is_empty-clause-read g c =
    closed_done (λ x. x) named_file reads_named_file _ _ _ _
    (text_closed (g.R.Reader.seen c.loop-files.input).bytes _ _ c.if-is_empty.ensures
    (part_read_of c.in_ok-path_name.ensures))
    c.loop-files.invariant.so_far

pub returns-in_err-file-clause-read : goal.returns-in_err-file-clause-read
returns-in_err-file-clause-read g c =
    let p = err_from_is_err_and c.from_residual-in_err-file.result c.from_residual-in_err-file.ensures.1 in
    rw (p.1, p.2) (λ _.
    closed_ends (λ x. x) named_file reads_named_file _ _ _ _ _
    (text_free (g.R.Reader.seen c.loop-files.input).bytes _ _ c.if-is_empty.ensures
    (part_read_of c.in_ok-path_name.ensures))
    (named_is (g.R.Reader.seen c.loop-files.input).bytes _ _ _ (part_read_of c.in_ok-path_name.ensures)
    (read_of c.in_err-file.ensures.read))
    c.loop-files.invariant.so_far)

pub loop-files-smaller : goal.loop-files-smaller
loop-files-smaller g c =
    closed_smaller (λ x. x) named_file reads_named_file _ _ _
    (text_free (g.R.Reader.seen c.loop-files.input).bytes _ _ c.if-is_empty.ensures
    (part_read_of c.in_ok-path_name.ensures))
    (named_is (g.R.Reader.seen c.loop-files.input).bytes _ _ _ (part_read_of c.in_ok-path_name.ensures)
    (read_of c.in_ok-file.ensures.read))

pub loop-files-preserved : goal.loop-files-preserved
loop-files-preserved g c = record {
  so_far = rw (c.in_ok-push.ensures.ok, map_push)
      (closed_goes_on (λ x. x) named_file reads_named_file _ _ _ _ _
      (text_free (g.R.Reader.seen c.loop-files.input).bytes _ _ c.if-is_empty.ensures
      (part_read_of c.in_ok-path_name.ensures))
      (named_is (g.R.Reader.seen c.loop-files.input).bytes _ _ _ (part_read_of c.in_ok-path_name.ensures)
      (read_of c.in_ok-file.ensures.read))
      c.loop-files.invariant.so_far);
  order =
      order_of c.parse.ensures.read ∙ part_order_of c.read_null_terminated_slice.ensures ∙ c.loop-files.invariant.order;
  parts = files_pushed g.R.Reader.seen _ _ _ _ _ c.in_ok-push.ensures.ok
      (taken_part _ _ c.in_ok-path_name.ensures ∙ c.loop-files.invariant.order) c.loop-files.invariant.parts
      c.in_ok-file.ensures.file;
}

pub returns-in_err-push-clause-read : goal.returns-in_err-push-clause-read
returns-in_err-push-clause-read g c =
    let p = err_from_is_err_and c.from_residual-in_err-push.result c.from_residual-in_err-push.ensures.1 in
    rw (p.1, p.2) (λ other. absurd (other c.in_err-push.ensures.err))

pub returns-in_err-push-clause-order : goal.returns-in_err-push-clause-order
returns-in_err-push-clause-order g c =
    order_of c.parse.ensures.read ∙ part_order_of c.read_null_terminated_slice.ensures ∙ c.loop-files.invariant.order

pub returns-in_err-file-clause-order : goal.returns-in_err-file-clause-order
returns-in_err-file-clause-order g c =
    order_of c.parse.ensures.read ∙ part_order_of c.read_null_terminated_slice.ensures ∙ c.loop-files.invariant.order

pub loop-files-init : goal.loop-files-init
loop-files-init g c = record {
  so_far = rw c.new-files.ensures.items (simp map-id (viewed_same _));
  order = refl;
  parts = none_yet (FileHasOrder g.R.Reader.seen (g.R.Reader.seen c.args.input.now).is_big) _ c.new-files.ensures.items;
}
