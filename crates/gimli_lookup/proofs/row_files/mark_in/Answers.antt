use Rattle.std.proofs.Common.{◌<◌, ◌+◌, ◌||◌, ◌==◌, ℕ, length, take, sym, ap, ◌∙◌, arith}
use Rattle.std.proofs.lemmas.List.Folds.{list_any_more}
use Rattle.std.proofs.lemmas.Option.{get_or_from_slice_get}
use Rattle.gimli_line.specs.declared.run.row.LineRow.{LineRow}
use Rattle.gimli_lookup.specs.RowFiles.{has_file}
use Rattle.gimli_lookup.proofs.FileMarks.{none_marked, marked_too}
use Rattle.gimli_lookup.proofs.row_files.mark_in.Goals as goal

pub loop-index-init : goal.loop-index-init
loop-index-init c = none_marked c.args.marks.now

pub loop-index-preserved : goal.loop-index-preserved
loop-index-preserved c =
    let rows = c.args.rows.now in
    let i = c.loop-index.index in
    let row = c.row-row.result in
    let inside : i < length rows = omega arith in
    let before = has_file (take i rows) in
    marked_too before (λ n. c.file_index.result == n) (has_file (take (i + 1) rows)) c.args.marks.now c.loop-index.marks
    c.mark.new.marks
    (λ n. ap (λ (k : ℕ). before n || (k == n)) c.file_index.ensures
    ∙ sym (list_any_more (λ (r : LineRow). r.file == n) rows i row inside
    ∙ ap (λ (r : LineRow). before n || (r.file == n)) (get_or_from_slice_get rows i row row c.row-row.ensures)))
    c.loop-index.invariant c.mark.ensures
