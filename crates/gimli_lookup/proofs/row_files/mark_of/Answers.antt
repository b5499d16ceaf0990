use Rattle.std.proofs.Common.{◌<◌, ◌+◌, ◌||◌, List, length, take, sym, ap, ◌∙◌, arith}
use Rattle.std.proofs.lemmas.List.Folds.{list_any_more}
use Rattle.gimli_line.specs.declared.run.row.LineRow.{LineRow}
use Rattle.gimli_lookup.specs.RowFiles.{has_file, have_file}
use Rattle.gimli_lookup.proofs.FileMarks.{none_marked, marked_too}
use Rattle.gimli_lookup.proofs.row_files.mark_of.Goals as goal

pub loop-rows-init : goal.loop-rows-init
loop-rows-init c = none_marked c.args.marks.now

pub loop-rows-preserved : goal.loop-rows-preserved
loop-rows-preserved c =
    let all = c.args.sequences.now in
    let i = c.loop-rows.rows-index in
    let rows = c.rows-item.result in
    let inside : i < length all = omega arith in
    let before = have_file (take i all) in
    marked_too before (has_file rows) (have_file (take (i + 1) all)) c.args.marks.now c.loop-rows.marks
    c.mark_in.new.marks
    (λ n. ap (λ (r : List LineRow). before n || has_file r n) c.rows-item.is
    ∙ sym (list_any_more (λ (r : List LineRow). has_file r n) all i rows inside))
    c.loop-rows.invariant c.mark_in.ensures
