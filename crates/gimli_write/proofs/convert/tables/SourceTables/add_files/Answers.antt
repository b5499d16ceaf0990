use Rattle.std.specs.Prelude.{◌<◌, ◌+◌}
use Rattle.gimli_write.proofs
use proofs.Common
use Common.{length, map, drop, arith, sym, ◌∙◌, err_from_is_err_and, file_seen, TablesAndTexts}
use Common.{tables_with, file_added, all_added}
use proofs.ConvertSteps.{done_first, refused_first, refused_same, next_added, kept_then}
use proofs.convert.tables.SourceTables.add_files.Goals as goal

pub loop-file-preserved : goal.loop-file-preserved
loop-file-preserved g c =
    let lt : c.loop-file.file-index < length c.args.files.now = omega arith in
    let seen = file_seen g.R.Reader.seen g.R.Offset.ReaderOffset.number in
    let xs = c.args.files.now in
    let i = c.loop-file.file-index in
    let x = c.file-item.result in
    let add = file_added c.args.sections.now in
    let here = tables_with c.loop-file.line_strings c.loop-file.self in
    let next = tables_with c.add_file.new.line_strings c.add_file.new.self in
    record {
      left =
          sym (done_first (λ (l : TablesAndTexts). all_added add (map seen (drop (i + 1) xs)) l)
          c.in_ok-add_file.ensures.ok)
          ∙ sym (next_added add seen xs i here lt c.file-item.is) ∙ c.loop-file.invariant.left;
      stays = grind (arith, kept_then);
    }

pub returns-in_err-add_file-clause-err : goal.returns-in_err-add_file-clause-err
returns-in_err-add_file-clause-err g c =
    let lt : c.loop-file.file-index < length c.args.files.now = omega arith in
    let seen = file_seen g.R.Reader.seen g.R.Offset.ReaderOffset.number in
    let xs = c.args.files.now in
    let i = c.loop-file.file-index in
    let x = c.file-item.result in
    let add = file_added c.args.sections.now in
    let here = tables_with c.loop-file.line_strings c.loop-file.self in
    let e = c.in_err-add_file.field-0.0 in
    let p = err_from_is_err_and c.from_residual.result c.from_residual.ensures.1 in
    rw (p.1, p.2) (refused_same e (sym (next_added add seen xs i here lt c.file-item.is) ∙ c.loop-file.invariant.left)
    (refused_first (add here (seen x)) (λ l. all_added add (map seen (drop (i + 1) xs)) l) e
    c.in_err-add_file.ensures.err))

pub returns-in_err-add_file-clause-stays : goal.returns-in_err-add_file-clause-stays
returns-in_err-add_file-clause-stays g c = grind (arith, kept_then)
