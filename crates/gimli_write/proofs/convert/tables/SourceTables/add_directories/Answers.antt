use Rattle.std.specs.Prelude.{◌<◌, ◌+◌}
use Rattle.gimli_write.proofs
use proofs.Common
use Common.{length, map, drop, arith, sym, ◌∙◌, err_from_is_err_and, value_seen, TablesAndTexts}
use Common.{tables_with, directory_added, all_added}
use proofs.ConvertSteps.{done_first, refused_first, refused_same, next_added, kept_then}
use proofs.convert.tables.SourceTables.add_directories.Goals as goal

pub loop-directory-preserved : goal.loop-directory-preserved
loop-directory-preserved g c =
    let lt : c.loop-directory.directory-index < length c.args.directories.now = omega arith in
    let seen = value_seen g.R.Reader.seen g.R.Offset.ReaderOffset.number in
    let xs = c.args.directories.now in
    let i = c.loop-directory.directory-index in
    let x = c.directory-item.result in
    let add = directory_added c.args.sections.now in
    let here = tables_with c.loop-directory.line_strings c.loop-directory.self in
    let next = tables_with c.add_directory.new.line_strings c.add_directory.new.self in
    record {
      left =
          sym (done_first (λ (l : TablesAndTexts). all_added add (map seen (drop (i + 1) xs)) l)
          c.in_ok-add_directory.ensures.ok)
          ∙ sym (next_added add seen xs i here lt c.directory-item.is) ∙ c.loop-directory.invariant.left;
      stays = kept_then c.loop-directory.invariant.stays c.in_ok-add_directory.ensures.stays;
    }

pub returns-in_err-add_directory-clause-err : goal.returns-in_err-add_directory-clause-err
returns-in_err-add_directory-clause-err g c =
    let lt : c.loop-directory.directory-index < length c.args.directories.now = omega arith in
    let p = err_from_is_err_and c.from_residual.result c.from_residual.ensures.1 in
    rw (p.1, p.2)
    (refused_same _ (sym (next_added _ _ _ _ _ lt c.directory-item.is) ∙ c.loop-directory.invariant.left)
    (refused_first _ _ _ c.in_err-add_directory.ensures.err))

pub returns-in_err-add_directory-clause-stays : goal.returns-in_err-add_directory-clause-stays
returns-in_err-add_directory-clause-stays g c =
    kept_then c.loop-directory.invariant.stays c.in_err-add_directory.ensures.stays
