use Rattle.std.specs.Prelude.{◌≡◌}
use Rattle.gimli_build.proofs
use proofs.Common.{Some, None, option_map, ap, ◌∙◌, line_text, File, details}
use proofs.building.SourceLemmas.{source_found, source_passed}
use proofs.tables.version_5.source_form.Goals as goal

pub returns-in-Some : goal.returns-in-Some
returns-in-Some c =
    let file : File = ((line_text c.file.result.0.now, c.file.result.1), details c.file.result.2.now) in
    let is : file.1.source ≡ Some (line_text c.in-Some.source) = ap (option_map line_text) c.in-Some.is in
    c.form.ensures
    ∙ source_found c.args.tables.now.files c.loop-index.index file (line_text c.in-Some.source) c.file.ensures
    c.loop-index.invariant.left is

pub loop-index-preserved : goal.loop-index-preserved
loop-index-preserved c =
    let file : File = ((line_text c.file.result.0.now, c.file.result.1), details c.file.result.2.now) in
    let is : file.1.source ≡ None = ap (option_map line_text) c.in_default.is in
    record {
      left =
          source_passed c.args.tables.now.files c.loop-index.index file c.file.ensures c.loop-index.invariant.left is;
    }
