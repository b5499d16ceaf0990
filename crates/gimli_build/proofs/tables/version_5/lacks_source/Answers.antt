use Rattle.std.specs.Prelude.{◌≡◌}
use Rattle.gimli_build.proofs
use proofs.Common.{rules, true, false, sym, ◌∙◌, is_none, line_text, File, details}
use proofs.building.SourceLemmas.{any_found, any_passed, none_seen}
use proofs.tables.version_5.lacks_source.Goals as goal

pub returns-then-is_none : goal.returns-then-is_none
returns-then-is_none c =
    let file : File = ((line_text c.file.result.0.now, c.file.result.1), details c.file.result.2.now) in
    let is : is_none c.file.result.2.now.source ≡ true = search rules in
    sym (any_found (λ f. is_none f.1.source) c.args.tables.now.files c.loop-index.index _ c.file.ensures
    c.loop-index.invariant.left
    (none_seen _ _ ∙ is))

pub loop-index-preserved : goal.loop-index-preserved
loop-index-preserved c =
    let file : File = ((line_text c.file.result.0.now, c.file.result.1), details c.file.result.2.now) in
    let is : is_none c.file.result.2.now.source ≡ false = search rules in
    record {
      left = any_passed (λ f. is_none f.1.source) c.args.tables.now.files c.loop-index.index _ c.file.ensures
          c.loop-index.invariant.left
          (none_seen _ _ ∙ is);
    }
