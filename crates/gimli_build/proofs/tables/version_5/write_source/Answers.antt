use Rattle.std.specs.Prelude.{◌≡◌}
use Rattle.gimli_build.proofs
use proofs.Common
use Common.{rules, true, Some, None, refl, ◌∙◌, Option, unwrap_or, IfSome, LineText, line_text, IsWithin, details}
use Common.{first_form, sources, empty_text}
use proofs.tables.version_5.write_source.Goals as goal

stands : (source : Option LineText) (t e : LineText) → (source ≡ None → t ≡ e) → unwrap_or source t ≡ unwrap_or source e
stands (Some s) t e same = refl
stands None t e same = same refl

within : (P : LineText → Type 0) (source : Option LineText) (t : LineText) → IfSome source P → (source ≡ None → P t)
    → P (unwrap_or source t)
within P (Some s) t p q = p
within P None t p q = q refl

pub write_line_string-requires : goal.write_line_string-requires
write_line_string-requires g c =
    let has : c.args.input.now.program.file_has_source ≡ true = search rules in
    rw c.source_or.ensures
    (within (IsWithin c.args.input.now.texts) _ _ c.requires.source (λ none.
    (c.empty.ensures (c.requires.none has none)).within))

pub returns : goal.returns
returns g c =
    let p = c.args.input.now.program in
    let source = (details c.args.info.now).source in
    let has : p.file_has_source ≡ true = search rules in
    let empty = empty_text (first_form (sources p.files)) c.args.input.now.texts in
    let text : line_text c.source_or.result.now ≡ unwrap_or source empty = c.source_or.ensures
    ∙ stands _ _ _ (λ none. (c.empty.ensures (c.requires.none has none)).is) in
    rw has (rw (c.requires.form, text) at c.write_line_string.ensures)
