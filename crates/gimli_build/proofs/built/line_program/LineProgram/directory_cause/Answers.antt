use Rattle.std.specs.Prelude.{◌≡◌, ◌&&◌}
use Rattle.gimli_build.proofs
use proofs.Common
use Common.{ℕ, Some, sym, ap, ◌∙◌, rules, false, nat_eq, nat_le, slice_get, Format, texts_in, line_text, IsWithin}
use Common.{first_form, text_cause, wanted_form}
use proofs.refusals.FirstCauses.{mapped_at, all_at, directory_there}
use proofs.built.line_program.LineProgram.directory_cause.Goals as goal

pub text_cause-cause-requires : goal.text_cause-cause-requires
text_cause-cause-requires c =
    let texts = texts_in c.args.strings.now c.args.line_strings.now in
    all_at (IsWithin texts) _ _ _
    c.requires.can.directories
    (mapped_at _ _ _ _
    _ (c.directories-directories.ensures ∙ c.tables.ensures.directories) c.requires.there
    c.index-directories-index.is)

pub returns : goal.returns
returns c =
    let p = c.args.self.now in
    let texts = texts_in c.args.strings.now c.args.line_strings.now in
    let t = line_text c.index-directories-index.result in
    let own = c.wanted_form-form.result.0 in
    let there : slice_get p.directories c.args.index ≡ Some t =
    mapped_at line_text c.directories-directories.result.now p.directories c.args.index
    c.index-directories-index.result (c.directories-directories.ensures ∙ c.tables.ensures.directories) c.requires.there
    c.index-directories-index.is in
    let not_handed : (nat_le p.encoding.version 4 && nat_eq c.args.index 0) ≡ false = search rules in
    let form : own ≡ wanted_form p.encoding.version (first_form p.directories) =
    c.wanted_form-form.ensures ∙ ap (λ (v : ℕ). wanted_form v c.directory_form.result.0) c.version.ensures
    ∙ ap (wanted_form p.encoding.version)
    (c.directory_form.ensures ∙ ap first_form (c.directories-directories.ensures ∙ c.tables.ensures.directories)) in
    c.text_cause-cause.ensures ∙ ap (λ (f : Format). text_cause f texts (own, t)) c.format.ensures
    ∙ ap (λ (n : ℕ). text_cause p.encoding.format texts (n, t)) form
    ∙ sym (directory_there p texts c.args.index t there not_handed)
