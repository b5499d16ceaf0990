use Rattle.gimli_build.proofs
use proofs.Common.{ap, ◌∙◌, when, first_form, path_texts, sources}
use proofs.building.FormatLemmas.{six_due}
use proofs.tables.version_5.file_formats.Goals as goal

pub returns : goal.returns
returns c =
    let p = c.program.inside in
    let path = c.path_form-path_form.ensures ∙ ap (λ files. first_form (path_texts files)) c.tables.ensures.files in
    rw (path, c.requires, ← c.program.view_is)
    (six_due _ _ (when p.file_has_timestamp (0x0003, 0x0f)) (when p.file_has_size (0x0004, 0x0f))
    (when p.file_has_md5 (0x0005, 0x1e))
    (when p.file_has_source (0x2001, first_form (sources p.tables.files))))
