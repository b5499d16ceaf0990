use Rattle.gimli_build.proofs
use proofs.Common.{length, ap, sym, ◌∙◌, length-map, line_text, first_form}
use proofs.writing.Writes.{bytes_unwritten, joins, passed_on}
use proofs.tables.version_5.write_directory_table.Goals as goal

pub returns-in_err-write_formats : goal.returns-in_err-write_formats
returns-in_err-write_formats g c =
    let same = c.directories-directories.ensures
    ∙ c.tables.ensures.directories ∙ ap (λ q. q.directories) c.program.ensures.program in
    let form = c.directory_form-form.ensures ∙ ap first_form same in
    let count = sym (length-map c.directories-directories.result.now line_text) ∙ ap length same in
    passed_on c.from_residual.ensures.1 (bytes_unwritten (rw (form, count) at c.in_err-write_formats.ensures))

pub returns : goal.returns
returns g c =
    let same = c.directories-directories.ensures
    ∙ c.tables.ensures.directories ∙ ap (λ q. q.directories) c.program.ensures.program in
    let form = c.directory_form-form.ensures ∙ ap first_form same in
    let count = sym (length-map c.directories-directories.result.now line_text) ∙ ap length same in
    let first = rw (form, count) at c.in_ok-write_formats.ensures in
    let second = rw (first.ordered, form, same) at c.write_texts.ensures in
    joins first second
