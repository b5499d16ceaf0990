use Rattle.gimli_write.proofs
use proofs.Common.{ap, ◌∙◌, option_map, unwrap_or, err_from_is_err_and, handed_of}
use proofs.ConvertSteps.{kept_then}
use proofs.ConvertHeader.{refused_at_start, refused_at_listed}
use proofs.convert.header.prepare.Goals as goal

pub returns-in_err-tables-clause-err : goal.returns-in_err-tables-clause-err
returns-in_err-tables-clause-err g c =
    let s = c.args.sections.now in
    let h = c.args.header.now.meaning in
    let given =
    handed_of c.args.encoding c.args.line_encoding
    (option_map (λ r. (g.R.Reader.seen r).bytes) c.args.from_comp_name) in
    let target = c.unwrap_or-encoding.ensures ∙ ap (λ own. unwrap_or c.args.encoding own) c.encoding.ensures.encoding in
    let p = err_from_is_err_and c.from_residual.result c.from_residual.ensures.1 in
    rw (p.1, p.2)
    (refused_at_start s h given c.args.line_strings.now c.unwrap_or-encoding.result target c.in_err-tables.field-0.0
    c.in_err-tables.ensures.err)

pub returns-in_err-add_directories_and_files-clause-err : goal.returns-in_err-add_directories_and_files-clause-err
returns-in_err-add_directories_and_files-clause-err g c =
    let s = c.args.sections.now in
    let h = c.args.header.now.meaning in
    let given =
    handed_of c.args.encoding c.args.line_encoding
    (option_map (λ r. (g.R.Reader.seen r).bytes) c.args.from_comp_name) in
    let target = c.unwrap_or-encoding.ensures ∙ ap (λ own. unwrap_or c.args.encoding own) c.encoding.ensures.encoding in
    let p =
    err_from_is_err_and c.from_residual-in_err-add_directories_and_files.result
    c.from_residual-in_err-add_directories_and_files.ensures.1 in
    rw (p.1, p.2) (refused_at_listed s h given c.args.line_strings.now c.unwrap_or-encoding.result target
    c.in_err-add_directories_and_files.field-0.0
    c.in_ok-tables.ensures.ok c.in_err-add_directories_and_files.ensures.err)

pub returns-in_err-add_directories_and_files-clause-stays : goal.returns-in_err-add_directories_and_files-clause-stays
returns-in_err-add_directories_and_files-clause-stays g c =
    kept_then c.in_ok-tables.ensures.stays c.in_err-add_directories_and_files.ensures.stays

pub returns-clause-stays : goal.returns-clause-stays
returns-clause-stays g c = kept_then c.in_ok-tables.ensures.stays c.in_ok-add_directories_and_files.ensures.stays
