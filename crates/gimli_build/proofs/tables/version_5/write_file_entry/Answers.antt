use Rattle.gimli_build.proofs
use proofs.Common.{ap, ◌∙◌, All-contains, IsWithin, IfSome, first_form, path_texts}
use proofs.building.SourceLemmas.{needs-empty}
use proofs.writing.Writes.{first_unwritten, joins, passed_on}
use proofs.tables.version_5.write_file_entry.Goals as goal

pub write_line_string-requires : goal.write_line_string-requires
write_line_string-requires g c =
    All-contains (λ f. IsWithin c.args.input.now.texts f.0.0) _ _ c.program-program.ensures.can.paths c.requires.there

pub write_source-requires-clause-source : goal.write_source-requires-clause-source
write_source-requires-clause-source g c =
    All-contains (λ f. IfSome f.1.source (IsWithin c.args.input.now.texts)) _ _ c.program-program.ensures.can.sources
    c.requires.there

pub write_source-requires-clause-none : goal.write_source-requires-clause-none
write_source-requires-clause-none g c = needs-empty c.args.input.now.program _ c.requires.version c.requires.there

pub returns-clause-writes : goal.returns-clause-writes
returns-clause-writes g c =
    let files = c.tables.ensures.files ∙ ap (λ q. q.files) c.program-program.ensures.program in
    let form = c.path_form.ensures ∙ ap (λ files. first_form (path_texts files)) files in
    let first = rw form at c.in_ok-write_line_string.ensures in
    let second = rw c.program-program.ensures.program at c.in_ok-write_details.ensures.writes in
    let third = rw (second.ordered ∙ first.ordered) at c.write_source.ensures in
    joins first (joins second third)

pub returns-in_err-write_details-clause-writes : goal.returns-in_err-write_details-clause-writes
returns-in_err-write_details-clause-writes g c =
    let files = c.tables.ensures.files ∙ ap (λ q. q.files) c.program-program.ensures.program in
    let form = c.path_form.ensures ∙ ap (λ files. first_form (path_texts files)) files in
    let first = rw form at c.in_ok-write_line_string.ensures in
    passed_on c.from_residual-in_err-write_details.ensures.1
    (joins first (first_unwritten _ (rw c.program-program.ensures.program at c.in_err-write_details.ensures.writes)))
