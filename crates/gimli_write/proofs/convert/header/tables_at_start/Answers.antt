use Rattle.gimli_write.proofs
use proofs.Common
use Common.{ℕ, List, ◌∙◌, Result, Ok, option_map, IfOk-weaker, LineEncoding, ConvertError, ◌>>=◌, TablesAndTexts}
use Common.{working_directory, SourceFile, source_file, line_encoding_of, first_texts, start_of_tables}
use proofs.ConvertHeader.{at_third}
use proofs.convert.header.tables_at_start.Goals as goal

pub returns-clause-ok : goal.returns-clause-ok
returns-clause-ok g c =
    let s = c.args.sections.now in
    let h = c.args.header.now.meaning in
    let encoding = c.args.encoding in
    let first = working_directory encoding.version s h in
    let second = source_file encoding.version s h (option_map (λ r. (g.R.Reader.seen r).bytes) c.args.from_comp_name) in
    let lines = line_encoding_of h.parameters.line_encoding c.args.line_encoding in
    let next : List ℕ → SourceFile → Result TablesAndTexts ConvertError =
    λ directory file. lines >>= λ (e : LineEncoding).
    Ok (start_of_tables encoding e h (first_texts encoding.version c.args.line_strings.now directory file)) in
    IfOk-weaker c.tables_with_texts.result _ _
    (λ tables is. at_third first second next c.in_ok-directory.directory.items c.in_ok-file.file
    c.in_ok-directory.ensures.ok c.in_ok-file.ensures.ok ∙ is)
    (rw c.as_slice.ensures.value at c.tables_with_texts.ensures.ok)
