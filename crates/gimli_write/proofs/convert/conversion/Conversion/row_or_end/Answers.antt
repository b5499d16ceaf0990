use Rattle.gimli_write.proofs
use proofs.Common.{ℕ, sym, ap, ◌∙◌, err_from_is_err_and, tables_with, ends, file_id, without_built}
use proofs.Conversions.{row_taken, row_refused, file_found, file_lacks}
use proofs.convert.conversion.Conversion.row_or_end.Goals as goal

pub returns-in_err-file : goal.returns-in_err-file
returns-in_err-file g c =
    let version = c.self.inside.source.header.parameters.encoding.version in
    let p = err_from_is_err_and c.from_residual.result c.from_residual.ensures.1 in
    rw (← c.self.view_is) (rw (p.1, p.2) (record {
      ok = tt;
      err = λ line_strings rest.
          let tables = tables_with line_strings c.self.inside.tables in
          row_refused version (without_built tables) c.args.row.now rest
          (sym c.end_sequence.ensures ∙ c.if-end_sequence.false)
          (c.in_err-file.ensures line_strings ∙ ap (λ (v : ℕ). file_id v tables c.file_index.result) c.version.ensures
          ∙ ap (file_id version tables) c.file_index.ensures);
      found = tt;
      lacks = λ line_strings.
          let tables = tables_with line_strings c.self.inside.tables in
          file_lacks version tables c.args.row.now (ends tables) (sym c.end_sequence.ensures ∙ c.if-end_sequence.false)
          (c.in_err-file.ensures line_strings ∙ ap (λ (v : ℕ). file_id v tables c.file_index.result) c.version.ensures
          ∙ ap (file_id version tables) c.file_index.ensures);
    }))

pub returns : goal.returns
returns g c =
    let version = c.self.inside.source.header.parameters.encoding.version in
    rw (← c.self.view_is) (rw c.built_row.ensures (record {
      ok = λ line_strings rest.
          let tables = tables_with line_strings c.self.inside.tables in
          row_taken version (without_built tables) c.args.row.now rest
          (sym c.end_sequence.ensures ∙ c.if-end_sequence.false)
          (c.in_ok-file.ensures line_strings ∙ ap (λ v. file_id v tables c.file_index.result) c.version.ensures
          ∙ ap (file_id version tables) c.file_index.ensures);
      err = tt;
      found = λ line_strings.
          let tables = tables_with line_strings c.self.inside.tables in
          file_found version tables c.args.row.now (ends tables) (sym c.end_sequence.ensures ∙ c.if-end_sequence.false)
          (c.in_ok-file.ensures line_strings ∙ ap (λ v. file_id v tables c.file_index.result) c.version.ensures
          ∙ ap (file_id version tables) c.file_index.ensures);
      lacks = tt;
    }))
