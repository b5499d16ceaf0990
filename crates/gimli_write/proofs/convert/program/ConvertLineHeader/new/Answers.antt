use Rattle.std.specs.Prelude.{◌≡◌}
use Rattle.gimli_write.proofs
use proofs.Common
use Common.{refl, sym, subst, option_map, err_from_is_err_and, Sections, TablesAndTexts, tables_with, handed_of}
use Common.{encoding_of, ReadsItems, start_of_source, reading_left, without_built}
use proofs.SourceReadings.{start_reads}
use proofs.Conversions.{prepared_plain}
use proofs.MappedFiles.{prepared_ready, ready_written}
use proofs.convert.program.ConvertLineHeader.new.Goals as goal

pub returns-in_err-tables-clause-err : goal.returns-in_err-tables-clause-err
returns-in_err-tables-clause-err g c =
    let p = err_from_is_err_and c.from_residual.result c.from_residual.ensures.1 in
    let refused = rw c.header.ensures at c.in_err-tables.ensures.err in
    rw (p.1, p.2) refused

pub returns-clause-ok : goal.returns-clause-ok
returns-clause-ok g c =
    let sections : Sections = record {
      strings = (g.R.Reader.seen c.args.debug_str).bytes;
      line_strings = (g.R.Reader.seen c.args.debug_line_str).bytes;
    } in
    let h = c.args.from_program.meaning in
    let layout = c.args.from_program.layout in
    let tables = tables_with c.prepare.new.line_strings c.in_ok-tables.tables in
    let given =
    handed_of c.args.encoding c.args.line_encoding
    (option_map (λ r. (g.R.Reader.seen r).bytes) c.args.from_comp_name) in
    let is = rw c.header.ensures at c.in_ok-tables.ensures.ok in
    let same : without_built tables ≡ tables = prepared_plain sections h given c.args.line_strings.now is in
    rw c.start-conversion.ensures (record {
      prepared = is;
      reads =
          subst (λ (x : TablesAndTexts). ReadsItems layout sections h tables h.program
          (reading_left sections (start_of_source h (record { bytes = h.program; layout = layout })) x))
          (sym same) (start_reads layout sections h tables h.program);
      unread = refl;
      writable = record {
        can = λ strings. ready_written strings (encoding_of h given) tables
            (prepared_ready strings sections h given c.args.line_strings.now is);
      };
    })
