use Rattle.gimli_write.proofs
use proofs.Common
use Common.{KeepsTexts, sym, subst, outcome_with, answers, ToConvert, to_convert, err_from_is_err_and}
use proofs.ConvertSteps.{kept_self, kept_then}
use proofs.SourceReadBack.{strings_kept, lines_kept, refused_after, rows_read, moved_read, files_read}
use proofs.convert.read_back.convert_and_read_back.Goals as goal

pub returns-in_err-program-clause-strings : goal.returns-in_err-program-clause-strings
returns-in_err-program-clause-strings g c =
    subst (KeepsTexts c.args.strings.now) (sym c.in_err-program.ensures.tables.strings) (kept_self _)

pub round_trip-requires : goal.round_trip-requires
round_trip-requires g c = c.in_ok-program.ensures.outcome.writable.can _

pub returns-in_err-back-clause-refusal : goal.returns-in_err-back-clause-refusal
returns-in_err-back-clause-refusal g c =
    let p = err_from_is_err_and c.from_residual-in_err-back.result c.from_residual-in_err-back.ensures.1 in
    rw (p.1, p.2) (refused_after _ _ _ _ _ _ _ (c.in_ok-program.program, c.in_ok-program.files)
    c.convert_program.new.strings c.convert_program.new.line_strings c.encoding.result
    c.in_ok-program.ensures.outcome.converts c.in_ok-program.ensures.tables.strings c.encoding.ensures.encoding
    c.in_err-back.ensures.refusal)

pub returns-in_err-back-clause-stays : goal.returns-in_err-back-clause-stays
returns-in_err-back-clause-stays g c =
    kept_then c.in_ok-program.ensures.tables.line_strings (lines_kept _ _ _ _ c.in_err-back.ensures.tables_kept)

pub returns-in_err-back-clause-strings : goal.returns-in_err-back-clause-strings
returns-in_err-back-clause-strings g c =
    rw c.in_ok-program.ensures.tables.strings at (strings_kept _ _ _ _ c.in_err-back.ensures.tables_kept)

pub returns-clause-faithful : goal.returns-clause-faithful
returns-clause-faithful g c =
    let source : ToConvert =
    to_convert g.R.Reader.seen c.args.debug_str c.args.debug_line_str c.args.from_program c.args.from_comp_name
    c.args.encoding c.args.line_encoding in
    let made = outcome_with (c.in_ok-program.program, c.in_ok-program.files) c.convert_program.new.line_strings in
    let back = answers c.in_ok-back.back in
    λ m says.
    let so = c.in_ok-program.ensures.outcome.converts m says in
    record {
      files =
          files_read m source c.args.line_strings.now made so back c.round_trip.new.strings
          c.round_trip.new.line_strings c.in_ok-back.ensures.ok.tables.line_strings
          c.in_ok-back.ensures.ok.built.directories c.in_ok-back.ensures.ok.built.files;
      rows = λ can. rows_read m source c.args.line_strings.now made so back c.in_ok-back.ensures.ok.built.rows can;
      moved = λ can. moved_read m source c.args.line_strings.now made so back c.in_ok-back.ensures.ok.built.rows can;
    }

pub returns-clause-stays : goal.returns-clause-stays
returns-clause-stays g c =
    kept_then c.in_ok-program.ensures.tables.line_strings (lines_kept _ _ _ _ c.in_ok-back.ensures.tables_kept)

pub returns-clause-strings : goal.returns-clause-strings
returns-clause-strings g c =
    rw c.in_ok-program.ensures.tables.strings at (strings_kept _ _ _ _ c.in_ok-back.ensures.tables_kept)
