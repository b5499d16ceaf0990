use Rattle.std.proofs.Common.{List, ℕ, length, map, refl, ap, subst, ◌∙◌}
use Rattle.std.proofs.lemmas.Result.{err_from_is_err_and}
use Rattle.gimli_build.specs.Advance.{CanEncode}
use Rattle.gimli_build.specs.Built.{Built, previous_position}
use Rattle.gimli_core.specs.declared.common.Encoding.{Encoding}
use Rattle.gimli_core.specs.declared.common.LineEncoding.{LineEncoding}
use Rattle.gimli_c.specs.Start.{start_program}
use Rattle.gimli_c.specs.Handing.{handed_of}
use Rattle.gimli_c.specs.Handed.{encoding_of, AddsDirectories, AddsFiles, text_handed}
use Rattle.gimli_c.proofs.CauseLemmas.{encoding_refused, file_ids, handed_is_well, memory_refused, rows_refused}
use Rattle.gimli_c.proofs.CauseLemmas.{rows_well, tables_refused}
use Rattle.gimli_c.proofs.Handings.{items_built, can_with}
use Rattle.gimli_c.proofs.write.built.Goals as goal

pub add_directories-requires : goal.add_directories-requires
add_directories-requires c =
    rw c.with_details-program.ensures (can_with c.args.details c.in-Some.start c.in-Some.ensures.can)

pub returns-clause-ok : goal.returns-clause-ok
returns-clause-ok c = λ is_big.
    let between = c.add_directories.new.program in
    let after = c.add_files.new.program in
    let encoding = ap (λ (q : Built). q.encoding) c.in-Some.ensures.start ∙ c.in_ok-units.ensures.encoding in
    let directories =
    subst (λ (q : Built).
    AddsDirectories q between (map (text_handed c.args.texts.now) c.args.directories.now)
    c.in-Some-add_directories.ids.items)
    c.with_details-program.ensures c.in-Some-add_directories.ensures.ok in
    let files =
    subst (λ (ids : List ℕ).
    AddsFiles between after c.args.texts.now ids c.args.files.now c.in-Some-add_files.file_ids.items)
    c.as_slice.ensures.value c.in-Some-add_files.ensures.ok in
    record {
      built = record {
        start = c.in-Some.start;
        is_start = record {
          program_is = c.in-Some.ensures.start
              ∙ ap (λ (e : Encoding).
              start_program e c.in_ok-units.lines c.args.texts.now c.args.directories.now c.args.files.now)
              c.in_ok-units.ensures.encoding
              ∙ ap (λ (l : LineEncoding).
              start_program (encoding_of c.args.encoding.now) l c.args.texts.now c.args.directories.now
              c.args.files.now)
              c.in_ok-units.ensures.lines;
          can = c.in-Some.ensures.can;
        };
        directory_ids = c.in-Some-add_directories.ids.items;
        file_ids = c.in-Some-add_files.file_ids.items;
        between = between;
        after = after;
        directories = directories;
        files = files;
        items =
            items_built c.args.details c.args.encoding.now c.in-Some.start between after c.add_rows.new.program _ _
            _ _ _ _ c.as_slice-2.result.now
            c.args.symbols.now c.args.rows.now
            (ap (λ (q : Built). q.items) c.in-Some.ensures.start) encoding directories files
            c.as_slice-2.ensures.value c.in_ok-add_rows.ensures.ok;
        others = c.in_ok-add_rows.ensures.ok.others;
        can = c.in_ok-add_rows.ensures.can;
      };
      ids_are = refl;
    }

pub returns-in_err-units-clause-refusal : goal.returns-in_err-units-clause-refusal
returns-in_err-units-clause-refusal c = λ is_big.
    let p = err_from_is_err_and c.from_residual.result c.from_residual.ensures.1 in
    let e = c.in_err-units.ensures in
    rw (p.1, p.2) (encoding_refused _ _ e.err e.nowhere e.cause)

pub returns-in_err-check_tables-clause-refusal : goal.returns-in_err-check_tables-clause-refusal
returns-in_err-check_tables-clause-refusal c = λ is_big.
    let p =
    err_from_is_err_and c.from_residual-in_err-check_tables.result c.from_residual-in_err-check_tables.ensures.1 in
    let e = c.in_ok-units.ensures in
    rw (p.1, p.2)
    (tables_refused _ _ _ e.well (subst CanEncode e.lines e.accepts.lines) c.in_err-check_tables.ensures.refusal)

pub returns-in-None-clause-refusal : goal.returns-in-None-clause-refusal
returns-in-None-clause-refusal c = λ is_big. rw c.refusal_of.ensures (memory_refused _)

pub returns-in-None-add_directories-clause-refusal : goal.returns-in-None-add_directories-clause-refusal
returns-in-None-add_directories-clause-refusal c = λ is_big.
    rw c.refusal_of-in-None-add_directories.ensures (memory_refused _)

pub returns-in-None-add_files-clause-refusal : goal.returns-in-None-add_files-clause-refusal
returns-in-None-add_files-clause-refusal c = λ is_big. rw c.refusal_of-in-None-add_files.ensures (memory_refused _)

pub returns-in_err-add_rows-clause-refusal : goal.returns-in_err-add_rows-clause-refusal
returns-in_err-add_rows-clause-refusal c = λ is_big.
    let p = err_from_is_err_and c.from_residual-in_err-add_rows.result c.from_residual-in_err-add_rows.ensures.1 in
    let e = c.in_ok-units.ensures in
    let directories = c.in-Some-add_directories.ensures.ok.others in
    let files = c.in-Some-add_files.ensures.ok.others in
    let details = c.with_details-program.ensures in
    let start = c.in-Some.ensures.start in
    let lines =
    ap (λ (q : Built). q.line_encoding) files ∙ ap (λ (q : Built). q.line_encoding) directories
    ∙ ap (λ (q : Built). q.line_encoding) details
    ∙ ap (λ (q : Built). q.line_encoding) start ∙ e.lines in
    let encoding =
    ap (λ (q : Built). q.encoding) files ∙ ap (λ (q : Built). q.encoding) directories
    ∙ ap (λ (q : Built). q.encoding) details
    ∙ ap (λ (q : Built). q.encoding) start ∙ e.encoding in
    let none =
    ap (λ (q : Built). q.items) files ∙ ap (λ (q : Built). q.items) directories ∙ ap (λ (q : Built). q.items) details
    ∙ ap (λ (q : Built). q.items) start in
    let ids =
    ap (λ (xs : List ℕ). length xs) c.as_slice-2.ensures.value
    ∙ file_ids _ _ _ _ _ _ c.in-Some-add_files.ensures.ok in
    rw (p.1, p.2)
    (rows_refused _ _ c.add_files.new.program _ lines encoding ids e.well (subst CanEncode e.lines e.accepts.lines)
    c.in_ok-check_tables.ensures.well (c.in_err-add_rows.ensures.cause (ap previous_position none)))

pub returns-clause-well : goal.returns-clause-well
returns-clause-well c = λ is_big at.
    let h =
    handed_of c.args.encoding.now is_big c.args.details c.args.texts.now c.args.directories.now c.args.files.now
    c.args.rows.now c.args.symbols.now in
    let e = c.in_ok-units.ensures in
    let directories = c.in-Some-add_directories.ensures.ok.others in
    let files = c.in-Some-add_files.ensures.ok.others in
    let details = c.with_details-program.ensures in
    let start = c.in-Some.ensures.start in
    let lines =
    ap (λ (q : Built). q.line_encoding) files ∙ ap (λ (q : Built). q.line_encoding) directories
    ∙ ap (λ (q : Built). q.line_encoding) details
    ∙ ap (λ (q : Built). q.line_encoding) start ∙ e.lines in
    let encoding =
    ap (λ (q : Built). q.encoding) files ∙ ap (λ (q : Built). q.encoding) directories
    ∙ ap (λ (q : Built). q.encoding) details
    ∙ ap (λ (q : Built). q.encoding) start ∙ e.encoding in
    let none =
    ap (λ (q : Built). q.items) files ∙ ap (λ (q : Built). q.items) directories ∙ ap (λ (q : Built). q.items) details
    ∙ ap (λ (q : Built). q.items) start in
    let ids =
    ap (λ (xs : List ℕ). length xs) c.as_slice-2.ensures.value
    ∙ file_ids _ _ _ _ _ _ c.in-Some-add_files.ensures.ok in
    handed_is_well h e.well (subst CanEncode e.lines e.accepts.lines) c.in_ok-check_tables.ensures.well
    (rows_well h c.add_files.new.program _ lines encoding ids
    (c.in_ok-add_rows.ensures.well (ap previous_position none))) at
