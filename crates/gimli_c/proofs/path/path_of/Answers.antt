use Rattle.std.proofs.Common.{sym, ap, refl, inl, inr, ◌∙◌}
use Rattle.gimli_line.specs.header.File.{file_seen}
use Rattle.gimli_lookup.specs.Strings.{strings}
use Rattle.gimli_c.proofs.Files.{complete, file_is, has_complete, looked_up}
use Rattle.gimli_c.proofs.PathsOfFiles.{same_path, ok_more, err_more}
use Rattle.gimli_c.specs.Location.{slice_seen}
use Rattle.gimli_c.proofs.path.path_of.Goals as goal

pub returns-in-Err-clause-err : goal.returns-in-Err-clause-err
returns-in-Err-clause-err c = λ other. inr (inr (c.in-Err.ensures.refused other))

pub returns-in-None-clause-err : goal.returns-in-None-clause-err
returns-in-None-clause-err c = λ other.
    let start = c.rows-rows.result in
    let h = c.header-header.result.now.meaning in
    let l =
    looked_up start c.run_to_file.new.rows h c.args.number c.header-header.ensures.header.fixed
    c.header-header.ensures.files c.run_to_file.ensures.fixed
    c.in-Ok-run_to_file.ensures.file in
    inl (
      refl,
      record {
        header = complete start;
        unit =
            has_complete _ _ _ start c.in-Ok.ensures.unit c.in-Ok.ensures.layout c.rows-rows.ensures.files
            (ap (λ a. a.fixed) c.rows-rows.ensures.start);
        none = sym (file_is start c.run_to_file.new.rows h c.args.number l) ∙ sym c.in-None.ensures.file;
      },
    )

pub returns-clause-ok : goal.returns-clause-ok
returns-clause-ok c =
    let start = c.rows-rows.result in
    let h = c.header-header.result.now.meaning in
    let l =
    looked_up start c.run_to_file.new.rows h c.args.number c.header-header.ensures.header.fixed
    c.header-header.ensures.files c.run_to_file.ensures.fixed
    c.in-Ok-run_to_file.ensures.file in
    let seen = file_seen slice_seen (λ n. n) c.in-Some.entry.now in
    ok_more c.path_in_header.result (λ path is. record {
      header = complete start;
      file = seen;
      is = record {
        unit =
            has_complete _ _ _ start c.in-Ok.ensures.unit c.in-Ok.ensures.layout c.rows-rows.ensures.files
            (ap (λ a. a.fixed) c.rows-rows.ensures.start);
        is_file = sym (file_is start c.run_to_file.new.rows h c.args.number l) ∙ sym c.in-Some.ensures.file;
      };
      is_path =
          sym (same_path (strings slice_seen c.args.texts) start c.run_to_file.new.rows h c.args.number
          c.args.comp_dir.now seen l)
          ∙ is;
    }) c.path_in_header.ensures.ok

pub returns-clause-err : goal.returns-clause-err
returns-clause-err c =
    let start = c.rows-rows.result in
    let h = c.header-header.result.now.meaning in
    let l =
    looked_up start c.run_to_file.new.rows h c.args.number c.header-header.ensures.header.fixed
    c.header-header.ensures.files c.run_to_file.ensures.fixed
    c.in-Ok-run_to_file.ensures.file in
    let seen = file_seen slice_seen (λ n. n) c.in-Some.entry.now in
    err_more c.path_in_header.result (λ status is other. let told = is other in inr (inl (
      told.0,
      record {
        header = complete start;
        file = seen;
        is = record {
          unit =
              has_complete _ _ _ start c.in-Ok.ensures.unit c.in-Ok.ensures.layout c.rows-rows.ensures.files
              (ap (λ a. a.fixed) c.rows-rows.ensures.start);
          is_file = sym (file_is start c.run_to_file.new.rows h c.args.number l) ∙ sym c.in-Some.ensures.file;
        };
        error = told.1.0;
        is_error =
            sym (same_path (strings slice_seen c.args.texts) start c.run_to_file.new.rows h c.args.number
            c.args.comp_dir.now seen l)
            ∙ told.1.1;
      },
    ))) c.path_in_header.ensures.err
