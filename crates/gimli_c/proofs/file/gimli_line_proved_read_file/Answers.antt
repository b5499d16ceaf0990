use Rattle.std.proofs.Common.{◌∙◌, [], ap, sym, arith, inl, inr, refl}
use Rattle.std.specs.Prelude.{unwrap_or}
use Rattle.gimli_c.specs.FileSeen.{text_here}
use Rattle.gimli_c.specs.declared.status.TheConstants.{NO_ROOM, NO_SUCH_FILE, OK}
use Rattle.gimli_c.proofs.Copied.{apart}
use Rattle.gimli_c.proofs.Files.{complete, directory_is, file_is, has_complete, looked_up, seen_is}
use Rattle.gimli_c.proofs.file.gimli_line_proved_read_file.Goals.{then-path_bytes-path-via-then-path_bytes-path}
use Rattle.gimli_c.proofs.file.gimli_line_proved_read_file.Goals.{
  then-path_bytes-path-via-else-path_bytes-path+then-directory_bytes-directory,
}
use Rattle.gimli_c.proofs.file.gimli_line_proved_read_file.Goals as goal

pub returns-in-Err-clause-file : goal.returns-in-Err-clause-file
returns-in-Err-clause-file c = record {
  found = λ ok. absurd (c.in-Err.ensures.other.0 ok);
  larger = λ no_room. absurd (c.in-Err.ensures.other.1 no_room);
  refused = λ _ _ memory. inr (c.in-Err.ensures.refused memory);
  kept = λ _. (refl, refl);
  no_file = λ _ _. refl;
}

pub returns-in-Err-run_to_file-clause-file : goal.returns-in-Err-run_to_file-clause-file
returns-in-Err-run_to_file-clause-file c = record {
  found = λ ok. absurd (c.error_status.ensures.other.0 ok);
  larger = λ no_room. absurd (c.error_status.ensures.other.1 no_room);
  refused = λ _ _ memory. absurd (memory (rw c.in-Err-run_to_file.ensures.err at c.error_status.ensures.number));
  kept = λ _. (refl, refl);
  no_file = λ _ _. refl;
}

pub returns-in-None-clause-file : goal.returns-in-None-clause-file
returns-in-None-clause-file c =
    let start = c.rows-rows.result in
    let h = c.header.result.now.meaning in
    let l =
    looked_up start c.run_to_file.new.rows h c.args.number c.header.ensures.header.fixed c.header.ensures.files
    c.run_to_file.ensures.fixed
    c.in-Ok-run_to_file.ensures.file in
    record {
      found = λ ok. absurd (apart NO_SUCH_FILE OK refl ok);
      larger = λ no_room. absurd (apart NO_SUCH_FILE NO_ROOM refl no_room);
      refused = λ _ _ _.
          inl (
            refl,
            record {
              header = complete start;
              unit =
                  has_complete _ _ _ start c.in-Ok.ensures.unit c.in-Ok.ensures.layout c.rows-rows.ensures.files
                  (ap (λ a. a.fixed) c.rows-rows.ensures.start);
              none = sym (file_is start c.run_to_file.new.rows h c.args.number l) ∙ c.in-None.ensures.none;
            },
          );
      kept = λ _. (refl, refl);
      no_file = λ _ _. refl;
    }

pub returns-clause-file : goal.returns-clause-file
returns-clause-file c =
    let told = c.in-Some.ensures.some in
    let start = c.rows-rows.result in
    let h = c.header.result.now.meaning in
    let l =
    looked_up start c.run_to_file.new.rows h c.args.number c.header.ensures.header.fixed c.header.ensures.files
    c.run_to_file.ensures.fixed
    c.in-Ok-run_to_file.ensures.file in
    record {
      found = λ _. (
        c.bytes_of-path_bytes.result.now,
        c.bytes_of-directory_bytes.result.now,
        record {
          header = complete start;
          unit =
              has_complete _ _ _ start c.in-Ok.ensures.unit c.in-Ok.ensures.layout c.rows-rows.ensures.files
              (ap (λ a. a.fixed) c.rows-rows.ensures.start);
          file = told.file;
          is_file = sym (file_is start c.run_to_file.new.rows h c.args.number l) ∙ told.is_file;
          seen_is = told.seen_is ∙ seen_is start c.run_to_file.new.rows h c.args.number told.file l;
          path_is = c.bytes_of-path_bytes.ensures ∙ ap (λ text. unwrap_or text []) told.path_is;
          directory_is =
              c.bytes_of-directory_bytes.ensures
              ∙ ap (λ text. unwrap_or text [])
              (told.directory_is
              ∙ ap text_here
              (directory_is start c.run_to_file.new.rows h c.args.number told.file.directory_index l));
        },
        (omega arith, c.copy_bytes.ensures),
        (omega arith, c.copy_bytes-2.ensures),
      );
      larger = λ no_room. absurd (apart OK NO_ROOM refl no_room);
      refused = λ some _. absurd (some refl);
      kept = λ some. absurd (some refl);
      no_file = λ some _. absurd (some refl);
    }

pub returns-then-path_bytes-path-clause-file : goal.returns-then-path_bytes-path-clause-file
returns-then-path_bytes-path-clause-file c =
    let told = c.in-Some.ensures.some in
    let start = c.rows-rows.result in
    let h = c.header.result.now.meaning in
    let l =
    looked_up start c.run_to_file.new.rows h c.args.number c.header.ensures.header.fixed c.header.ensures.files
    c.run_to_file.ensures.fixed
    c.in-Ok-run_to_file.ensures.file in
    record {
      found = λ ok. absurd (apart NO_ROOM OK refl ok);
      larger = λ _. (
        c.bytes_of-path_bytes.result.now,
        c.bytes_of-directory_bytes.result.now,
        record {
          header = complete start;
          unit =
              has_complete _ _ _ start c.in-Ok.ensures.unit c.in-Ok.ensures.layout c.rows-rows.ensures.files
              (ap (λ a. a.fixed) c.rows-rows.ensures.start);
          file = told.file;
          is_file = sym (file_is start c.run_to_file.new.rows h c.args.number l) ∙ told.is_file;
          seen_is = told.seen_is ∙ seen_is start c.run_to_file.new.rows h c.args.number told.file l;
          path_is = c.bytes_of-path_bytes.ensures ∙ ap (λ text. unwrap_or text []) told.path_is;
          directory_is =
              c.bytes_of-directory_bytes.ensures
              ∙ ap (λ text. unwrap_or text [])
              (told.directory_is
              ∙ ap text_here
              (directory_is start c.run_to_file.new.rows h c.args.number told.file.directory_index l));
        },
        elim c.then-path_bytes-path.branch [
          | then-path_bytes-path-via-then-path_bytes-path w ↦ inl w.if-path_bytes-path.true
          | then-path_bytes-path-via-else-path_bytes-path+then-directory_bytes-directory w ↦
              inr w.if-directory_bytes-directory.true
        ],
      );
      refused = λ _ small. absurd (small refl);
      kept = λ _. (refl, refl);
      no_file = λ _ small. absurd (small refl);
    }
