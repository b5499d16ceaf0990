use Rattle.std.specs.Prelude.{◌≡◌, ◌∷◌, ◌++◌}
use Rattle.gimli_build.specs.Calls.{after_directory}
use Rattle.gimli_write.proofs
use proofs.Common.{ℕ, List, [], refl, inl, err_from_is_err_and, Ok, Value, value_seen, LineText, made_text, made_table}
use proofs.Common.{Built, index_of_directory, Sections, source_path, TablesAndTexts, version_of, directory_added}
use proofs.ConvertSteps.{directory_is_added, kept_self, refused_first}
use proofs.convert.tables.SourceTables.add_directory.Goals as goal

directory_done : (s : Sections) (tables : TablesAndTexts) (v : Value) {path ids : List ℕ} {id : ℕ} {text : LineText}
    {line_strings : List (List ℕ)} {program : Built} → source_path (version_of tables) s v ≡ Ok path
    → text ≡ made_text (version_of tables) tables.line_strings path
    → line_strings ≡ made_table (version_of tables) tables.line_strings path
    → program ≡ after_directory text tables.program
    → id ≡ index_of_directory tables.program.directories text → ids ≡ tables.directory_ids ++ id ∷ []
    → directory_added s tables v ≡ Ok (record {
      program = program;
      directory_ids = ids;
      file_ids = tables.file_ids;
      line_strings = line_strings;
    })
directory_done s tables v is made after program id ids =
    rw (ids, id, program) (directory_is_added s tables v is made after)

pub returns-in-Ok-clause-ok : goal.returns-in-Ok-clause-ok
returns-in-Ok-clause-ok g c =
    let v = value_seen g.R.Reader.seen g.R.Offset.ReaderOffset.number c.args.directory in
    let tables : TablesAndTexts = record {
      program = c.self.inside.program;
      directory_ids = c.self.inside.directories.items;
      file_ids = c.self.inside.files.items;
      line_strings = c.args.line_strings.now;
    } in
    let path = rw c.encoding-encoding.ensures.encoding at c.in_ok-path.ensures.ok in
    let made = rw (c.encoding-encoding.ensures.encoding, c.as_slice.ensures.value) at c.in_ok-text.ensures.ok in
    let after = rw (c.encoding-encoding.ensures.encoding, c.as_slice.ensures.value) at c.in_ok-text.ensures.table in
    rw (← c.self.view_is) (directory_done _ tables v path made after c.in-Ok.ensures.builds.ok c.in-Ok.ensures.id
    c.in_ok-push-in-Ok.ensures.items)

pub returns-in_err-path : goal.returns-in_err-path
returns-in_err-path g c =
    let p = err_from_is_err_and c.from_residual.result c.from_residual.ensures.1 in
    let refused = rw c.encoding-encoding.ensures.encoding at c.in_err-path.ensures.err in
    rw p.1 (record {
      ok = tt;
      err = rw (p.2, ← c.self.view_is) (refused_first _ _ _ refused);
      kept = λ other. refl;
      stays = kept_self _;
    })

pub returns-in_err-text : goal.returns-in_err-text
returns-in_err-text g c =
    let p = err_from_is_err_and c.from_residual-in_err-text.result c.from_residual-in_err-text.ensures.1 in
    rw (p.1, p.2) (record {
      ok = tt;
      err = inl c.in_err-text.ensures.memory;
      kept = λ other. absurd (other c.in_err-text.ensures.memory);
      stays = c.in_err-text.ensures.stays;
    })

pub returns-in_err-push-in-Ok : goal.returns-in_err-push-in-Ok
returns-in_err-push-in-Ok g c =
    let p =
    err_from_is_err_and c.from_residual-in_err-push-in-Ok.result c.from_residual-in_err-push-in-Ok.ensures.1 in
    rw p.1 (record {
      ok = tt;
      err = inl p.2;
      kept = λ other. absurd (other p.2);
      stays = c.in_ok-text.ensures.stays;
    })
