use Rattle.std.specs.Prelude.{◌≡◌, ◌∷◌, ◌++◌}
use Rattle.gimli_write.proofs
use proofs.Common.{ℕ, List, [], arith, Option, Some, refl, option_map, option_map_or, err_from_is_err_and, File}
use proofs.Common.{file_seen, LineText, line_text, made_text, made_table, Built, after_file, index_of_file}
use proofs.Common.{ap, StringTables, CanWrite, SourceTables, TablesAndTexts, version_of, FileParts, with_parts}
use proofs.ConvertSteps.{parts_are_added, kept_then}
use proofs.KeptFiles.{files_self, keeps_more}
use proofs.Writable.{written_later, written_with_parts}
use proofs.convert.tables.SourceTables.add_parts.Goals as goal

parts_done : (tables : TablesAndTexts) (f : File) (parts : FileParts) {path : LineText} {source : Option LineText}
    {paths line_strings : List (List ℕ)} {program : Built} {ids md5 : List ℕ} {id timestamp size : ℕ}
    → path ≡ made_text (version_of tables) tables.line_strings parts.path
    → paths ≡ made_table (version_of tables) tables.line_strings parts.path
    → source ≡ option_map (made_text (version_of tables) paths) parts.source
    → line_strings ≡ option_map_or (made_table (version_of tables) paths) parts.source paths
    → program ≡ after_file (path, parts.directory)
    (Some (record { timestamp = timestamp; size = size; md5 = md5; source = source })) tables.program
    → timestamp ≡ f.timestamp → size ≡ f.size → md5 ≡ f.md5
    → id ≡ index_of_file tables.program.files (path, parts.directory) → ids ≡ tables.file_ids ++ id ∷ []
    → with_parts tables f parts ≡ record {
      program = program;
      directory_ids = tables.directory_ids;
      file_ids = ids;
      line_strings = line_strings;
    }
parts_done tables f parts made after source_made source_after program time size md5 id ids =
    rw (ids, id, program, time, size, md5) (parts_are_added tables f parts made after source_made source_after)

moved : {p q : Built} {texts : StringTables} → q ≡ p → CanWrite p texts → CanWrite q texts
moved is can = rw is can

pub returns-in_err-path : goal.returns-in_err-path
returns-in_err-path g c =
    let p = err_from_is_err_and c.from_residual.result c.from_residual.ensures.1 in
    record {
      ok = rw p.1 tt;
      memory = rw (p.1, p.2) c.in_err-path.ensures.memory;
      adds = refl;
      keeps = files_self;
      writable = record { still = λ strings. written_later strings _ _ c.in_err-path.ensures.stays };
      stays = c.in_err-path.ensures.stays;
    }

pub returns-in_err-source : goal.returns-in_err-source
returns-in_err-source g c =
    let p = err_from_is_err_and c.from_residual-in_err-source.result c.from_residual-in_err-source.ensures.1 in
    let kept = kept_then c.in_ok-path.ensures.stays c.in_err-source.ensures.stays in
    record {
      ok = rw p.1 tt;
      memory = rw (p.1, p.2) c.in_err-source.ensures.memory;
      adds = refl;
      keeps = files_self;
      writable = record { still = λ strings. written_later strings _ _ kept };
      stays = kept;
    }

pub returns-in-Err : goal.returns-in-Err
returns-in-Err g c =
    let kept = kept_then c.in_ok-path.ensures.stays c.in_ok-source.ensures.stays in
    rw (c.in-Err.ensures.builds.kept, ← c.self.view_is) (record {
      ok = tt;
      memory = c.from_write.ensures.memory c.in-Err.ensures.builds.memory;
      adds = refl;
      keeps = files_self;
      writable = record { still = λ strings. written_later strings _ _ kept };
      stays = kept;
    })

pub returns-in_err-push-in-Ok : goal.returns-in_err-push-in-Ok
returns-in_err-push-in-Ok g c =
    let p =
    err_from_is_err_and c.from_residual-in_err-push-in-Ok.result c.from_residual-in_err-push-in-Ok.ensures.1 in
    record {
      ok = rw p.1 tt;
      memory = rw p.1 p.2;
      adds = rw (← c.self.view_is, c.in-Ok.ensures.builds.ok) refl;
      keeps = rw (← c.self.view_is) (record {
        files = c.in-Ok.ensures.keeps;
        numbers = rw c.in_err-push-in-Ok.ensures.items (record { grows = omega arith; stays = λ i lt. refl });
        directories = refl;
      });
      writable = record {
        still = λ strings can. moved c.in-Ok.ensures.builds.ok (written_with_parts line_text _ _ _ _ _ _ _
            c.in_ok-path.ensures.stays c.in_ok-source.ensures.stays c.in_ok-path.ensures.within
            c.in_ok-source.ensures.within c.in_ok-source.ensures.no_zero
            (moved (ap (λ (t : SourceTables). t.program) c.self.view_is) can));
      };
      stays = kept_then c.in_ok-path.ensures.stays c.in_ok-source.ensures.stays;
    }

pub returns-in_ok-push-in-Ok-clause-ok : goal.returns-in_ok-push-in-Ok-clause-ok
returns-in_ok-push-in-Ok-clause-ok g c =
    let f = file_seen g.R.Reader.seen g.R.Offset.ReaderOffset.number c.args.file.now in
    let tables : TablesAndTexts = record {
      program = c.self.inside.program;
      directory_ids = c.self.inside.directories.items;
      file_ids = c.self.inside.files.items;
      line_strings = c.args.line_strings.now;
    } in
    let made = rw (c.encoding-encoding.ensures.encoding, c.as_slice.ensures.value) at c.in_ok-path.ensures.ok in
    let after = rw (c.encoding-encoding.ensures.encoding, c.as_slice.ensures.value) at c.in_ok-path.ensures.table in
    let source_made = rw c.encoding-encoding.ensures.encoding at c.in_ok-source.ensures.ok in
    let source_after = rw c.encoding-encoding.ensures.encoding at c.in_ok-source.ensures.table in
    rw (← c.self.view_is, ← c.parts.view_is) (parts_done tables f _ made after source_made source_after
    c.in-Ok.ensures.builds.ok c.timestamp.ensures c.size.ensures c.md5.ensures c.in-Ok.ensures.id
    c.in_ok-push-in-Ok.ensures.items)

pub returns-in_ok-push-in-Ok-clause-keeps : goal.returns-in_ok-push-in-Ok-clause-keeps
returns-in_ok-push-in-Ok-clause-keeps g c =
    rw (← c.self.view_is) (record {
      files = c.in-Ok.ensures.keeps;
      numbers = rw c.in_ok-push-in-Ok.ensures.items (keeps_more _ _);
      directories = refl;
    })

pub returns-in_ok-push-in-Ok-clause-writable : goal.returns-in_ok-push-in-Ok-clause-writable
returns-in_ok-push-in-Ok-clause-writable g c =
    record {
      still = λ strings can. moved c.in-Ok.ensures.builds.ok (written_with_parts line_text _ _ _ _ _ _ _
          c.in_ok-path.ensures.stays c.in_ok-source.ensures.stays c.in_ok-path.ensures.within
          c.in_ok-source.ensures.within c.in_ok-source.ensures.no_zero
          (moved (ap (λ (t : SourceTables). t.program) c.self.view_is) can));
    }

pub returns-in_ok-push-in-Ok-clause-stays : goal.returns-in_ok-push-in-Ok-clause-stays
returns-in_ok-push-in-Ok-clause-stays g c = kept_then c.in_ok-path.ensures.stays c.in_ok-source.ensures.stays

pub invariant_of-self : goal.invariant_of-self
invariant_of-self g c = rw c.in-Ok.ensures.builds.ok c.self.invariant

pub invariant_of-self-in-Ok : goal.invariant_of-self-in-Ok
invariant_of-self-in-Ok g c = rw c.in-Ok.ensures.builds.ok c.self.invariant
