use Rattle.std.proofs.Common.{Ok, Err, sym, ap, ◌∙◌}
use Rattle.std.specs.Str.{bytes_eq}
use Rattle.gimli_line.specs.header.File.{file_seen}
use Rattle.gimli_lookup.specs.ProgramPaths.{texts_seen, unit_paths}
use Rattle.gimli_lookup.proofs.PathFileNumbers.{path_at}
use Rattle.gimli_lookup.proofs.path_files.has_path.Goals as goal

pub returns-in-Ok-clause-ok : goal.returns-in-Ok-clause-ok
returns-in-Ok-clause-ok g c =
    let paths = unit_paths (texts_seen g.R.Reader.seen c.args.paths.now)
    (g.R.Offset.ReaderOffset.number c.args.header.now.offset.0) c.args.header.now.meaning in
    let path = c.args.path.now in
    let file = file_seen g.R.Reader.seen g.R.Offset.ReaderOffset.number c.in-Some.entry.now in
    c.eq.ensures ∙ ap (λ xs. bytes_eq xs path) c.as_slice.ensures.value
    ∙ sym (path_at paths path c.args.file file (Ok c.in-Ok.whole.items) c.in-Some.ensures.file
    c.in-Ok.ensures.ok)

pub returns-in_default-e : goal.returns-in_default-e
returns-in_default-e g c =
    let paths = unit_paths (texts_seen g.R.Reader.seen c.args.paths.now)
    (g.R.Offset.ReaderOffset.number c.args.header.now.offset.0) c.args.header.now.meaning in
    let path = c.args.path.now in
    let file = file_seen g.R.Reader.seen g.R.Offset.ReaderOffset.number c.in-Some.entry.now in
    let told = c.in-Err.ensures.err c.in_default-e.not-OutOfMemory in
    record {
      ok =
          sym (path_at paths path c.args.file file (Err c.in-Err.e) c.in-Some.ensures.file
          told);
      err = tt;
    }
