use Rattle.std.proofs.Common.{◌+◌, ◌++◌, if◌then◌else◌, [], ◌∷◌, arith}
use Rattle.gimli_lookup.specs.PathFiles.{has_path}
use Rattle.gimli_lookup.specs.ProgramPaths.{texts_seen, unit_paths}
use Rattle.gimli_lookup.proofs.PathFileNumbers.{more_below, all_below, no_path_past}
use Rattle.gimli_lookup.proofs.path_files.files_with_path.Goals as goal

pub returns-clause-ok : goal.returns-clause-ok
returns-clause-ok g c =
    let paths = unit_paths (texts_seen g.R.Reader.seen c.args.paths.now)
    (g.R.Offset.ReaderOffset.number c.args.header.now.offset.0) c.args.header.now.meaning in
    let test = has_path paths c.args.path.now in
    let last = c.last_index-last.result in
    let files = c.in_ok-files.files.items in
    rw c.in_ok-append_with_path.ensures.ok
    (all_below test (last + 1) (files ++ (if test last then last ∷ [] else []))
    (more_below test last files c.in_ok-files.ensures.ok)
    (λ i from. no_path_past paths c.args.path.now i (omega (arith, c.last_index-last.ensures))))
