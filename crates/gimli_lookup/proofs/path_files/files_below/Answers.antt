use Rattle.gimli_lookup.specs.PathFiles.{has_path}
use Rattle.gimli_lookup.specs.ProgramPaths.{texts_seen, unit_paths}
use Rattle.gimli_lookup.proofs.PathFileNumbers.{more_below}
use Rattle.gimli_lookup.proofs.path_files.files_below.Goals as goal

pub loop-file-preserved : goal.loop-file-preserved
loop-file-preserved g c =
    let test =
    has_path (unit_paths (texts_seen g.R.Reader.seen c.args.paths.now)
    (g.R.Offset.ReaderOffset.number c.args.header.now.offset.0) c.args.header.now.meaning) c.args.path.now in
    rw c.in_ok-append_with_path.ensures.ok
    (more_below test c.loop-file.file c.loop-file.files.items c.loop-file.invariant)
