use Rattle.gimli_lookup.specs.PathFiles.{has_path}
use Rattle.gimli_lookup.specs.ProgramPaths.{texts_seen, unit_paths}
use Rattle.gimli_lookup.specs.inside.Statements.{AreBelow}
use Rattle.gimli_lookup.proofs.path_files.files_below.Given as goal

abbrev pub invariant-loop-file : goal.invariant-loop-file
invariant-loop-file g l =
    AreBelow
    (has_path
    (unit_paths (texts_seen g.R.Reader.seen l.paths) (g.R.Offset.ReaderOffset.number l.header.offset.0)
    l.header.meaning)
    l.path)
    l.file l.files.items
