use Rattle.std.specs.Prelude.{◌≡◌}
use Rattle.gimli_write.proofs.Common.{map, drop, value_seen, KeepsTexts, tables_with, directory_added, all_added}
use Rattle.gimli_write.proofs.convert.tables.SourceTables.add_directories.Given as goal

-- what is left to be added gives what all gave
abbrev pub invariant-loop-directory : goal.invariant-loop-directory
invariant-loop-directory g l =
    let add = all_added (directory_added l.sections) in
    let seen = value_seen g.R.Reader.seen g.R.Offset.ReaderOffset.number in
    record {
      left : add (map seen (drop l.directory-index l.directories)) (tables_with l.line_strings l.self)
          ≡ add (map seen l.directories) (tables_with l.fn.line_strings l.fn.self);
      stays : KeepsTexts l.fn.line_strings l.line_strings;
    }
