use Rattle.std.specs.Prelude.{◌≡◌}
use Rattle.gimli_write.proofs.Common.{map, drop, file_seen, KeepsTexts, tables_with, file_added, all_added}
use Rattle.gimli_write.proofs.convert.tables.SourceTables.add_files.Given as goal

-- what is left to be added gives what all gave
abbrev pub invariant-loop-file : goal.invariant-loop-file
invariant-loop-file g l =
    let add = all_added (file_added l.sections) in
    let seen = file_seen g.R.Reader.seen g.R.Offset.ReaderOffset.number in
    record {
      left : add (map seen (drop l.file-index l.files)) (tables_with l.line_strings l.self)
          ≡ add (map seen l.files) (tables_with l.fn.line_strings l.fn.self);
      stays : KeepsTexts l.fn.line_strings l.line_strings;
    }
