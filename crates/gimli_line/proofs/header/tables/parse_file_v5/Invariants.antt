use Rattle.std.specs.Prelude.{◌≡◌}
use Rattle.gimli_line.proofs.Common.{drop, layout_of, file_seen, FileHasOrder, file_of_entry, entry_production}
use Rattle.gimli_line.proofs.Common.{read_map}
use Rattle.gimli_line.specs.inside.header.EntryReading.{file_with, folded_at}
use Rattle.gimli_line.proofs.header.tables.parse_file_v5.Given as goal

abbrev pub invariant-loop-entry_format : goal.invariant-loop-entry_format
invariant-loop-entry_format g l =
    let layout = layout_of (g.R.Reader.seen l.initial.input).is_big g.R.Offset.ReaderOffset.limit in
    record {
      so_far : folded_at layout l.format file_with (file_seen g.R.Reader.seen g.R.Offset.ReaderOffset.number l.file)
          (drop l.entry_format-index l.formats)
          (g.R.Reader.seen l.input).bytes
          ≡ read_map file_of_entry
          ((entry_production layout l.format l.formats).read (g.R.Reader.seen l.initial.input).bytes);
      order : (g.R.Reader.seen l.input).is_big ≡ (g.R.Reader.seen l.initial.input).is_big;
      part : FileHasOrder g.R.Reader.seen (g.R.Reader.seen l.initial.input).is_big l.file;
    }
