use Rattle.std.specs.Prelude.{◌≡◌, ◌-◌}
use Rattle.gimli_line.proofs
use proofs.Common
use Common.{All, times, map, layout_of, file_seen, FileHasOrder, read_map, file_of_entry, entry_production}
use Common.{entries_production}
use proofs.Loops.{collected}
use proofs.header.tables.parse_files_v5.Given as goal

abbrev pub invariant-loop : goal.invariant-loop
invariant-loop g l =
    let layout = layout_of (g.R.Reader.seen l.fn.input).is_big g.R.Offset.ReaderOffset.limit in
    record {
      so_far : collected (map (file_seen g.R.Reader.seen g.R.Offset.ReaderOffset.number) l.files.items) file_of_entry
          ((times (l.count - l.counter) (entry_production layout l.format l.formats)).read
          (g.R.Reader.seen l.input).bytes)
          ≡ read_map (map file_of_entry)
          ((entries_production layout l.format l.formats).read (g.R.Reader.seen l.fn.input).bytes);
      order : (g.R.Reader.seen l.input).is_big ≡ (g.R.Reader.seen l.fn.input).is_big;
      parts : All (FileHasOrder g.R.Reader.seen (g.R.Reader.seen l.fn.input).is_big) l.files.items;
    }
