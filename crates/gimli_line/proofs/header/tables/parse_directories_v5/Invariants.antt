use Rattle.std.specs.Prelude.{◌≡◌, ◌-◌}
use Rattle.gimli_line.proofs
use proofs.Common
use Common.{All, times, map, layout_of, value_seen, ValueHasOrder, read_map, path_of, entry_production}
use Common.{entries_production}
use proofs.Loops.{collected}
use proofs.header.tables.parse_directories_v5.Given as goal

abbrev pub invariant-loop : goal.invariant-loop
invariant-loop g l =
    let layout = layout_of (g.R.Reader.seen l.fn.input).is_big g.R.Offset.ReaderOffset.limit in
    record {
      so_far : collected (map (value_seen g.R.Reader.seen g.R.Offset.ReaderOffset.number) l.directories.items) path_of
          ((times (l.count - l.counter) (entry_production layout l.format l.formats)).read
          (g.R.Reader.seen l.input).bytes)
          ≡ read_map (map path_of)
          ((entries_production layout l.format l.formats).read (g.R.Reader.seen l.fn.input).bytes);
      order : (g.R.Reader.seen l.input).is_big ≡ (g.R.Reader.seen l.fn.input).is_big;
      parts : All (ValueHasOrder g.R.Reader.seen (g.R.Reader.seen l.fn.input).is_big) l.directories.items;
    }
