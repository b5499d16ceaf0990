use Rattle.std.specs.Prelude.{◌≡◌}
use Rattle.gimli_line.proofs
use proofs.Common.{length, map, All, value_seen, ValueHasOrder, String, read_map, paths_production}
use proofs.Loops.{collected}
use proofs.header.tables.parse_directories.Given as goal

abbrev pub invariant-loop-directories : goal.invariant-loop-directories
invariant-loop-directories g l = record {
  so_far : collected (map (value_seen g.R.Reader.seen g.R.Offset.ReaderOffset.number) l.directories.items) String
      (paths_production.read (g.R.Reader.seen l.input).bytes)
      ≡ read_map (map String) (paths_production.read (g.R.Reader.seen l.initial.input).bytes);
  order : (g.R.Reader.seen l.input).is_big ≡ (g.R.Reader.seen l.initial.input).is_big;
  parts : All (ValueHasOrder g.R.Reader.seen (g.R.Reader.seen l.initial.input).is_big) l.directories.items;
}

abbrev pub decreases-loop-directories : goal.decreases-loop-directories
decreases-loop-directories g l = length (g.R.Reader.seen l.input).bytes
