use Rattle.std.specs.Prelude.{◌≡◌}
use Rattle.gimli_line.proofs
use proofs.Common.{length, map, All, file_seen, FileHasOrder, files_production}
use proofs.Loops.{collected}
use proofs.header.tables.parse_files.Given as goal

abbrev pub invariant-loop-files : goal.invariant-loop-files
invariant-loop-files g l = record {
  so_far : collected (map (file_seen g.R.Reader.seen g.R.Offset.ReaderOffset.number) l.files.items) (λ x. x)
      (files_production.read (g.R.Reader.seen l.input).bytes)
      ≡ files_production.read (g.R.Reader.seen l.initial.input).bytes;
  order : (g.R.Reader.seen l.input).is_big ≡ (g.R.Reader.seen l.initial.input).is_big;
  parts : All (FileHasOrder g.R.Reader.seen (g.R.Reader.seen l.initial.input).is_big) l.files.items;
}

abbrev pub decreases-loop-files : goal.decreases-loop-files
decreases-loop-files g l = length (g.R.Reader.seen l.input).bytes
