use Rattle.std.specs.Prelude.{◌≡◌, ◌-◌}
use Rattle.gimli_line.proofs
use proofs.Common.{times, format_production}
use proofs.Loops.{collected}
use proofs.header.tables.parse_all_formats.Given as goal

abbrev pub invariant-loop : goal.invariant-loop
invariant-loop g l = record {
  so_far : collected l.formats.items (λ x. x)
      ((times (l.count - l.counter) format_production).read (g.R.Reader.seen l.input).bytes)
      ≡ (times l.count format_production).read (g.R.Reader.seen l.initial.input).bytes;
  order : (g.R.Reader.seen l.input).is_big ≡ (g.R.Reader.seen l.initial.input).is_big;
}
