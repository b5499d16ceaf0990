use Rattle.std.proofs.Common.{◌≡◌, ◌-◌}
use Rattle.gimli_core.specs.Production.{byte, times}
use Rattle.lines_reports.specs.inside.Sizes.{passed}
use Rattle.lines_reports.proofs.sizes.skip_bytes.Given as goal

abbrev pub invariant-loop : goal.invariant-loop
invariant-loop g l = record {
  so_far : passed ((times (l.count - l.counter) byte).read (g.R.Reader.seen l.rest).bytes)
      ≡ passed ((times l.count byte).read (g.R.Reader.seen l.initial.rest).bytes);
  order : (g.R.Reader.seen l.rest).is_big ≡ (g.R.Reader.seen l.initial.rest).is_big;
}
