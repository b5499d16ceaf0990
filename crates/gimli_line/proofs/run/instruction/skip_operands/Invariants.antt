use Rattle.std.specs.Prelude.{◌≡◌, ◌-◌}
use Rattle.gimli_line.proofs.Common.{times, unsigned, without_value}
use Rattle.gimli_line.proofs.run.instruction.skip_operands.Given as goal

abbrev pub invariant-loop : goal.invariant-loop
invariant-loop g l = record {
  so_far : without_value ((times (l.count - l.counter) unsigned).read (g.R.Reader.seen l.input).bytes)
      ≡ without_value ((times l.count unsigned).read (g.R.Reader.seen l.initial.input).bytes);
  order : (g.R.Reader.seen l.input).is_big ≡ (g.R.Reader.seen l.initial.input).is_big;
}
