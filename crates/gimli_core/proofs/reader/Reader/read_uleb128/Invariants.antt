use Rattle.std.proofs.Common.{◌≡◌, ◌*◌, ◌^◌, ◌<◌, ◌-◌}
use Rattle.gimli_core.specs.Reading.{uleb_at}
use Rattle.gimli_core.proofs.Leb.{grown}
use Rattle.gimli_core.proofs.reader.Reader.read_uleb128.Given as goal

abbrev pub invariant-loop-group : goal.invariant-loop-group
invariant-loop-group g l = record {
  so_far : grown (2 ^ (7 * l.group)) l.value (uleb_at (9 - l.group) 1 (g.Self.Reader.seen l.self).bytes)
      ≡ uleb_at 9 1 (g.Self.Reader.seen l.initial.self).bytes;
  order : (g.Self.Reader.seen l.self).is_big ≡ (g.Self.Reader.seen l.initial.self).is_big;
  low : l.value < 2 ^ (7 * l.group);
}
