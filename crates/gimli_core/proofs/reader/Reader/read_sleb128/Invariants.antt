use Rattle.std.proofs.Common.{◌≡◌, ◌*◌, ◌^◌, ◌<◌, ◌-◌}
use Rattle.gimli_core.specs.Reading.{sleb_at, signed_at}
use Rattle.gimli_core.proofs.SignedLeb.{grown_z}
use Rattle.gimli_core.proofs.reader.Reader.read_sleb128.Given as goal

abbrev pub invariant-loop-group : goal.invariant-loop-group
invariant-loop-group g l = record {
  so_far : grown_z (2 ^ (7 * l.group)) l.value (sleb_at (9 - l.group) (g.Self.Reader.seen l.self).bytes)
      ≡ signed_at (g.Self.Reader.seen l.initial.self).bytes;
  order : (g.Self.Reader.seen l.self).is_big ≡ (g.Self.Reader.seen l.initial.self).is_big;
  low : l.value < 2 ^ (7 * l.group);
}
