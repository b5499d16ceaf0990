use Rattle.std.specs.Prelude.{◌≡◌}
use Rattle.gimli_build.proofs
use proofs.Common.{take, reverse, base_of}
use Rattle.gimli_build.specs.Traps.{begins_unset, traps_from}
use proofs.built.trap.first_trap.Given as goal

abbrev pub invariant-loop-index : goal.invariant-loop-index
invariant-loop-index l = record {
  base : l.base ≡ base_of (reverse (take l.index l.items));
  begins : l.begins ≡ begins_unset (reverse (take l.index l.items));
  left : traps_from l.program l.index ≡ traps_from l.program l.fn.place.next;
}
