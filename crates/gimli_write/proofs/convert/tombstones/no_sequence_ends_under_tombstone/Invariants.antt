use Rattle.std.specs.Prelude.{◌≡◌}
use Rattle.gimli_write.proofs.Common.{length}
use Rattle.gimli_write.specs.inside.convert.Tombstones.{none_left_hides, watched}
use Rattle.gimli_write.proofs.convert.tombstones.no_sequence_ends_under_tombstone.Given as goal

abbrev pub invariant-points : goal.invariant-points
invariant-points g l =
    none_left_hides l.header.meaning (watched l.initial.watch) ≡ none_left_hides l.header.meaning (watched l.watch)

abbrev pub decreases-points : goal.decreases-points
decreases-points g l = length l.watch.instructions.bytes
