use Rattle.std.proofs.Common.{length}
use Rattle.gimli_lookup.proofs.SectionUnits.{AreKept}
use Rattle.gimli_lookup.proofs.section_lookup.SectionLookup.new.Given as goal

abbrev pub invariant-units : goal.invariant-units
invariant-units g l =
    AreKept l.initial.walk.section l.initial.walk.entry l.lowest l.initial.walk.offsets l.units.items l.sequences.items
    l.walk

abbrev pub decreases-units : goal.decreases-units
decreases-units g l = length l.walk.offsets
