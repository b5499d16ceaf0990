use Rattle.std.proofs.Common.{length}
use Rattle.gimli_lookup.proofs.SectionSearches.{AreSearched}
use Rattle.gimli_lookup.proofs.section_search.find_in_section.Given as goal

abbrev pub invariant-units : goal.invariant-units
invariant-units g l =
    AreSearched l.initial.walk.section l.initial.walk.entry l.lowest l.addresses l.initial.walk.offsets l.units.items
    l.pairs.items l.walk

abbrev pub decreases-units : goal.decreases-units
decreases-units g l = length l.walk.offsets
