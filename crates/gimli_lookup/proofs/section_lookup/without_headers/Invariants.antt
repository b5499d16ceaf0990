use Rattle.std.proofs.Common.{◌≡◌, map, take}
use Rattle.gimli_lookup.specs.Section.{without_header}
use Rattle.gimli_lookup.proofs.section_lookup.without_headers.Given as goal

abbrev pub invariant-loop-unit : goal.invariant-loop-unit
invariant-loop-unit g l = l.bare.items ≡ map without_header (take l.unit-index l.units)
