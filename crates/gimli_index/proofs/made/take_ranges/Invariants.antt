use Rattle.std.proofs.Common.{◌≡◌, ◌-◌, ◌^◌}
use Rattle.std.specs.Option.{option_map_or}
use Rattle.gimli_lookup.specs.ProgramPaths.{texts_seen}
use Rattle.gimli_index.specs.inside.Table.{Entered}
use Rattle.gimli_index.proofs.made.take_ranges.Given as goal

abbrev pub invariant-ranges-2 : goal.invariant-ranges-2
invariant-ranges-2 g l = record {
  units : l.ranges.units ≡ l.origin.lookup.now;
  entered : Entered (texts_seen g.R.Reader.seen l.origin.paths.now) l.origin.lookup.now
      l.origin.limit l.table l.entries.items
      l.ranges.from;
}

abbrev pub decreases-ranges-2 : goal.decreases-ranges-2
decreases-ranges-2 g l = option_map_or (λ a. 2 ^ 64 - a) l.ranges.from 0
