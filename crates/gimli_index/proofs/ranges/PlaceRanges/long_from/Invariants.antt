use Rattle.std.proofs.Common.{◌≡◌, drop}
use Rattle.gimli_index.specs.Meaning.{starts_of}
use Rattle.gimli_index.specs.Ranges.{ranges_of}
use Rattle.gimli_index.specs.Views.{index_of}
use Rattle.gimli_index.proofs.ranges.PlaceRanges.long_from.Given as goal

abbrev pub invariant-loop-index : goal.invariant-loop-index
invariant-loop-index l =
    ranges_of (drop l.index (starts_of (index_of l.self.index)))
    ≡ ranges_of (drop l.from (starts_of (index_of l.self.index)))
