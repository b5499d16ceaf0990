use Rattle.std.proofs.Common.{◌≡◌, map, take}
use Rattle.gimli_index.specs.Made.{greatest}
use Rattle.gimli_index.proofs.contents.greatest_of_entries.Given as goal

abbrev pub invariant-loop-entry : goal.invariant-loop-entry
invariant-loop-entry l = l.found ≡ greatest (map (λ e. e.address) (take l.entry-index l.entries))
