use Rattle.std.proofs.Common.{◌≡◌, map, take}
use Rattle.gimli_index.specs.inside.Ranks.{least_of}
use Rattle.gimli_index.proofs.contents.least_of_entries.Given as goal

abbrev pub invariant-loop-entry : goal.invariant-loop-entry
invariant-loop-entry l = l.found ≡ least_of (map (λ e. e.address) (take l.entry-index l.entries))
