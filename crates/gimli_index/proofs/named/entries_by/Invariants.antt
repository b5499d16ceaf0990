use Rattle.std.proofs.Common.{◌≡◌, map, take}
use Rattle.gimli_index.specs.inside.Kept.{entry_by}
use Rattle.gimli_index.proofs.named.entries_by.Given as goal

abbrev pub invariant-loop-entry : goal.invariant-loop-entry
invariant-loop-entry l = l.made.items ≡ map (entry_by l.numbers) (take l.entry-index l.entries)
