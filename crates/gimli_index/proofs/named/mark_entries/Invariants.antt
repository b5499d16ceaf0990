use Rattle.std.proofs.Common.{take}
use Rattle.gimli_lookup.specs.RowFiles.{AreMarked}
use Rattle.gimli_index.specs.inside.Kept.{entries_name}
use Rattle.gimli_index.proofs.named.mark_entries.Given as goal

abbrev pub invariant-loop-entry : goal.invariant-loop-entry
invariant-loop-entry l = AreMarked (entries_name (take l.entry-index l.entries)) l.initial.named l.named
