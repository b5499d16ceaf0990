use Rattle.std.proofs.Common.{◌<◌, ℕ, get_or}
use Rattle.gimli_index.specs.Contents.{HasColumn}
use Rattle.gimli_index.specs.declared.contents.Entry.{Entry}
use Rattle.gimli_index.proofs.contents.have_columns.Given as goal

abbrev pub invariant-loop-entry : goal.invariant-loop-entry
invariant-loop-entry l = (k : ℕ) (d : Entry) → k < l.entry-index → HasColumn (get_or l.entries k d).place
