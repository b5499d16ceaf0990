use Rattle.std.proofs.Common.{◌≡◌, ◌<◌, ◌++◌, ℕ, take, get_or}
use Rattle.std.specs.Prelude.{flat_map}
use Rattle.gimli_index.specs.Contents.{entry_bytes, FitsPlace}
use Rattle.gimli_index.specs.declared.contents.Entry.{Entry}
use Rattle.gimli_index.proofs.contents.put_entries.Given as goal

abbrev pub invariant-loop-entry : goal.invariant-loop-entry
invariant-loop-entry l = record {
  bytes : l.out.items ≡ l.initial.out.items ++ flat_map entry_bytes (take l.entry-index l.entries);
  fits : (k : ℕ) (d : Entry) → k < l.entry-index → FitsPlace (get_or l.entries k d).place;
}
