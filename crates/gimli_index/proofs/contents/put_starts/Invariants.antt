use Rattle.std.proofs.Common.{◌≡◌, ◌<◌, ◌++◌, ℕ, take, get_or}
use Rattle.std.specs.Prelude.{flat_map}
use Rattle.gimli_index.specs.Contents.{start_bytes, IsNear}
use Rattle.gimli_index.specs.declared.contents.Entry.{Entry}
use Rattle.gimli_index.proofs.contents.put_starts.Given as goal

abbrev pub invariant-loop-entry : goal.invariant-loop-entry
invariant-loop-entry l = record {
  bytes : l.out.items ≡ l.initial.out.items ++ flat_map (start_bytes l.size l.base) (take l.entry-index l.entries);
  near : (k : ℕ) (d : Entry) → k < l.entry-index → IsNear l.size l.base (get_or l.entries k d).address;
}
