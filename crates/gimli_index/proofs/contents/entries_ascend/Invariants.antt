use Rattle.std.proofs.Common.{◌<◌, ◌≤◌, ℕ, get_or, None}
use Rattle.gimli_index.proofs.contents.entries_ascend.Given as goal

abbrev pub invariant-loop-index : goal.invariant-loop-index
invariant-loop-index l = (i j : ℕ) → i < j → j < l.index
    → (get_or l.entries i (record { address = 0; place = None })).address
    ≤ (get_or l.entries j (record { address = 0; place = None })).address
