use Rattle.std.proofs.Common.{◌≡◌, ◌<◌, ℕ, Bool, true, get_or}
use Rattle.gimli_index.proofs.named.are_all.Given as goal

abbrev pub invariant-loop-mark : goal.invariant-loop-mark
invariant-loop-mark l = (k : ℕ) (d : Bool) → k < l.mark-index → get_or l.named k d ≡ true
