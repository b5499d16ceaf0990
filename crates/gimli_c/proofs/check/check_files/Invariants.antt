use Rattle.std.proofs.Common.{◌≤◌, ◌+◌, ℕ}
use Rattle.gimli_c.specs.Causes.{HasFileFault, HoldsAt, first_index}
use Rattle.gimli_c.proofs.check.check_files.Given as goal

-- a file that has a fault is still to come
abbrev pub invariant-loop-index : goal.invariant-loop-index
invariant-loop-index l =
    (i s : ℕ) → HoldsAt (λ f. HasFileFault l.version l.texts (first_index l.version + l.count) f s) l.files i
    → l.index ≤ i
