-- The rows of a sequence without its end row.
use Rattle.std.proofs.Common.{◌≡◌, ◌∙◌, ℕ, zero, suc, ◌+◌, ◌<◌, Bool, false, List, [], ◌∷◌, Some, take}
use Rattle.std.proofs.Common.{ap, arith, if◌then◌else◌, subst}
use Rattle.std.specs.Prelude.{slice_get}
use Rattle.std.proofs.lemmas.Option.{same_Some}
use Rattle.gimli_line.specs.declared.run.row.LineRow.{LineRow}
use Rattle.gimli_index.specs.Found.{code_of}

-- a row that is no end row is one of them
pub code_at : (rows : List LineRow) (k : ℕ) (r : LineRow) → slice_get rows k ≡ Some r → r.end_sequence ≡ false
    → slice_get (code_of rows) k ≡ Some r
code_at [] k r there open_end = absurd cc
code_at (x ∷ []) zero r there open_end =
    let row_is : x ≡ r = same_Some x r there in
    ap (λ (b : Bool). slice_get (if b then [] else x ∷ []) 0)
    (ap (λ (y : LineRow). y.end_sequence) row_is ∙ open_end)
    ∙ there
code_at (x ∷ []) (suc k) r there open_end = absurd cc
code_at (x ∷ next ∷ rows) zero r there open_end = there
code_at (x ∷ next ∷ rows) (suc k) r there open_end = code_at (next ∷ rows) k r there open_end

-- and so is a row that has one after it
before : (rows : List LineRow) (k : ℕ) (r after : LineRow) → slice_get rows k ≡ Some r
    → slice_get rows (suc k) ≡ Some after
    → slice_get (code_of rows) k ≡ Some r
before [] k r after there next_is = absurd cc
before (x ∷ []) k r after there next_is = absurd cc
before (x ∷ next ∷ rows) zero r after there next_is = there
before (x ∷ next ∷ rows) (suc k) r after there next_is = before (next ∷ rows) k r after there next_is

pub code_before : (rows : List LineRow) (k : ℕ) (r after : LineRow) → slice_get rows k ≡ Some r
    → slice_get rows (k + 1) ≡ Some after
    → slice_get (code_of rows) k ≡ Some r
code_before rows k r after there next_is =
    let one : k + 1 ≡ suc k = omega arith in
    before rows k r after there (subst (λ (n : ℕ). slice_get rows n ≡ Some after) one next_is)

-- a row that is taken
pub taken_at : {X : Type 0} (xs : List X) (n k : ℕ) (x : X) → k < n → slice_get xs k ≡ Some x
    → slice_get (take n xs) k ≡ Some x
taken_at [] n k x lt there = absurd cc
taken_at (y ∷ xs) zero k x lt there = absurd (omega (arith, lt))
taken_at (y ∷ xs) (suc n) zero x lt there = there
taken_at (y ∷ xs) (suc n) (suc k) x lt there = taken_at xs n k x (omega (arith, lt)) there
