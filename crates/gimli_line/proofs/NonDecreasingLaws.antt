-- Row addresses never go down between two ends.
use Rattle.std.specs.Prelude.{◌≡◌, ◌≤◌, if◌then◌else◌, ◌∷◌, ◌++◌}
use Rattle.gimli_line.proofs.Common
use Common.{ℕ, Bool, true, false, List, [], None, arith, filter, AddressOverflow, Special, AdvancePc, ConstAddPc}
use Common.{FixedAddPc, EndSequence, SetAddress, Parameters, Ins, is_end, makes_row, OperationPointer, next_pointer}
use Common.{pointer_at, overflows, Event, row, fault, row_at, is_given, events_after}
use Rattle.gimli_line.specs.run.Sequences.{NeverBelow, AreOneSequence}
use Rattle.gimli_line.proofs.RunLists.{after_here}

-- ---- a pointer that goes on isn't lower

set_rises : (parameters : Parameters) (a : ℕ) (p : OperationPointer)
    → p.address ≤ (next_pointer parameters false (SetAddress a) p).address
set_rises parameters a p = grind arith

pub rises : (parameters : Parameters) (tombstone : Bool) (i : Ins) (p : OperationPointer) → is_end i ≡ false
    → p.address ≤ (next_pointer parameters tombstone i p).address
rises parameters tombstone EndSequence p inner = absurd cc
rises parameters tombstone (SetAddress a) p inner = set_rises parameters a p
rises parameters tombstone (Special o) p inner = grind (arith)
rises parameters tombstone (AdvancePc n) p inner = grind (arith)
rises parameters tombstone ConstAddPc p inner = grind (arith)
rises parameters tombstone (FixedAddPc n) p inner = grind (arith)
rises parameters tombstone i p inner = omega arith

-- ---- rows

weaker : (low high : ℕ) → low ≤ high → (events : List Event) → NeverBelow high events → NeverBelow low events
weaker low high le [] n = tt
weaker low high le (row r ∷ events) n = grind arith
weaker low high le (fault e ∷ events) n = weaker low high le events n

module _ (parameters : Parameters) where
  -- what stands after a point that makes these events
  after_point : (past : List Ins) (i : Ins) (rest : List Event) → is_end i ≡ false
      → NeverBelow (pointer_at parameters (i ∷ past)).address rest
      → (o m : Bool) → NeverBelow (pointer_at parameters past).address
      (filter is_given
      (if o then fault AddressOverflow ∷ [] else (if m then row (row_at parameters past i) ∷ [] else [])) ++ rest)
  after_point past i rest inner n o m = at_test o m
    where
      later : NeverBelow (pointer_at parameters past).address rest
      later = grind (arith, weaker)

      given : (b : Bool)
          → NeverBelow (pointer_at parameters past).address
          ((if b then row (row_at parameters past i) ∷ [] else []) ++ rest)
      given true = grind (arith)
      given false = later

      at_test : (o m : Bool)
          → NeverBelow (pointer_at parameters past).address
          (filter is_given
          (if o then fault AddressOverflow ∷ [] else (if m then row (row_at parameters past i) ∷ [] else [])) ++ rest)
      at_test true m = later
      at_test false true = given _
      at_test false false = later

  pub non_decreasing : (past list : List Ins) → AreOneSequence list
      → NeverBelow (pointer_at parameters past).address (events_after parameters past list None)
  non_decreasing past [] one = tt
  non_decreasing past (i ∷ []) one = grind (arith)
  non_decreasing past (i ∷ j ∷ list) one = rw (after_here parameters past i (j ∷ list) None)
      (after_point past i (events_after parameters (i ∷ past) (j ∷ list) None) one.0
      (non_decreasing (i ∷ past) (j ∷ list) one.1)
      (overflows parameters past i) (makes_row i))

  pub never_down : (past list : List Ins) → AreOneSequence list → NeverBelow 0 (events_after parameters past list None)
  never_down past list one =
      weaker 0 (pointer_at parameters past).address (omega arith) (events_after parameters past list None)
      (non_decreasing _ _ one)
