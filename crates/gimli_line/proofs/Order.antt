-- The order of bytes of readers that are handed on, through loops and from one part of a table to the next.
use Rattle.std.specs.Prelude.{◌≡◌, ◌∷◌, ◌++◌}
use Rattle.gimli_line.proofs.Common
use Common.{Bool, List, [], map, sym, subst, Result, Ok, Err, OnOk, OnErr, All, map-append, ValueHasOrder, IsOrder}
use Common.{Seen, Read, Error, ℕ, ap, arith, value_order, AttributeValue, FileHasOrder, AreFileOrders, file_orders}
use Common.{FileEntry}
use Rattle.std.proofs.lemmas.List.Elements.{All-push, All-map}
use Rattle.gimli_core.specs.Reading.{result_map}
use Rattle.gimli_core.specs.Seen.{as_reader, part_in_order}

-- a reader of its own has the order of the one that it was taken from
of_result : (part : Seen) (is_big : Bool) (r : Result (List ℕ) Error) → Ok part ≡ result_map (as_reader is_big) r
    → part.is_big ≡ is_big
of_result part is_big (Ok x) e = grind arith
of_result part is_big (Err x) e = absurd cc

pub taken_part : {part new : Seen} (read : Read (List ℕ)) (is_big : Bool)
    → ◌≡◌ {A = Result Seen Error × Seen} (Ok part, new) (part_in_order is_big read) → part.is_big ≡ is_big
taken_part read is_big e = of_result _ is_big read.0 (ap (λ t. t.0) e)

-- a list that was made longer, all of whose items have the order that the new one has
pushed : {X : Type 0} (Has : Bool → X → Type 0) (first now : Bool) (xs longer : List X) (x : X) → longer ≡ xs ++ x ∷ []
    → now ≡ first → All (Has first) xs
    → Has now x → All (Has first) longer
pushed Has first now xs longer x is same all one =
    subst (All (Has first)) (sym is) (All-push (Has first) xs x all (subst (λ order. Has order x) same one))

module _ {R Offset Endian : Type 0} (seen : R → Seen) where
  pub values_pushed : (first now : Bool) (xs longer : List (AttributeValue R Offset Endian))
      (x : AttributeValue R Offset Endian)
      → longer ≡ xs ++ x ∷ []
      → now ≡ first
      → All (ValueHasOrder seen first) xs → ValueHasOrder seen now x → All (ValueHasOrder seen first) longer
  values_pushed = pushed (ValueHasOrder seen)

  pub files_pushed : (first now : Bool) (xs longer : List (FileEntry R Offset Endian)) (x : FileEntry R Offset Endian)
      → longer ≡ xs ++ x ∷ [] → now ≡ first
      → All (FileHasOrder seen first) xs → FileHasOrder seen now x → All (FileHasOrder seen first) longer
  files_pushed = pushed _

  pub file_kept : (first now : Bool) (x : FileEntry R Offset Endian) → now ≡ first → FileHasOrder seen now x
      → FileHasOrder seen first x
  file_kept first now x same = subst (λ order. FileHasOrder seen order x) same

  pub values_kept : (first now : Bool) (xs : List (AttributeValue R Offset Endian)) → now ≡ first
      → All (ValueHasOrder seen now) xs
      → All (ValueHasOrder seen first) xs
  values_kept first now xs same = subst (λ order. All (ValueHasOrder seen order) xs) same

  pub files_kept : (first now : Bool) (xs : List (FileEntry R Offset Endian)) → now ≡ first
      → All (FileHasOrder seen now) xs → All (FileHasOrder seen first) xs
  files_kept first now xs same = subst (λ order. All (FileHasOrder seen order) xs) same

-- ---- the orders of a header's readers

module _ {R Offset Endian : Type 0} (seen : R → Seen) (order : Bool) where
  pub values_mapped : (xs : List (AttributeValue R Offset Endian)) → All (ValueHasOrder seen order) xs
      → All (IsOrder order) (map (value_order seen) xs)
  values_mapped = All-map (IsOrder order) (value_order seen)

  pub files_mapped : (xs : List (FileEntry R Offset Endian)) → All (FileHasOrder seen order) xs
      → All (AreFileOrders order) (map (file_orders seen) xs)
  files_mapped = All-map (AreFileOrders order) (file_orders seen)

  -- after a file is added, or memory is missing for it
  pub files_after : {A E : Type 0} (result : Result A E) (xs longer : List (FileEntry R Offset Endian))
      (f : FileEntry R Offset Endian)
      → OnOk result (longer ≡ xs ++ f ∷ []) → OnErr result (longer ≡ xs)
      → FileHasOrder seen order f → All (AreFileOrders order) (map (file_orders seen) xs)
      → All (AreFileOrders order) (map (file_orders seen) longer)
  files_after (Ok _) xs longer f is kept one all =
      subst (λ ys. All (AreFileOrders order) (map (file_orders seen) ys)) (sym is)
      (subst (All (AreFileOrders order)) (sym (map-append (file_orders seen) xs (f ∷ [])))
      (All-push (AreFileOrders order) (map (file_orders seen) xs) (file_orders seen f) all one))
  files_after (Err _) xs longer f is kept one all =
      subst (λ ys. All (AreFileOrders order) (map (file_orders seen) ys)) (sym kept) all
