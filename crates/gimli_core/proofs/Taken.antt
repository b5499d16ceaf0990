-- What is known of the bytes and of the order of a reader after something was taken from its front.
use Rattle.std.proofs.Common.{◌≡◌, ◌∙◌, List, ℕ, Bool, Result, Ok, Err, ap, refl}
use Rattle.gimli_core.specs
use specs.Layout.{Seen}
use specs.Reading.{Read, result_map}
use specs.Seen.{in_order, part_in_order, as_reader}
use specs.declared.error.Error.{Error}

module _ {A : Type 0} {result : Result A Error} {new : Seen} {read : Read A} {is_big : Bool} where
  -- what was taken of its bytes
  pub read_of : (result, new) ≡ in_order is_big read → ◌≡◌ {A = Read A} (result, new.bytes) read
  read_of e = ap (λ (t : Result A Error × Seen). (t.0, t.1.bytes)) e

  -- the order stays
  pub order_of : (result, new) ≡ in_order is_big read → new.is_big ≡ is_big
  order_of e = ap (λ (t : Result A Error × Seen). t.1.is_big) e

  -- both together
  pub taken_of : ◌≡◌ {A = Read A} (result, new.bytes) read → new.is_big ≡ is_big → (result, new) ≡ in_order is_big read
  taken_of e order = rw (← e, ← order) refl

-- the same where a reader of its own was taken
of_parts : (is_big : Bool) (read : Read (List ℕ))
    → (result_map (λ (s : Seen). s.bytes) (result_map (as_reader is_big) read.0), read.1) ≡ read
of_parts is_big (Ok x, rest) = refl
of_parts is_big (Err e, rest) = refl

module _ {result : Result Seen Error} {new : Seen} {read : Read (List ℕ)} {is_big : Bool} where
  pub part_read_of : (result, new) ≡ part_in_order is_big read
      → ◌≡◌ {A = Read (List ℕ)} (result_map (λ (s : Seen). s.bytes) result, new.bytes) read
  part_read_of e =
      ap (λ (t : Result Seen Error × Seen). (result_map (λ (s : Seen). s.bytes) t.0, t.1.bytes)) e
      ∙ of_parts is_big read

pub part_order_of : {result part : Result Seen Error} {new : Seen} {left : List ℕ} {is_big : Bool}
    → ◌≡◌ {A = Result Seen Error × Seen} (result, new) (part, as_reader is_big left) → new.is_big ≡ is_big
part_order_of e = ap (λ (t : Result Seen Error × Seen). t.1.is_big) e
