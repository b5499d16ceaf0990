-- A unit by other names of its section and its order.
use Rattle.std.proofs.Common.{◌≡◌, ℕ, Bool, List, subst}
use Rattle.gimli_core.specs.declared.error.Error.{Error}
use Rattle.gimli_line.specs.header.Header.{Header}
use Rattle.gimli_line.specs.header.HeaderGrammar.{HasUnitFault}
use Rattle.std.specs.Prelude.{drop}
use Rattle.gimli_c.specs.Location.{Location, location, layout_at, unit_entry_at, HasUnit}

-- a unit and a refusal, each as a fact of its own
pub record Unit_at (p : Location) (h : Header) : Type 0 where
  pub is : HasUnit p h

pub record Fault_at (p : Location) (e : Error) : Type 0 where
  pub is : HasUnitFault (layout_at p) (unit_entry_at p) (drop p.offset p.section) e

pub same_unit : (section other : List ℕ) (is_big other_big : Bool) (size offset : ℕ) (h : Header) → other ≡ section
    → other_big ≡ is_big
    → HasUnit (location other other_big size offset) h → Unit_at (location section is_big size offset) h
same_unit section other is_big other_big size offset h s b unit =
    subst (λ (x : List ℕ). Unit_at (location x is_big size offset) h) s
    (subst (λ (x : Bool). Unit_at (location other x size offset) h) b (record { is = unit }))

pub same_fault : (section other : List ℕ) (is_big other_big : Bool) (size offset : ℕ) (e : Error) → other ≡ section
    → other_big ≡ is_big
    → HasUnitFault (layout_at (location other other_big size offset))
    (unit_entry_at (location other other_big size offset)) (drop offset other) e
    → Fault_at (location section is_big size offset) e
same_fault section other is_big other_big size offset e s b fault =
    subst (λ (x : List ℕ). Fault_at (location x is_big size offset) e) s
    (subst (λ (x : Bool). Fault_at (location other x size offset) e) b (record { is = fault }))
