use Rattle.std.proofs.Common.{rules}
use Rattle.std.specs.Prelude.{◌≡◌, ◌&&◌, Decides}
use Rattle.std.specs.Cmp.{unsigned_Decides, signed_Decides}
use Rattle.gimli_core.proofs.Variants.{or, end, none, one}
use denote.Enum.Declared.{values_one}
use Rattle.gimli_line.specs.contracts.run.instruction.LineInstruction.{as_values, enum}
use Rattle.gimli_line.proofs
use proofs.Common.{Bool, true, false, refl, ap}
use proofs.laws.equal_instructions_are_same.Goals as goal

-- a variant with two parts
two : {A B : Type 0} {p : A → A → Bool} {q : B → B → Bool} → ((a b : A) → Decides (p a b) (a ≡ b))
    → ((a b : B) → Decides (q a b) (a ≡ b)) → (x y : A × (B × Unit {0}))
    → Decides (p x.0 y.0 && q x.1.0 y.1.0) (x ≡ y)
two {p} {q} d k x y = at _ _ (d x.0 y.0) (k x.1.0 y.1.0)
  where
    at : (s t : Bool) → Decides s (x.0 ≡ y.0) → Decides t (x.1.0 ≡ y.1.0) → Decides (s && t) (x ≡ y)
    at true t h j = (λ e. rw (h.0 refl, j.0 e) refl, λ e. j.1 (ap (λ z. z.1.0) e))
    at false t h j = (λ e. absurd cc, λ e. h.1 (ap (λ z. z.0) e))

pub returns : goal.returns
returns g c readers offsets x y =
    let files = c.equal_files_are_same.ensures readers offsets in
    let same =
    or (one unsigned_Decides) (or none (or (one unsigned_Decides)
    (or (one signed_Decides) (or (one unsigned_Decides)
    (or (one unsigned_Decides) (or none (or none (or none (or (one unsigned_Decides) (or none (or none
    (or (one unsigned_Decides) (or (one (λ a b. search rules))
    (or (two (λ a b. search rules) unsigned_Decides) (or (two (λ a b. search rules) readers)
    (or none (or (one unsigned_Decides) (or (one files)
    (or (one unsigned_Decides) (or (two (λ a b. search rules) readers) (end _))))))))))))))))))))) in
    let apart =
    same (as_values g.row.R g.row.R-Offset g.row.R-Endian x) (as_values g.row.R g.row.R-Offset g.row.R-Endian y) in (
      λ e. values_one (enum g.row.R g.row.R-Offset g.row.R-Endian) x y (apart.0 e),
      λ e. apart.1 (ap (as_values g.row.R g.row.R-Offset g.row.R-Endian) e),
    )
