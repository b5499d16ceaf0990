use Rattle.std.specs.Prelude.{◌≡◌}
use Rattle.gimli_write.proofs.Common
use Common.{ℕ, refl, ap, Option, Some, None, nat_eq, option_eq, slice_eq-Decides, or, end, one, sequence_with}
use Rattle.std.specs.Bool.{Decides}
use Rattle.std.specs.Cmp.{unsigned_Decides}
use Rattle.gimli_line.proofs.Equality.{both, whole}
use Rattle.gimli_build.proofs.building.Equality.{row-Decides}
use Rattle.gimli_write.specs
use specs.contracts.convert.rows.ConvertLineSequenceEnd.{as_values, enum}
use specs.contracts.convert.rows.ConvertLineSequenceEndPartialEq.TheImpl.{ghosts as the_ends}
use specs.declared.convert.rows.ConvertLineSequenceEnd.{ConvertLineSequenceEnd}
use Rattle.gimli_write.proofs.conversion_laws.equal_rows_and_sequences.Goals as goal
use denote.Enum.Declared.{values_one}

starts : (x y : Option ℕ) → Decides (option_eq nat_eq x y) (x ≡ y)
starts (Some a) (Some b) = (λ e. ap Some ((unsigned_Decides a b).0 e), λ e. (unsigned_Decides a b).1 cc)
starts (Some a) None = (λ e. absurd cc, λ e. absurd cc)
starts None (Some b) = (λ e. absurd cc, λ e. absurd cc)
starts None None = (λ _. refl, λ _. refl)

the_end : (x y : ConvertLineSequenceEnd) → Decides (the_ends.eq x y) (x ≡ y)
the_end x y =
    let parts = or (one unsigned_Decides) (or (one unsigned_Decides) (end _)) _ _ in
    (λ e. values_one enum x y (parts.0 e), λ e. parts.1 (ap as_values e))

pub returns-clause-sequence : goal.returns-clause-sequence
returns-clause-sequence c a b =
    whole (both (starts _ _) (both (the_end _ _) (slice_eq-Decides row-Decides _ _ _ refl)))
    (λ p. let same : sequence_with a.start a.rows.items a.end
    ≡ sequence_with b.start b.rows.items b.end = rw (p.0, p.1.0, p.1.1) refl in same)
    (λ e. (ap (λ s. s.start) e, (ap (λ s. s.end) e, ap (λ s. s.rows) e)))
