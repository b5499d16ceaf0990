use Rattle.gimli_line.proofs
use proofs.Common.{Option, Some, None, refl, ap}
use proofs.laws.equal_sources_are_same.Goals as goal

abbrev some_or : {A : Type 0} → A → Option A → A
some_or a (Some b) = b
some_or a None = a

pub returns : goal.returns
returns g c readers offsets (Some a) (Some b) =
    let values = c.equal_values_are_same.ensures readers offsets a b in
    (λ e. ap Some (values.0 e), λ e. values.1 (ap (some_or a) e))
returns g c readers offsets (Some a) None = (λ e. absurd cc, λ e. absurd cc)
returns g c readers offsets None (Some b) = (λ e. absurd cc, λ e. absurd cc)
returns g c readers offsets None None = (λ _. refl, λ _. refl)
