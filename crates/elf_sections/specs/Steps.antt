-- One call after another.
use Rattle.std.specs.Prelude.{List, [], ◌∷◌, Result, Ok}
pub use Rattle.gimli_core.specs.Results.{◌>>=◌}

-- a step for each of these, up to the first refusal
abbrev pub steps : {S X E : Type 0} → (S → X → Result S E) → S → List X → Result S E
steps f s [] = Ok s
steps f s (x ∷ xs) = f s x >>= λ s. steps f s xs
