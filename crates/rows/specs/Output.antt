-- When the output of a command is the expected one.
use Rattle.std.specs.Prelude.{◌≡◌, ◌⊎◌, ◌||◌, ℕ, Bool, true, List, [], ◌∷◌, ◌++◌, nat_eq}
use Rattle.std.specs.List.{list_all}

-- a blank, or the end of a line
abbrev pub is_blank : ℕ → Bool
is_blank byte = nat_eq byte 0x20 || nat_eq byte 0x0a

-- no bytes, or bytes whose last one ends a line
abbrev pub EndsLine : List ℕ → Type 0
EndsLine bytes = (bytes ≡ []) ⊎ ((front : List ℕ) × (bytes ≡ front ++ 0x0a ∷ []))

-- the expected bytes are those of the output, and after its last line only blank lines
pub record IsExpected (expected got : List ℕ) : Type 0 where
  pub gap : List ℕ
  pub parts : expected ≡ got ++ gap
  pub blank : list_all is_blank gap ≡ true
  pub ended : EndsLine got
