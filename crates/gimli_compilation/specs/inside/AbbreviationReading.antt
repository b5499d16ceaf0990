-- What is taken of a table of declarations, and what is left.
use Rattle.std.specs.Prelude.{◌≡◌, ℕ, List, [], Ok, Err}
use Rattle.gimli_core.specs.Reading.{Read, ◌>>=◌}
use Rattle.gimli_compilation.specs.declared.abbreviation.Specification.{Specification}
use Rattle.gimli_compilation.specs.Abbreviation.{specifications_production}

-- a value of which nothing is kept
abbrev pub passed_of : {A : Type 0} → Read A → Read (Unit {0})
passed_of r = r >>= λ x rest. (Ok tt, rest)

-- specifications of which nothing is kept
abbrev pub specifications_passed : List ℕ → Read (Unit {0})
specifications_passed bytes = passed_of (specifications_production.read bytes)

-- the values that were read; none where they are refused
abbrev pub list_of : {A : Type 0} → Read (List A) → List A
list_of (Ok xs, rest) = xs
list_of (Err e, rest) = []

-- the specifications that bytes begin with; none where they are refused
abbrev pub listed : List ℕ → List Specification
listed bytes = list_of (specifications_production.read bytes)

-- the bytes begin with specifications that are ended
pub record IsListed (bytes : List ℕ) : Type 0 where
  pub specifications : List Specification
  pub rest : List ℕ
  pub parts : specifications_production.read bytes ≡ (Ok specifications, rest)
