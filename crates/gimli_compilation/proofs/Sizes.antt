-- An address size that is read is one of the four.
use Rattle.std.proofs.Common.{◌≡◌, ℕ, Bool, true, false, List, [], ◌∷◌, Ok, Err, refl, ap, ◌∙◌, IsTrue, if◌then◌else◌}
use Rattle.gimli_core.specs.Numbers.{is_address_size}
use Rattle.gimli_core.specs.Reading.{Read, ◌>>=◌}
use Rattle.gimli_core.specs.Production.{address_size}
use Rattle.gimli_core.specs.declared.error.Error.TheVariants.{UnsupportedAddressSize}

pub known_size : (bytes : List ℕ) (n : ℕ) (rest : List ℕ) → (Ok n, rest) ≡ address_size.read bytes
    → IsTrue (is_address_size n)
unfolding address_size
known_size [] n rest e = let p = ap (λ (r : Read ℕ). r.0) e in absurd cc
known_size (b ∷ bytes) n rest e = at_test (is_address_size b) refl (ap (λ (r : Read ℕ). r.0) e)
  where
    at_test : (test : Bool) → is_address_size b ≡ test
        → Ok n ≡ ((let r : Read (Unit {0}) = (if test then Ok tt else Err (UnsupportedAddressSize b), bytes) in r)
        >>= λ fits left. (let s : Read ℕ = (Ok b, left) in s)).0
        → IsTrue (is_address_size n)
    at_test true is p = let same : n ≡ b = cc in ap is_address_size same ∙ is
    at_test false is p = absurd cc
