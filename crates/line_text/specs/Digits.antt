-- What digits say.
use Rattle.std.specs.Prelude.{◌≡◌, ◌<◌, ◌^◌, ℕ, List}
use Rattle.std.specs.Str.Parse.{IsNumeral, digits_value}

-- the digits are a number below 2^64 in this radix
pub record NamesNumber (radix : ℕ) (digits : List ℕ) (number : ℕ) : Type 0 where
  pub is_numeral : IsNumeral radix digits
  pub number_named : number ≡ digits_value radix digits
  pub number_fits : number < 2 ^ 64
