-- How many addresses of rows a lookup reads.
use Rattle.std.specs.Prelude.{◌≡◌, ℕ, zero, suc, ◌+◌, ◌/◌, Bool, true, not, ◌&&◌, nat_lt}
use Rattle.std.specs.Prelude.{List, [], ◌∷◌, All}
use Rattle.gimli_line.specs.declared.run.row.LineRow.{LineRow}

-- no row has an address below the one before it, nor the first below `lowest`
abbrev pub never_go_below : ℕ → List LineRow → Bool
never_go_below lowest [] = true
never_go_below lowest (r ∷ rows) = not (nat_lt r.address lowest) && never_go_below r.address rows

-- no row has an address below the one before it
abbrev pub never_go_down : List LineRow → Bool
never_go_down rows = never_go_below 0 rows

-- in each of these sequences no row has an address below the one before it
abbrev pub NoneGoesDown : List (List LineRow) → Type 0
NoneGoesDown sequences = All (λ rows. never_go_down rows ≡ true) sequences

-- how often a number can be halved until nothing is left, at most a limit
abbrev pub halvings : ℕ → ℕ → ℕ
halvings zero n = 0
halvings (suc limit) zero = 0
halvings (suc limit) (suc n) = 1 + halvings limit (suc n / 2)

-- the number of a number's binary digits; 0 has none
abbrev pub binary_digits : ℕ → ℕ
binary_digits n = halvings n n
