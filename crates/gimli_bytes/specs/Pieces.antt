-- Bytes in pieces of one size.
use Rattle.std.specs.Prelude.{◌≡◌, ◌+◌, ◌-◌, ◌*◌, ◌<◌, ◌≤◌, ◌∷◌, ℕ, List, [], All, length, take}
use Rattle.std.specs.List.{concat}
use Rattle.std.specs.Int.{div_ceil}

-- each piece has from 1 to n bytes, and one with another after it has n
abbrev pub HaveSizes : ℕ → List (List ℕ) → Type 0
HaveSizes n [] = Unit {0}
HaveSizes n (piece ∷ []) = (1 ≤ length piece) × (length piece ≤ n)
HaveSizes n (piece ∷ next ∷ others) = (length piece ≡ n) × HaveSizes n (next ∷ others)

-- these pieces hold the bytes, one after the other, and all are full but the last
pub record ArePieces (n : ℕ) (bytes : List ℕ) (pieces : List (List ℕ)) : Type 0 where
  pub joined : concat pieces ≡ bytes
  pub sizes : HaveSizes n pieces

-- what is in use of the memory of pieces, where it holds so many bytes
abbrev pub in_use : ℕ → List (List ℕ) → List (List ℕ)
in_use len [] = []
in_use len (piece ∷ others) = take len piece ∷ in_use (len - length piece) others

-- the memory of pieces that hold so many bytes: each has n, they are enough, and none is too many
pub record HoldPieces (n len : ℕ) (pieces : List (List ℕ)) : Type 0 where
  pub positive : 1 ≤ n
  pub sizes : All (λ piece. length piece ≡ n) pieces
  pub enough : len ≤ length pieces * n
  pub needed : length pieces * n < len + n

-- after so many bytes so many more need no further piece
abbrev pub NeedsNoPiece : ℕ → ℕ → ℕ → Type 0
NeedsNoPiece n len more = div_ceil (len + more) n ≡ div_ceil len n
