-- How a reader takes numbers from bytes: the order of these, and a limit of offsets.
use Rattle.std.specs.Prelude.{ℕ, Bool, List}

-- the order of bytes, and the limit of offsets
pub record OrderAndLimit : Type 0 where
  -- the most significant byte comes first
  pub is_big : Bool
  -- the first number that is too large for an offset of the reader
  pub limit : ℕ

-- the record of both
abbrev pub layout_of : Bool → ℕ → OrderAndLimit
layout_of is_big limit = record { is_big = is_big; limit = limit }

-- what a reader has left: its bytes, and whether the most significant byte of a number among them
-- comes first
pub record Seen : Type 0 where
  pub bytes : List ℕ
  pub is_big : Bool
