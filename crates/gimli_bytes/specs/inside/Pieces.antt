-- Bytes in pieces of one size.
use Rattle.std.specs.Prelude.{◌+◌, ◌++◌, ℕ, List, length, take, drop}

-- bytes put over others from a place on
abbrev pub put_over : List ℕ → ℕ → List ℕ → List ℕ
put_over old at bytes = take at old ++ bytes ++ drop (at + length bytes) old
