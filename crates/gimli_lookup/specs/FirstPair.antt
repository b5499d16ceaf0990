-- The rows that cover an address: what a row says holds from its address on, up to that of the next
-- row of its sequence (DWARF 5, section 6.2).
use Rattle.std.specs.Prelude.{ℕ, Bool, nat_le, nat_lt, ◌&&◌, if◌then◌else◌, List, [], ◌∷◌}
use Rattle.std.specs.Prelude.{Option, None, Some}
use Rattle.std.specs.Option.{option_or}
use Rattle.gimli_line.specs.declared.run.row.LineRow.{LineRow}

-- whether an address is at least that of a row, and below that of the next one
abbrev pub is_round : ℕ → LineRow → LineRow → Bool
is_round a x y = nat_le x.address a && nat_lt a y.address

-- the first rows of a sequence, one after the other, that an address stands between
abbrev pub first_pair : ℕ → List LineRow → Option (LineRow × LineRow)
first_pair a [] = None
first_pair a (x ∷ []) = None
first_pair a (x ∷ y ∷ rows) =
    if is_round a x y then Some (x, y) else first_pair a (y ∷ rows)

-- those of the first sequence that has such rows
abbrev pub first_pair_of : ℕ → List (List LineRow) → Option (LineRow × LineRow)
first_pair_of a [] = None
first_pair_of a (rows ∷ later) = option_or (first_pair a rows) (first_pair_of a later)
