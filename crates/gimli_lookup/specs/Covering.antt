-- The sequence that covers an address, where the addresses of its rows never go down: its first
-- row's address is at most that address, and its last row's above it (DWARF 5, section 6.2.5.3,
-- `end_sequence`).
use Rattle.std.specs.Prelude.{◌≡◌, ◌+◌, ℕ, Bool, true, false, ◌&&◌, nat_le, nat_lt}
use Rattle.std.specs.Prelude.{if◌then◌else◌, List, [], ◌∷◌, length, Option, None, Some}
use Rattle.gimli_line.specs.declared.run.row.LineRow.{LineRow}
use Rattle.gimli_lookup.specs.Probes.{never_go_down, binary_digits}

-- the address of the last of a row and rows after it
abbrev pub last_address : LineRow → List LineRow → ℕ
last_address r [] = r.address
last_address r (next ∷ rows) = last_address next rows

-- the addresses of the first and of the last row
abbrev pub range : List LineRow → Option (ℕ × ℕ)
range [] = None
range (r ∷ rows) = Some (r.address, last_address r rows)

-- whether an address is at least the first of two, and below the second
abbrev pub is_between : ℕ → Option (ℕ × ℕ) → Bool
is_between a None = false
is_between a (Some ends) = nat_le ends.0 a && nat_lt a ends.1

-- whether the rows never go down, and cover an address
abbrev pub covers : ℕ → List LineRow → Bool
covers a rows = never_go_down rows && is_between a (range rows)

-- the index of the first sequence that covers an address, where the first of these has the index
-- `first`
abbrev pub covering_index : ℕ → ℕ → List (List LineRow) → Option ℕ
covering_index a first [] = None
covering_index a first (rows ∷ later) =
    if covers a rows then Some first else covering_index a (first + 1) later

-- the most probes by halves among the rows of the first sequence that covers an address
abbrev pub covering_probes : ℕ → List (List LineRow) → ℕ
covering_probes a [] = 0
covering_probes a (rows ∷ later) =
    if covers a rows then binary_digits (length rows) else covering_probes a later

-- the rows cover some address
abbrev pub CoversSome : List LineRow → Type 0
CoversSome rows = (a : ℕ) × (covers a rows ≡ true)
