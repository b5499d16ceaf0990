-- Where code of a line begins: the addresses for a breakpoint (DWARF 5, section 6.2.2).
use Rattle.std.specs.Prelude.{◌≡◌, ◌≢◌, ◌≤◌, ◌<◌, ℕ, Bool, not, ◌&&◌, ◌==◌, nat_eq, nat_lt}
use Rattle.std.specs.Prelude.{if◌then◌else◌}
use Rattle.std.specs.Prelude.{List, [], ◌∷◌, flat_map, Option, Some, None}
use Rattle.std.specs.List.{slice_split}
use Rattle.gimli_line.specs.declared.run.row.LineRow.{LineRow}
use Rattle.gimli_lookup.specs.declared.statements.Addresses.{Addresses}

-- whether a row is of a line of a file, by a test of file numbers, since several may stand for one
-- file. An end row is of none, for no code begins at it; nor is a row of line 0, whose code is of
-- no line
abbrev pub is_of_line : (ℕ → Bool) → ℕ → LineRow → Bool
is_of_line is_file line r =
    not r.end_sequence && nat_lt 0 r.line && r.line == line && is_file r.file

-- the runs of a line: rows of it that stand side by side, between those that aren't of it
abbrev pub runs : (ℕ → Bool) → ℕ → List LineRow → List (List LineRow)
runs is_file line rows = slice_split (λ r. not (is_of_line is_file line r)) rows

-- the address of the first row of a run that is a recommended place for a breakpoint (is_stmt),
-- where it has one
abbrev pub first_statement : List LineRow → List ℕ
first_statement [] = []
first_statement (r ∷ run) = if r.is_stmt then r.address ∷ [] else first_statement run

-- the addresses of a line in the rows of one sequence: one for each run that has a statement
abbrev pub addresses_in : (ℕ → Bool) → ℕ → List LineRow → List ℕ
addresses_in is_file line rows = flat_map first_statement (runs is_file line rows)

-- the addresses of a line in sequences, in their order
abbrev pub addresses_of : (ℕ → Bool) → List (List LineRow) → ℕ → List ℕ
addresses_of is_file sequences line = flat_map (addresses_in is_file line) sequences

-- no line from the asked one on has an address
abbrev pub HasNoLine : (ℕ → List ℕ) → ℕ → Type 0
HasNoLine addresses asked = (line : ℕ) → asked ≤ line → addresses line ≡ []

-- a line is the least one from the asked one on that has an address
pub record IsFirstLine (addresses : ℕ → List ℕ) (asked line : ℕ) : Type 0 where
  pub from : asked ≤ line
  pub some : addresses line ≢ []
  pub none_before : (l : ℕ) → asked ≤ l → l < line → addresses l ≡ []

-- a number put among ascending ones, where it isn't there already
abbrev pub put_once : ℕ → List ℕ → List ℕ
put_once a [] = a ∷ []
put_once a (b ∷ bs) =
    if nat_lt a b then a ∷ b ∷ bs else (if nat_eq a b then b ∷ bs else b ∷ put_once a bs)

-- numbers in ascending order, each once
abbrev pub ascending_once : List ℕ → List ℕ
ascending_once [] = []
ascending_once (a ∷ rest) = put_once a (ascending_once rest)

-- the answer for a line: the first line from it on that has an address, with all its addresses in
-- ascending order, each once; None where no line has any
abbrev pub AreAddressesFrom : (ℕ → List ℕ) → ℕ → Option Addresses → Type 0
AreAddressesFrom addresses asked None = HasNoLine addresses asked
AreAddressesFrom addresses asked (Some found) =
    IsFirstLine addresses asked found.line
    × (found.addresses.items ≡ ascending_once (addresses found.line))
