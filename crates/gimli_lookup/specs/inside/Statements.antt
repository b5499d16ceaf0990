-- Lines that have a statement, as tests of lines and of the numbers of files.
use Rattle.std.specs.Prelude.{◌≡◌, ℕ, Bool, ◌==◌, List, Option, Some, None, nat_lt, ◌&&◌, ◌≤◌, ◌<◌}
use Rattle.std.specs.Prelude.{true, false, MatchOption}
use Rattle.std.specs.List.{list_any}
use Rattle.gimli_lookup.specs.Statements.{HasNoLine, IsFirstLine, is_of_line}
use Rattle.gimli_lookup.specs.declared.statements.Addresses.{Addresses}
use Rattle.gimli_line.specs.declared.run.row.LineRow.{LineRow}

-- whether a number is one of these
abbrev pub is_among : List ℕ → ℕ → Bool
is_among numbers n = list_any (λ k. k == n) numbers

-- what is collected for a line: the first line from it on that has an address, with its addresses
-- as they come, in the order of units, sequences and rows; None where no line has any
abbrev pub AreCollectedFrom : (ℕ → List ℕ) → ℕ → Option Addresses → Type 0
AreCollectedFrom addresses asked None = HasNoLine addresses asked
AreCollectedFrom addresses asked (Some found) =
    IsFirstLine addresses asked found.line × (found.addresses.items ≡ addresses found.line)

-- these are the indices below an end at which a test passes
abbrev pub AreBelow : (ℕ → Bool) → ℕ → List ℕ → Type 0
AreBelow test end indices = (i : ℕ) → is_among indices i ≡ (nat_lt i end && test i)

-- whether a row is a statement of a line
abbrev pub is_statement : (ℕ → Bool) → ℕ → LineRow → Bool
is_statement is_file line r = is_of_line is_file line r && r.is_stmt

-- whether one of the rows of a sequence is
abbrev pub has_statement : (ℕ → Bool) → ℕ → List LineRow → Bool
has_statement is_file line rows = list_any (is_statement is_file line) rows

-- whether one of the rows of sequences is
abbrev pub have_statement : (ℕ → Bool) → ℕ → List (List LineRow) → Bool
have_statement is_file line sequences = list_any (has_statement is_file line) sequences

-- the least line from the asked one on that passes a test, if there is one
abbrev pub IsFirstWith : (ℕ → Bool) → ℕ → Option ℕ → Type 0
IsFirstWith test asked found = MatchOption found ((l : ℕ) → asked ≤ l → test l ≡ false)
    (λ line. (asked ≤ line) × (test line ≡ true)
    × ((l : ℕ) → asked ≤ l → l < line → test l ≡ false))
