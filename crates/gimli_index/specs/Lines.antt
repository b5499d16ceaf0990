-- From a line of a path to addresses, by the statements of an index: the rule for breakpoints of
-- DWARF 5, section 6.2.2.
use Rattle.std.specs.Prelude.{◌≡◌, ℕ, ◌-◌, Bool, false, ◌&&◌, List, [], ◌∷◌, map}
use Rattle.std.specs.Prelude.{nat_eq, if◌then◌else◌, Option, Some, None, Result, Ok, Err}
use Rattle.std.specs.List.{filter, range_with_len, starts_with}
use Rattle.std.specs.Option.{option_map_or}
use Rattle.std.specs.Str.{bytes_eq}
use Rattle.gimli_lookup.specs.Components.{components}
use Rattle.gimli_lookup.specs.Statements.{HasNoLine, IsFirstLine, ascending_once}
use Rattle.gimli_index.specs.Meaning.{Statement, statement_at}
use Rattle.gimli_index.specs.Views.{index_of}
use Rattle.gimli_index.specs.declared.addresses.Addresses.{Addresses}
use Rattle.gimli_index.specs.declared.place.NoPath.{NoPath}

-- components begin with all of others, of which there is one at least
abbrev pub begins_with : List (List ℕ) → List (List ℕ) → Bool
begins_with own [] = false
begins_with own (c ∷ cs) = starts_with bytes_eq own (c ∷ cs)

-- whether a file is named by a path: the last components of its own path are all those of that one.
-- A path from the root is a whole one, and one without a component names no file. A file whose path
-- isn't known has no name
abbrev pub is_named : List ℕ → Result (List ℕ) NoPath → Bool
is_named path (Ok own) = begins_with (components own) (components path)
is_named path (Err e) = false

-- whether a statement is of a line of a file that a path names
abbrev pub is_of : List ℕ → ℕ → Statement → Bool
is_of path line s = is_named path s.path && nat_eq s.line line

-- the addresses of those that are
abbrev pub addresses_in : List ℕ → ℕ → List Statement → List ℕ
addresses_in path line statements = map (λ s. s.address) (filter (is_of path line) statements)

-- the addresses at which code of a line begins, of the files that a path names: in ascending order,
-- each once
abbrev pub addresses_of : List ℕ → List Statement → ℕ → List ℕ
addresses_of path statements line = ascending_once (addresses_in path line statements)

-- ---- an answer

-- numbers without those that are the same as the one before them
abbrev pub without_repeats : Option ℕ → List ℕ → List ℕ
without_repeats last [] = []
without_repeats last (a ∷ rest) =
    if option_map_or (nat_eq a) last false then without_repeats last rest
    else a ∷ without_repeats (Some a) rest

-- the statements that an answer has yet to look at
abbrev pub statements_left : Addresses → List Statement
statements_left found =
    map (statement_at (index_of found.index)) (range_with_len found.next (found.end - found.next))

-- the addresses that are left of an answer
abbrev pub addresses_left : Addresses → List ℕ
addresses_left found =
    without_repeats found.last (addresses_in found.path.now found.line (statements_left found))

-- the answer for a line: the first line from it on that has an address, with all its addresses;
-- None where no line has any
abbrev pub AreAddressesFrom : (ℕ → List ℕ) → ℕ → Option Addresses → Type 0
AreAddressesFrom addresses asked None = HasNoLine addresses asked
AreAddressesFrom addresses asked (Some found) =
    IsFirstLine addresses asked found.line × (addresses_left found ≡ addresses found.line)
