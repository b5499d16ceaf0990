-- Which files rows have.
use Rattle.std.specs.Prelude.{◌≡◌, ℕ, Bool, ◌||◌, ◌==◌, List, slice_get, option_map}
use Rattle.std.specs.List.{list_any}
use Rattle.gimli_line.specs.declared.run.row.LineRow.{LineRow}

-- whether a row has the file of a number
abbrev pub has_file : List LineRow → ℕ → Bool
has_file rows file = list_any (λ r. r.file == file) rows

-- whether a row of these sequences has the file of a number
abbrev pub have_file : List (List LineRow) → ℕ → Bool
have_file sequences file = list_any (λ rows. has_file rows file) sequences

-- a list of marks, one for each number: a number is marked that was before, or that passes a test
abbrev pub AreMarked : (ℕ → Bool) → List Bool → List Bool → Type 0
AreMarked is_marked old new =
    (n : ℕ) → slice_get new n ≡ option_map (λ mark. mark || is_marked n) (slice_get old n)
