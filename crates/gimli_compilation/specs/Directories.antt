-- The directories of the compilations of a program, by the offsets of their line programs.
use Rattle.std.specs.Prelude.{◌≡◌, ◌≢◌, ◌⊎◌, ℕ, List, [], ◌∷◌, drop, Option, Some, None, nat_eq}
use Rattle.std.specs.Prelude.{if◌then◌else◌}
use Rattle.std.specs.BTreeMap.{is_at}
use Rattle.std.specs.Map.{lookup}
use Rattle.std.specs.Ordering.{nat_cmp}
use Rattle.gimli_compilation.specs.declared.refusal.Refusal.{Refusal}
use Rattle.gimli_compilation.specs.declared.sections.Compilation.{Compilation}
use Rattle.gimli_compilation.specs.Sections.{Sections}
use Rattle.gimli_compilation.specs.Unit.{HasCompilationAt, HasRefusalAt, IsNextOffset}

-- a line program and a directory where there are both
abbrev pub paired : {D : Type 0} → Option ℕ → Option D → Option (ℕ × D)
paired (Some line) (Some directory) = Some (line, directory)
paired (Some line) None = None
paired None directory = None

-- the line program and the directory of a compilation
abbrev pub line_directory : {D : Type 0} → Compilation D → Option (ℕ × D)
line_directory compilation = paired compilation.stmt_list compilation.comp_dir

-- the directory for a line program, of a unit that has a line program and a directory
abbrev pub directory_in : {D : Type 0} → ℕ → Option (ℕ × D) → Option D
directory_in line None = None
directory_in line (Some given) = if nat_eq given.0 line then Some given.1 else None

-- the first that there is
abbrev pub first_of : {D : Type 0} → Option D → Option D → Option D
first_of (Some d) other = Some d
first_of None other = other

-- the directory of the first unit that has one for a line program
abbrev pub directory_among : {D : Type 0} → ℕ → List (Option (ℕ × D)) → Option D
directory_among line [] = None
directory_among line (given ∷ others) =
    first_of (directory_in line given) (directory_among line others)

-- the directory that a list of line programs and their directories has for a line program
abbrev pub directory_for : {D : Type 0} → List (ℕ × D) → ℕ → Option D
directory_for entries line = lookup (is_at (nat_cmp line)) entries

module _ (sections : Sections) where
  -- the unit at an offset gives this: what its compilation says, or nothing where it is refused
  abbrev pub Gives : ℕ → Option (ℕ × List ℕ) → Type 0
  Gives offset given =
      ((compilation : Compilation (List ℕ)) × HasCompilationAt sections offset compilation
      × (given ≡ line_directory compilation))
      ⊎ ((refusal : Refusal) × HasRefusalAt sections offset refusal × (given ≡ None))

  -- the units of `.debug_info` from an offset on, one after the other, give these
  abbrev pub Give : ℕ → List (Option (ℕ × List ℕ)) → Type 0
  Give offset [] = drop offset sections.info ≡ []
  Give offset (given ∷ others) =
      (drop offset sections.info ≢ []) × Gives offset given
      × ((next : ℕ) × IsNextOffset sections offset next × Give next others)

  -- this maps each line program to the directory of the first unit that has one for it
  abbrev pub TellsDirectories : (ℕ → Option (List ℕ)) → Type 0
  TellsDirectories tell =
      (units : List (Option (ℕ × List ℕ))) × Give 0 units
      × ((line : ℕ) → tell line ≡ directory_among line units)
