-- The components that are left of a path, its last one, and whether the path ends with that.
use Rattle.std.specs.Prelude.{List, ℕ, [], ◌∷◌, if◌then◌else◌, ◌≡◌, ◌++◌}
use Rattle.std.specs.List.{slice_split}
use Rattle.gimli_lookup.specs.Paths.{is_separator}
use Rattle.gimli_lookup.specs.Components.{resolved, components}
use Rattle.gimli_lookup.specs.inside.Paths.{up_by}
use Rattle.gimli_index.specs.declared.components.Components.{Components}

-- those before the text that is left
abbrev pub begun : Components → List (List ℕ)
begun c = if c.root then [] ∷ [] else []

-- the last one first: as many of them are dropped as `..` were passed
abbrev pub components_left : Components → List (List ℕ)
components_left c = up_by c.ups (resolved (begun c) (slice_split is_separator c.text.now))

-- this is the last component of a path
abbrev pub IsLastComponent : List ℕ → List ℕ → Type 0
IsLastComponent path name = (before : List (List ℕ)) × (components path ≡ name ∷ before)

-- a path ends with the bytes of its last component
pub record EndsAsWritten (path : List ℕ) : Type 0 where
  pub name : List ℕ
  pub front : List ℕ
  pub is_last : IsLastComponent path name
  pub parts : path ≡ front ++ name
