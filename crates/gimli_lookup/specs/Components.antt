-- The components of a path, and which paths end with those of another.
use Rattle.std.specs.Prelude.{◌≡◌, ℕ, List, [], ◌∷◌, ◌++◌, if◌then◌else◌, codes}
use Rattle.std.specs.List.{slice_split}
use Rattle.std.specs.Str.{bytes_eq}
use Rattle.gimli_lookup.specs.Paths.{is_separator, begins_with_separator}

-- `..` after components, which stand last first: it takes the last one away. Nothing is above the
-- root, which is the component without a name; where no component is known, `..` stays
abbrev pub up : List (List ℕ) → List (List ℕ)
up [] = codes ".." ∷ []
up ([] ∷ before) = [] ∷ before
up ((c ∷ cs) ∷ before) =
    if bytes_eq (c ∷ cs) (codes "..") then codes ".." ∷ (c ∷ cs) ∷ before else before

-- one more written component after these: an empty one, between two separators, and `.` add nothing
abbrev pub with_component : List (List ℕ) → List ℕ → List (List ℕ)
with_component before [] = before
with_component before (c ∷ cs) =
    if bytes_eq (c ∷ cs) (codes ".") then before else if bytes_eq (c ∷ cs) (codes "..")
    then up before else (c ∷ cs) ∷ before

-- what written components, in their order, come to after these
abbrev pub resolved : List (List ℕ) → List (List ℕ) → List (List ℕ)
resolved before [] = before
resolved before (component ∷ rest) = resolved (with_component before component) rest

-- a path begins at the root, or anywhere
abbrev pub start_of : List ℕ → List (List ℕ)
start_of path = if begins_with_separator path then [] ∷ [] else []

-- the components of a path, the last one first
abbrev pub components : List ℕ → List (List ℕ)
components path = resolved (start_of path) (slice_split is_separator path)

-- the last components of a path are all those of another
abbrev pub EndsWith : List ℕ → List ℕ → Type 0
EndsWith path end = (before : List (List ℕ)) × (components path ≡ components end ++ before)
