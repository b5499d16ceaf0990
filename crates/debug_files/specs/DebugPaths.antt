-- Where the file with a program's debug information may be (GDB's documentation, "Debugging
-- Information in Separate Files").
use Rattle.std.specs.Prelude.{ℕ, List, [], ◌∷◌, ◌++◌, codes, nat_eq, Bool, if◌then◌else◌, Option}
use Rattle.std.specs.List.{list_any, starts_with}
use Rattle.std.specs.Option.{option_map_or}
use Rattle.hex.specs.Hex.{encode_lower}

-- what separates a folder from what is in it
abbrev pub slash : ℕ
slash = 0x2f

abbrev pub is_slash : ℕ → Bool
is_slash b = nat_eq b slash

-- the folder of a path: up to its last slash, nothing where it has none
abbrev pub folder : List ℕ → List ℕ
folder [] = []
folder (b ∷ path) = if list_any is_slash (b ∷ path) then b ∷ folder path else []

-- by a build id, in a directory: its first byte names a folder, and the rest a file in it
abbrev pub build_id_path : List ℕ → ℕ → List ℕ → List ℕ
build_id_path directory first rest =
    directory ++ codes "/.build-id/" ++ encode_lower (first ∷ []) ++ codes "/" ++ encode_lower rest
    ++ codes ".debug"

abbrev pub build_id_paths : List ℕ → List ℕ → List (List ℕ)
build_id_paths directory [] = []
build_id_paths directory (first ∷ rest) = build_id_path directory first rest ∷ []

-- by a name, for a program in a folder: the last path where the folder is an absolute one
abbrev pub link_paths : List ℕ → List ℕ → List ℕ → List (List ℕ)
link_paths directory folder name =
    (folder ++ name) ∷ (folder ++ codes ".debug/" ++ name)
    ∷ (if starts_with nat_eq folder (codes "/") then (directory ++ folder ++ name) ∷ [] else [])

-- with a directory of debug files: by the build id first, then by the name of the link, where the
-- program has them
abbrev pub debug_file_paths
    : List ℕ → List ℕ → Option (List ℕ) → Option (List ℕ) → List (List ℕ)
debug_file_paths directory path build_id link =
    option_map_or (build_id_paths directory) build_id []
    ++ option_map_or (link_paths directory (folder path)) link []
