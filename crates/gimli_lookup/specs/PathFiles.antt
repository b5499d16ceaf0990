-- The files of a header that have a path.
use Rattle.std.specs.Prelude.{ℕ, Bool, false, List, Result, Ok, Err, None}
use Rattle.std.specs.Option.{option_map_or}
use Rattle.std.specs.Str.{bytes_eq}
use Rattle.gimli_line.specs.header.Header.{Header, file_of}
use Rattle.gimli_lookup.specs.Paths.{Paths, file_path}
use Rattle.gimli_lookup.specs.Strings.{Strings}
use Rattle.gimli_lookup.specs.declared.path_error.PathError.{PathError}

-- the paths of a header, where no one has handed over the directory of its compilation
abbrev pub paths_of : Strings → Header → Paths
paths_of sections h = record { sections = sections; header = h; comp_dir = None }

-- whether a whole path is this one; false if the path isn't known
abbrev pub is_path : List ℕ → Result (List ℕ) PathError → Bool
is_path path (Ok whole) = bytes_eq whole path
is_path path (Err e) = false

-- whether the file of an index has this whole path
abbrev pub has_path : Paths → List ℕ → ℕ → Bool
has_path p path i = option_map_or (λ f. is_path path (file_path p f)) (file_of p.header i) false
