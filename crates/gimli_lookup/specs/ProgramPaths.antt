-- The whole paths of the files of a program: of each unit by the directory of its compilation.
use Rattle.std.specs.Prelude.{ℕ, List, Option, Result, Err, slice_get}
use Rattle.std.specs.Option.{option_map, option_map_or}
use Rattle.gimli_compilation.specs.Directories.{directory_for}
use Rattle.gimli_line.specs.header.Header.{Header}
use Rattle.gimli_lookup.specs.Paths.{Paths, row_path}
use Rattle.gimli_lookup.specs.Section.{KeptHeader, ListedUnit}
use Rattle.gimli_lookup.specs.Strings.{Strings, strings}
use Rattle.gimli_lookup.specs.declared.path_error.PathError.{PathError}
use Rattle.gimli_lookup.specs.declared.path_error.PathError.TheVariants.{InvalidFileIndex}
use Rattle.gimli_lookup.specs.declared.section_lookup.CoveringRows.{CoveringRows}
use Rattle.gimli_lookup.specs.declared.string_sections.StringSections.{StringSections}
use Rattle.gimli_core.specs.Layout.{Seen}

-- what the whole paths of a section are made of, besides the headers of its units
pub record Texts : Type 0 where
  pub strings : Strings
  -- the directory of the compilation whose line program is at an offset
  pub directory : ℕ → Option (List ℕ)

-- the `Texts` of the paths of a program: from its sections of strings, and the directories of its
-- compilations
abbrev pub texts_seen : {R : Type 0} → (R → Seen) → StringSections R × List (ℕ × R) → Texts
texts_seen seen paths = record {
  strings = strings seen paths.0;
  directory = λ offset. option_map (λ r. (seen r).bytes) (directory_for paths.1 offset);
}

-- the paths of the header of the unit at an offset
abbrev pub unit_paths : Texts → ℕ → Header → Paths
unit_paths t offset h = record { sections = t.strings; header = h; comp_dir = t.directory offset }

-- the path of the file of rows that are found in a unit, whose header is known
abbrev pub found_in : Texts → CoveringRows → ListedUnit → Result (List ℕ) PathError
found_in t f u =
    option_map_or (λ (h : KeptHeader). row_path (unit_paths t u.offset h.meaning) f.row) u.header
    (Err (InvalidFileIndex f.row.file))

-- the path of the file of rows that are found in one of these units
abbrev pub found_path : Texts → List ListedUnit → CoveringRows → Result (List ℕ) PathError
found_path t units f =
    option_map_or (found_in t f) (slice_get units f.unit) (Err (InvalidFileIndex f.row.file))
