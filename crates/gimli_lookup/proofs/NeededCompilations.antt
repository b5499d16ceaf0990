-- Paths of a program whose units need no directory of a compilation.
use Rattle.std.proofs.Common.{◌≡◌, ℕ, zero, suc, Bool, true, false, ◌||◌, List, [], ◌∷◌, Option, Some, None, Err, refl}
use Rattle.std.proofs.Common.{ap, ◌∙◌}
use Rattle.std.proofs.lemmas.Bool.{both_ways}
use Rattle.std.proofs.lemmas.List.Folds.{list_any_at}
use Rattle.std.specs.Prelude.{Contains, slice_get}
use Rattle.std.specs.List.{list_any}
use Rattle.std.specs.Option.{option_map_or}
use Rattle.gimli_line.specs.declared.run.row.LineRow.{LineRow}
use Rattle.gimli_line.specs.header.File.{File}
use Rattle.gimli_line.specs.header.Header.{Header, file_of}
use Rattle.gimli_lookup.specs.PathFiles.{paths_of}
use Rattle.gimli_lookup.specs.Paths.{file_path, needs_directory, row_path}
use Rattle.gimli_lookup.specs.Program.{found_needs, need_at, some_found_need, unit_needs}
use Rattle.gimli_lookup.specs.ProgramPaths.{found_in, Texts, unit_paths}
use Rattle.gimli_lookup.specs.Section.{KeptHeader, ListedUnit}
use Rattle.gimli_lookup.specs.Strings.{Strings}
use Rattle.gimli_lookup.specs.declared.path_error.PathError.TheVariants.{InvalidFileIndex}
use Rattle.gimli_lookup.specs.declared.section_lookup.CoveringRows.{CoveringRows}
use Rattle.gimli_lookup.proofs.WholePaths.{same_anyway}

-- the same texts with the directories of other compilations
abbrev others : Texts → (ℕ → Option (List ℕ)) → Texts
others t other = record t { directory = other }

same_file : (t : Texts) (other : ℕ → Option (List ℕ)) (offset : ℕ) (h : Header) (r : LineRow) (f : Option File)
    → needs_directory (paths_of t.strings h) ≡ false
    → option_map_or (file_path (unit_paths (others t other) offset h)) f (Err (InvalidFileIndex r.file))
    ≡ option_map_or (file_path (unit_paths t offset h)) f (Err (InvalidFileIndex r.file))
same_file t other offset h r None none = refl
same_file t other offset h r (Some f) none = same_anyway (unit_paths t offset h) f (other offset) none

same_header : (t : Texts) (other : ℕ → Option (List ℕ)) (f : CoveringRows) (offset : ℕ) (h : Option KeptHeader)
    → option_map_or (λ (h : KeptHeader). needs_directory (paths_of t.strings h.meaning)) h false ≡ false
    → option_map_or (λ (h : KeptHeader). row_path (unit_paths (others t other) offset h.meaning) f.row) h
    (Err (InvalidFileIndex f.row.file))
    ≡ option_map_or (λ (h : KeptHeader). row_path (unit_paths t offset h.meaning) f.row) h
    (Err (InvalidFileIndex f.row.file))
same_header t other f offset None none = refl
same_header t other f offset (Some h) none =
    same_file t other offset h.meaning f.row (file_of h.meaning f.row.file) none

-- the path of found rows is the same with the directories of other compilations, if it needs none
pub same_one : (t : Texts) (other : ℕ → Option (List ℕ)) (f : CoveringRows) (u : Option ListedUnit)
    → option_map_or (unit_needs t.strings) u false ≡ false
    → option_map_or (found_in (others t other) f) u (Err (InvalidFileIndex f.row.file))
    ≡ option_map_or (found_in t f) u (Err (InvalidFileIndex f.row.file))
same_one t other f None none = refl
same_one t other f (Some u) none = same_header t other f u.offset u.header none

-- what is not true is false
not_yes : (b : Bool) → (b ≡ true → ⊥) → b ≡ false
not_yes true not_true = absurd (not_true refl)
not_yes false not_true = refl

-- if some paths need none, each of them doesn't
pub none_at : (texts : Strings) (units : List ListedUnit) (rows : List (Option CoveringRows)) (f : CoveringRows)
    → Contains rows (Some f) → some_found_need texts units rows ≡ false → found_needs texts units f ≡ false
none_at texts units rows f there none =
    let needs = need_at texts units in
    not_yes (found_needs texts units f) (λ yes.
    both_ways (list_any needs rows) none
    (list_any_at needs rows there.0 (Some f) there.1 (ap needs there.2 ∙ yes)))

neither : (b c : Bool) → (b || c) ≡ false → (b ≡ false) × (c ≡ false)
neither true c e = absurd cc
neither false c e = (refl, e)

-- if no unit needs the directory of its compilation, the rows of none of them do
pub none_of : (texts : Strings) (units : List ListedUnit) (i : ℕ)
    → list_any (unit_needs texts) units ≡ false → option_map_or (unit_needs texts) (slice_get units i) false ≡ false
none_of texts [] i none = refl
none_of texts (u ∷ units) zero none = (neither (unit_needs texts u) (list_any (unit_needs texts) units) none).0
none_of texts (u ∷ units) (suc i) none =
    none_of texts units i (neither (unit_needs texts u) (list_any (unit_needs texts) units) none).1
