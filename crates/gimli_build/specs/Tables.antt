-- The directories and the files of a line program, as lists.
use Rattle.std.specs.Prelude.{◌≡◌, ◌≢◌, ◌+◌, ◌<◌, ◌≤◌, ◌&&◌, ◌∷◌, ◌++◌, if◌then◌else◌}
use Rattle.gimli_build.specs
use specs.Prelude
use Prelude.{ℕ, suc, zero, Bool, List, [], length, slice_get, map, replicate, nat_eq, Option, Some}
use Prelude.{None, unwrap_or, All, AllPairs}
use Rattle.std.specs.List.{list_any, position_or_len}
use specs.LineText.{LineText, line_text_eq, HasNoZero}

-- ---- directories

-- the directories after one is added: one that is there changes nothing, any other goes last
abbrev pub with_directory : List LineText → LineText → List LineText
with_directory directories t =
    if list_any (line_text_eq t) directories then directories else directories ++ t ∷ []

-- the index of a directory, which is the end where it isn't there
abbrev pub index_of_directory : List LineText → LineText → ℕ
index_of_directory directories t = position_or_len (line_text_eq t) directories

-- ---- files

-- what a file is told apart by: its path, and the index of its directory
abbrev pub FileKey : Type 0
FileKey = LineText × ℕ

-- what else is known of a file
pub record Details : Type 0 where
  pub timestamp : ℕ
  pub size : ℕ
  pub md5 : List ℕ
  pub source : Option LineText

-- nothing
abbrev pub no_details : Details
no_details = record { timestamp = 0; size = 0; md5 = replicate 16 0; source = None }

-- a file, with what else is known of it
abbrev pub File : Type 0
File = FileKey × Details

-- whether two keys have the same path and the same directory
abbrev pub key_eq : FileKey → FileKey → Bool
key_eq k l = line_text_eq k.0 l.0 && nat_eq k.1 l.1

-- whether a file with this key is there
abbrev pub has_file : List File → FileKey → Bool
has_file files key = list_any (λ f. key_eq key f.0) files

-- the index of a file, which is the end where it isn't there
abbrev pub index_of_file : List File → FileKey → ℕ
index_of_file files key = position_or_len (λ f. key_eq key f.0) files

-- the files with other details at an index
abbrev pub with_details : List File → ℕ → Details → List File
with_details [] i details = []
with_details (f ∷ files) zero details = (f.0, details) ∷ files
with_details (f ∷ files) (suc i) details = f ∷ with_details files i details

-- the files after one is added, with details or without: a file that is there takes the details
-- that come, and any other goes last
abbrev pub with_file : List File → FileKey → Option Details → List File
with_file files key given =
    if has_file files key
    then (elim given
    [ Some details ↦ with_details files (index_of_file files key) details | None ↦ files ])
    else files ++ (key, unwrap_or given no_details) ∷ []

-- ---- both

-- the directories and the files
pub record Tables : Type 0 where
  pub directories : List LineText
  pub files : List File

-- the keys of files
abbrev pub keys_of : List File → List FileKey
keys_of files = map (λ f. f.0) files

-- each element that was there keeps its index
pub record Keeps {A : Type 0} (old new : List A) : Type 0 where
  pub grows : length old ≤ length new
  pub stays : (i : ℕ) → i < length old → slice_get new i ≡ slice_get old i

-- no directory is twice there, nor is a file; a text in the program has no zero byte; the directory
-- of each file is there
pub record AreTables (directories : List LineText) (keys : List FileKey) : Type 0 where
  pub distinct_directories : AllPairs (λ s t. s ≢ t) directories
  pub directories_end : All HasNoZero directories
  pub distinct_files : AllPairs (λ k l. k ≢ l) keys
  pub paths_end : All (λ k. HasNoZero k.0) keys
  pub in_directories : All (λ k. k.1 < length directories) keys

-- the files that an iterator still gives from an index on, each with its index
abbrev pub with_indexes : ℕ → List File → List (ℕ × LineText × ℕ)
with_indexes i [] = []
with_indexes i (f ∷ files) = (i, f.0.0, f.0.1) ∷ with_indexes (i + 1) files
