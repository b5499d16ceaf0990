-- The tables of a written unit: their bytes spell them, and what is read of them stands for what was built.
use Rattle.std.specs.Prelude.{◌≡◌, ◌<◌, ◌^◌, ◌∷◌, ◌++◌, if◌then◌else◌}
use Rattle.gimli_build.proofs
use proofs.Common
use Common.{ℕ, Bool, true, false, List, [], length, drop, map, option_map, Option, slice_get, Ok, refl, sym, ap}
use Common.{◌∙◌, arith, length-append, Result, nat_le, option_to_list, leb-true, append-nil, All-drop}
use Common.{OrderAndLimit, Value, String, Placement, counted, AreTexts, StringTables, Error, UnitEntry, ReadFile}
use Common.{FileEntryFormat, LineText, bytes_in, HasNoZero, File, Sections, OneByOne, Built, IsBuilt}
use Common.{IsDirectory, IsFile, IsFound, result_append, directories_bytes, files_bytes, directory_formats}
use Common.{file_formats, directory_table_bytes, file_table_bytes, tables_bytes}
use Rattle.gimli_line.specs.header.HeaderGrammar.{path_of, file_of_entry, handed_value, table_of, directory_table}
use Rattle.gimli_line.specs.header.HeaderGrammar.{file_table}
use proofs.writing.WrittenParts.{both_written}
use proofs.spellings.TableSpellings.{read_file, directories-spelled, files-spelled}
use proofs.spellings.EncodingSpellings.{first-chosen, second-chosen}
use proofs.spellings.Version5TableSpellings.{
  read_format,
  directory_entry,
  file_entry,
  new-directories-spelled,
  new-files-spelled,
  new-directories-back,
  new-files-back,
}
use proofs.reading.ReadyTexts.{AreReady, AreOfTables}
use proofs.spellings.TextForms.{IsHeld}

-- the directories from index 0 on: up to version 4 the one that was handed is the first
abbrev from_zero : Built → UnitEntry → List Value → List Value
from_zero p unit_entry directories = if nat_le p.encoding.version 4
    then option_to_list (option_map String (handed_value p.encoding unit_entry.directory)) ++ directories
    else directories

abbrev formats_of_directories : Built → List (ℕ × ℕ)
formats_of_directories p = directory_formats p

abbrev formats_of_files : Built → List (ℕ × ℕ)
formats_of_files p = file_formats p

-- what is read of the tables
pub record TablesBack (layout : OrderAndLimit) (unit_entry : UnitEntry) (sections : Sections) (p : Built)
    (texts : StringTables) (bytes : List ℕ) : Type 0 where
  pub directory_formats : List FileEntryFormat
  pub directories : List Value
  pub file_formats : List FileEntryFormat
  pub files : List ReadFile
  pub directory_bytes : List ℕ
  pub file_bytes : List ℕ
  pub whole : bytes ≡ directory_bytes ++ file_bytes
  pub directory_formats_are : nat_le p.encoding.version 4 ≡ false
      → directory_formats ≡ map read_format (formats_of_directories p)
  pub file_formats_are : nat_le p.encoding.version 4 ≡ false → file_formats ≡ map read_format (formats_of_files p)
  pub directories_spelled : (directory_table layout p.encoding).Spells directory_bytes (directory_formats, directories)
  pub files_spelled : (file_table layout p.encoding).Spells file_bytes (file_formats, files)
  pub directories_back : OneByOne (IsDirectory sections texts) (from_zero p unit_entry directories) p.directories
  pub files_back : OneByOne (IsFile sections p texts) files p.files

-- ---- up to version 4

module _ (sections : Sections) (texts : StringTables) where
  abbrev AreDirectories : List Value → List LineText → Type 0
  AreDirectories values ts = OneByOne (IsDirectory sections texts) values ts

  texts_back : (ts : List LineText) → AreDirectories (map String (map (bytes_in texts) ts)) ts
  texts_back [] = tt
  texts_back (t ∷ ts) = (refl, texts_back ts)

  -- the first one is handed
  abbrev with_handed : Option (List ℕ) → List LineText → List Value
  with_handed handed ds = option_to_list (option_map String handed) ++ map String (map (bytes_in texts) (drop 1 ds))

  handed_back : (ds : List LineText) → 0 < length ds
      → AreDirectories (with_handed (option_map (bytes_in texts) (slice_get ds 0)) ds) ds
  handed_back ds some = grind (arith, texts_back)

  file_back : (p : Built) (f : File) → nat_le p.encoding.version 4 ≡ true
      → IsFile sections p texts (read_file texts f) f
  file_back p f old = grind arith

  files_back : (p : Built) (fs : List File) → nat_le p.encoding.version 4 ≡ true
      → OneByOne (IsFile sections p texts) (map (read_file texts) fs) fs
  files_back p [] old = tt
  files_back p (f ∷ fs) old = (file_back p f old, files_back p fs old)

module _ (at : Placement) (layout : OrderAndLimit) (unit_entry : UnitEntry) (sections : Sections) (p : Built)
    (texts : StringTables) (built : IsBuilt p) where
  module _ (old : nat_le p.encoding.version 4 ≡ true) where
    old_directories_spelled : (bytes : List ℕ) → directories_bytes p.directories ≡ Ok bytes
        → (directory_table layout p.encoding).Spells bytes
        ([], map String (map (bytes_in texts) (drop 1 p.directories)))
    unfolding table_of
    old_directories_spelled bytes is =
        let names = map (bytes_in texts) (drop 1 p.directories) in
        let clean = All-drop HasNoZero 1 _ built.tables.directories_end in
        let spelled = directories-spelled texts p.directories _
        (built.is.directories_not_empty (leb-true p.encoding.version 4 old)) clean is in
        first-chosen _ _ _ _ _ old (
          map String names,
          bytes,
          [],
          sym (append-nil _),
          (names, bytes, [], sym (append-nil _), spelled, (refl, refl)),
          (refl, refl),
        )

    old_files_spelled : (bytes : List ℕ) → files_bytes p.files ≡ Ok bytes
        → (file_table layout p.encoding).Spells bytes ([], map (read_file texts) p.files)
    unfolding table_of
    old_files_spelled bytes is =
        let spelled =
        files-spelled _ _ _ (built.is.paths_not_empty (leb-true p.encoding.version 4 old)) built.tables.paths_end
        built.files_fit is in
        first-chosen _ _ _ _ _ old
        (map (read_file texts) p.files, bytes, [], sym (append-nil _), spelled, (refl, refl))

    old_back : unit_entry.directory ≡ option_map (bytes_in texts) (slice_get p.directories 0)
        → OneByOne (IsDirectory sections texts)
        (from_zero p unit_entry (map String (map (bytes_in texts) (drop 1 p.directories)))) p.directories
    old_back known = rw (old, known) (handed_back _ _ _ (built.is.working_dir refl))

    old_tables : (bytes : List ℕ) → unit_entry.directory ≡ option_map (bytes_in texts) (slice_get p.directories 0)
        → result_append (directories_bytes p.directories) (files_bytes p.files) ≡ Ok bytes
        → TablesBack layout unit_entry sections p texts bytes
    old_tables _ known is =
        let b = both_written _ _ _ is in
        record {
          directory_formats = [];
          directories = map String (map (bytes_in texts) (drop 1 p.directories));
          file_formats = [];
          files = map (read_file texts) p.files;
          directory_bytes = b.first;
          file_bytes = b.rest;
          whole = b.whole;
          directory_formats_are = λ new. absurd cc;
          file_formats_are = λ new. absurd cc;
          directories_spelled = old_directories_spelled _ b.first_is;
          files_spelled = old_files_spelled _ b.rest_is;
          directories_back = old_back known;
          files_back = files_back _ _ _ _ old;
        }

  -- ---- version 5

  module _ (new : nat_le p.encoding.version 4 ≡ false) (ready : AreReady p texts)
      (are_texts : AreTexts texts.strings) (are_line_texts : AreTexts texts.line_strings)
      (held : AreOfTables (IsHeld layout.limit p.encoding.format at texts) p texts)
      (found : AreOfTables (IsFound sections at texts) p texts) where
    new_directories_spelled : (bytes : List ℕ)
        → directory_table_bytes (counted at) layout.is_big p.encoding.format texts p ≡ Ok bytes → length bytes < 2 ^ 64
        → (directory_table layout p.encoding).Spells bytes
        (map read_format (directory_formats p), map path_of (map (directory_entry at texts) p.directories))
    unfolding table_of
    new_directories_spelled bytes is small =
        let entries = map (directory_entry at texts) p.directories in
        let spelled = new-directories-spelled at layout p texts ready held bytes is small in
        second-chosen _ _ _ _ _ new
        ((map read_format (directory_formats p), entries), bytes, [], sym (append-nil _), spelled, (refl, refl))

    new_files_spelled : (bytes : List ℕ)
        → file_table_bytes (counted at) layout.is_big p.encoding.format texts p ≡ Ok bytes
        → length bytes < 2 ^ 64
        → (file_table layout p.encoding).Spells bytes
        (map read_format (file_formats p), map file_of_entry (map (file_entry at p texts) p.files))
    unfolding table_of
    new_files_spelled bytes is small =
        let entries = map (file_entry at p texts) p.files in
        let spelled = new-files-spelled at layout p texts ready held bytes is small in
        second-chosen _ _ _ _ _ new
        ((map read_format (file_formats p), entries), bytes, [], sym (append-nil _), spelled, (refl, refl))

    new_back : OneByOne (IsDirectory sections texts)
        (from_zero p unit_entry (map path_of (map (directory_entry at texts) p.directories))) p.directories
    new_back = rw new (new-directories-back at sections p texts are_texts are_line_texts _ ready.directories
        found.directories)

    new_tables : (bytes : List ℕ) → length bytes < 2 ^ 64
        → result_append (directory_table_bytes (counted at) layout.is_big p.encoding.format texts p)
        (file_table_bytes (counted at) layout.is_big p.encoding.format texts p)
        ≡ Ok bytes
        → TablesBack layout unit_entry sections p texts bytes
    new_tables bytes small is =
        let b = both_written _ _ _ is in
        let whole = ap length b.whole ∙ length-append b.first b.rest in
        record {
          directory_formats = map read_format (directory_formats p);
          directories = map path_of (map (directory_entry at texts) p.directories);
          file_formats = map read_format (file_formats p);
          files = map file_of_entry (map (file_entry at p texts) p.files);
          directory_bytes = b.first;
          file_bytes = b.rest;
          whole = b.whole;
          directory_formats_are = λ _. refl;
          file_formats_are = λ _. refl;
          directories_spelled = new_directories_spelled _ b.first_is (omega arith);
          files_spelled = new_files_spelled _ b.rest_is (omega arith);
          directories_back = new_back;
          files_back = new-files-back at sections p texts are_texts are_line_texts p.files new ready.files found.files;
        }

  -- ---- any version

  -- how the tables have to be read
  pub record AreReadWell : Type 0 where
    pub directory : nat_le p.encoding.version 4 ≡ true
        → unit_entry.directory ≡ option_map (bytes_in texts) (slice_get p.directories 0)
    pub ready : nat_le p.encoding.version 4 ≡ false → AreReady p texts
    pub are_texts : AreTexts texts.strings
    pub are_line_texts : AreTexts texts.line_strings
    pub held : nat_le p.encoding.version 4 ≡ false
        → AreOfTables (IsHeld layout.limit p.encoding.format at texts) p texts
    pub found : nat_le p.encoding.version 4 ≡ false → AreOfTables (IsFound sections at texts) p texts

  pub tables-back : (bytes : List ℕ) → AreReadWell → length bytes < 2 ^ 64
      → tables_bytes (counted at) layout.is_big p texts ≡ Ok bytes
      → TablesBack layout unit_entry sections p texts bytes
  tables-back bytes well small is =
      by (nat_le p.encoding.version 4) refl (result_append (directories_bytes p.directories) (files_bytes p.files))
      (result_append (directory_table_bytes (counted at) layout.is_big p.encoding.format texts p)
      (file_table_bytes (counted at) layout.is_big p.encoding.format texts p))
      refl
      refl is
    where
      by : (b : Bool) → nat_le p.encoding.version 4 ≡ b → (r s : Result (List ℕ) Error)
          → r ≡ result_append (directories_bytes p.directories) (files_bytes p.files)
          → s
          ≡ result_append (directory_table_bytes (counted at) layout.is_big p.encoding.format texts p)
          (file_table_bytes (counted at) layout.is_big p.encoding.format texts p)
          → (if b then r else s) ≡ Ok bytes → TablesBack layout unit_entry sections p texts bytes
      by true old r s first second is = old_tables old bytes (well.directory old) (sym first ∙ is)
      by false new r s first second is =
          new_tables new (well.ready new) well.are_texts well.are_line_texts (well.held new) (well.found new) bytes
          small (sym second ∙ is)
