-- The files of a conversion after a read: those that were there stay, and at the end, or where a
-- read is refused for another cause than `OutOfMemory`, all are there that its source defines
-- before. And the program can be written, whatever was read.
use Rattle.std.specs.Prelude.{◌≡◌, if◌then◌else◌}
use Rattle.gimli_write.specs
use specs.Prelude.{ℕ, is_some, List, texts_in, CanWrite}
use Rattle.gimli_build.specs.Tables.{keys_of, Keeps}
use specs.convert.SourceTables.{SourceTables, TablesAndTexts, tables_with}
use specs.convert.TablesAtEnd.{tables_at_end, tables_after_row}
use specs.convert.Conversion.{Conversion, Progress, version_of_source}

-- a file that was there keeps its id, and its number in the source; the ids of directories stay
pub record KeepsFiles (old new : SourceTables) : Type 0 where
  pub files : Keeps (keys_of old.program.files) (keys_of new.program.files)
  pub numbers : Keeps old.file_ids new.file_ids
  pub directories : new.directory_ids ≡ old.directory_ids

-- the tables that what is left of the source leaves
abbrev pub final_tables_of_source : Conversion → List (List ℕ) → TablesAndTexts
final_tables_of_source c line_strings =
    tables_at_end c.sections c.source (tables_with line_strings c.tables)

-- those that a conversion is left with: all files are added that its source defines before it ends,
-- or before the first refusal that isn't `OutOfMemory`. After a refusal they are those that it has
abbrev pub final_tables : Conversion → List (List ℕ) → TablesAndTexts
final_tables c line_strings =
    let now = tables_with line_strings c.tables in
    if is_some c.failed then now
    else tables_after_row (version_of_source c) now c.held (final_tables_of_source c line_strings)

-- a conversion has the tables that it was to be left with
abbrev pub HasFinalTables : Progress → Progress → Type 0
HasFinalTables old new =
    tables_with new.line_strings new.conversion.tables
    ≡ final_tables old.conversion old.line_strings

-- it is still to be left with them
abbrev pub KeepsFinalTables : Progress → Progress → Type 0
KeepsFinalTables old new =
    final_tables new.conversion new.line_strings ≡ final_tables old.conversion old.line_strings

-- a program that could be written still can be
pub record StaysWritable (old : SourceTables) (old_strings : List (List ℕ)) (new : SourceTables)
    (new_strings : List (List ℕ)) : Type 0 where
  pub still : (strings : List (List ℕ)) → CanWrite old.program (texts_in strings old_strings)
      → CanWrite new.program (texts_in strings new_strings)
