-- The tables that a source leaves: the files that it defines are added, up to its end or to what is
-- refused.
use Rattle.std.specs.Prelude.{◌&&◌, ◌||◌, if◌then◌else◌, ◌∷◌}
use Rattle.gimli_write.specs
use specs.Prelude
use Prelude.{ℕ, Bool, not, List, [], Option, Some, None, Result}
use Prelude.{Ok, Err, is_err, Ins, makes_row, decoded_at, Sections, ConvertError, SourceRow}
use Rattle.gimli_line.specs.run.Machine.{is_refused}
use specs.convert.SourceTables.{TablesAndTexts}
use specs.convert.Items.{file_id, tables_after_definition}
use specs.convert.SourceRun.{SourceRun, row_made, state_after}

-- no file has the number of a row; an end has no file
abbrev pub lacks_file : ℕ → TablesAndTexts → SourceRow → Bool
lacks_file version tables r = not r.row.end_sequence && is_err (file_id version tables r.row.file)

-- an instruction is refused, or the row that it gives
abbrev pub refuses : SourceRun → TablesAndTexts → Ins → Bool
refuses s tables i =
    is_refused s.header.parameters i s.row || (makes_row i && not s.row.tombstone
    && lacks_file s.header.parameters.encoding.version tables (row_made s i))

-- these tables where a step is refused, else what comes after it
abbrev pub unless_refused : TablesAndTexts → Result TablesAndTexts ConvertError
    → (TablesAndTexts → TablesAndTexts) → TablesAndTexts
unless_refused tables (Ok next) more = more next
unless_refused tables (Err e) more = tables

-- the tables after these instructions, or at the first that is refused
abbrev pub tables_after : Sections → SourceRun → TablesAndTexts → List Ins → TablesAndTexts
tables_after sections s tables [] = tables
tables_after sections s tables (i ∷ list) =
    if refuses s tables i then tables
    else unless_refused tables (tables_after_definition sections tables i) (λ next.
    tables_after sections (state_after i s) next list)

-- the tables after all that is unread, or at what is refused of it
abbrev pub tables_at_end : Sections → SourceRun → TablesAndTexts → TablesAndTexts
tables_at_end sections s tables =
    tables_after sections s tables (decoded_at s.unread.layout s.header s.unread.bytes).0

-- the same where a row, if there is one, comes first
abbrev pub tables_after_row : ℕ → TablesAndTexts → Option SourceRow → TablesAndTexts
    → TablesAndTexts
tables_after_row version tables (Some r) rest = if lacks_file version tables r then tables else rest
tables_after_row version tables None rest = rest
