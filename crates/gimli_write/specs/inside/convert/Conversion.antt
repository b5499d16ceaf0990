-- A conversion, as far as it got, and what it has still to read.
use Rattle.std.specs.Prelude.{◌≡◌, ◌≢◌}
use Rattle.gimli_write.specs
use specs.Prelude
use Prelude.{ℕ, true, false, List, Option, Some, None, Result, IfErr, IfOk, OnErr, OnOk, SourceRow}
use Prelude.{ConvertError, OutOfMemory, ConvertLineRow}
use specs.convert.SourceTables.{TablesAndTexts, tables_with}
use specs.convert.Items
use Items.{Reading, ends, stops, offers, address_offered, row_or_end_offered, after_definitions}
use specs.convert.TablesAtEnd.{lacks_file, tables_after_row}
use specs.convert.Conversion.{Conversion, Progress, tables_of, version_of_source}
use specs.convert.KeptTables.{final_tables_of_source}

-- what a row of the source, with the address that was set for it, or the end, leaves of what is
-- read
abbrev pub TakesRow : ℕ → Reading → Option SourceRow → TablesAndTexts → Reading → Type 0
TakesRow version old (Some r) tables rest =
    after_definitions old
    ≡ address_offered r.set_address tables (row_or_end_offered version tables r rest)
TakesRow version old None tables rest = (after_definitions old ≡ ends tables) × (rest ≡ ends tables)

-- a row or an end of the source is handed out, or refused, whatever is read after it; it is refused
-- exactly where no file has its number
pub record HandsRow (c : Conversion) (r : SourceRow) (result : Result ConvertLineRow ConvertError)
    : Type 0 where
  pub ok : IfOk result (λ offered. (line_strings : List (List ℕ)) (rest : Reading)
      → row_or_end_offered (version_of_source c) (tables_of c line_strings) r rest
      ≡ offers offered (tables_of c line_strings) rest)
  pub err : IfErr result (λ e. (line_strings : List (List ℕ)) (rest : Reading)
      → row_or_end_offered (version_of_source c) (tables_of c line_strings) r rest ≡ stops e)
  pub found : OnOk result ((line_strings : List (List ℕ))
      → lacks_file (version_of_source c) (tables_with line_strings c.tables) r ≡ false)
  pub lacks : OnErr result ((line_strings : List (List ℕ))
      → lacks_file (version_of_source c) (tables_with line_strings c.tables) r ≡ true)

-- the tables of a conversion, with the texts that it is lent
abbrev pub tables_here : Progress → TablesAndTexts
tables_here p = tables_with p.line_strings p.conversion.tables

-- those that its source leaves
abbrev pub tables_of_source : Progress → TablesAndTexts
tables_of_source p = final_tables_of_source p.conversion p.line_strings

-- after a row is taken of the source, it is still to leave the same tables; at the end, or where it
-- is refused for another cause than memory, these are there
pub record LeavesSource (old : Progress) (result : Result (Option SourceRow) ConvertError)
    (new : Progress)
    : Type 0 where
  pub last : IfOk result (λ row.
      tables_after_row (version_of_source new.conversion) (tables_here new) row
      (tables_of_source new) ≡ tables_of_source old)
  pub ended : IfOk result (λ row. row ≡ None → tables_here new ≡ tables_of_source old)
  pub stopped : IfErr result (λ e. e ≢ OutOfMemory → tables_here new ≡ tables_of_source old)
