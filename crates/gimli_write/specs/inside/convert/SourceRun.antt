-- What a run over a source has still to read.
use Rattle.std.specs.Prelude.{◌≡◌, ◌<◌, ◌-◌, ◌&&◌, if◌then◌else◌}
use Rattle.gimli_write.specs
use specs.Prelude
use Prelude.{ℕ, not, List, [], Some, length, IfErr, IfOk, Result, file_seen, Ins, makes_row}
use Prelude.{Sections}
use Prelude.{ConvertError, SourceRow, SourceStep, Done, More, Defines, Made}
use Rattle.gimli_line.specs.declared.run.row.LineRow.{LineRow}
use specs.convert.SourceTables.{TablesAndTexts, file_added}
use specs.convert.Items.{Reading, ends, defines, source_row_offered, stops}
use specs.convert.TablesAtEnd.{unless_refused, tables_at_end, tables_after_row}
use specs.convert.SourceRun.{SourceRun, row_made, reading_upon, reading_left}
use Rattle.gimli_core.specs.Layout.{Seen}

module _ {R Offset Endian : Type 0} (seen : R → Seen) (number : Offset → ℕ) where
  -- what is read from a step on, after which this state is
  abbrev pub step_reading : Sections → TablesAndTexts → SourceStep R Endian Offset → SourceRun
      → Reading
  step_reading sections tables Done s = ends tables
  step_reading sections tables More s = reading_left sections s tables
  step_reading sections tables (Defines f) s =
      defines (reading_upon sections s (file_added sections tables (file_seen seen number f)))
  step_reading sections tables (Made r) s =
      source_row_offered s.header.parameters.encoding.version tables r
      (reading_left sections s tables)

  -- these tables, from a step on after which this state is
  abbrev pub step_tables : Sections → TablesAndTexts → SourceStep R Endian Offset → SourceRun
      → TablesAndTexts
  step_tables sections tables Done s = tables
  step_tables sections tables More s = tables_at_end sections s tables
  step_tables sections tables (Defines f) s =
      unless_refused tables (file_added sections tables (file_seen seen number f)) (λ next.
      tables_at_end sections s next)
  step_tables sections tables (Made r) s =
      tables_after_row s.header.parameters.encoding.version tables (Some r)
      (tables_at_end sections s tables)

-- a row that was made, from where addresses count
abbrev pub source_row : SourceRun → LineRow → SourceRow
source_row s row = record {
  set_address = s.pending;
  address_offset = row.address - s.base;
  row = row;
}

-- the step of an instruction that defines no file
abbrev pub step_made : {R Endian Offset : Type 0} → SourceRun → Ins → SourceStep R Endian Offset
step_made s i = if makes_row i && not s.row.tombstone then Made (row_made s i) else More

-- fewer bytes are unread after a step, and none after the end
abbrev pub Shortens : {R Endian Offset : Type 0} → SourceStep R Endian Offset → SourceRun
    → SourceRun → Type 0
Shortens Done old new = new.unread.bytes ≡ []
Shortens step old new = length new.unread.bytes < length old.unread.bytes

module _ {R Offset Endian : Type 0} (seen : R → Seen) (number : Offset → ℕ) where
  -- a step: what its answer says of what is to be read, and of the tables at the end
  pub record StepsSource (old new : SourceRun)
      (answer : Result (SourceStep R Endian Offset) ConvertError) : Type 0 where
    pub reading : IfOk answer (λ step.
        (sections : Sections) (tables : TablesAndTexts)
        → reading_left sections old tables ≡ step_reading seen number sections tables step new)
    pub refusal : IfErr answer (λ e.
        (sections : Sections) (tables : TablesAndTexts)
        → reading_left sections old tables ≡ stops e)
    pub tables : IfOk answer (λ step.
        (sections : Sections) (tables : TablesAndTexts)
        → tables_at_end sections old tables ≡ step_tables seen number sections tables step new)
    pub stopped : IfErr answer (λ e.
        (sections : Sections) (tables : TablesAndTexts)
        → tables_at_end sections old tables ≡ tables)
    pub shorter : IfOk answer (λ step. Shortens step old new)
    pub header : new.header ≡ old.header
    pub layout : new.unread.layout ≡ old.unread.layout
