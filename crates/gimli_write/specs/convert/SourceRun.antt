-- What a run over a source has still to read.
use Rattle.std.specs.Prelude.{◌-◌, ◌&&◌, if◌then◌else◌, ◌∷◌}
use Rattle.gimli_write.specs
use specs.Prelude
use Prelude.{ℕ, not, List, [], Option, Some, None, unwrap_or, Result, Ok, Error, Header, Ins}
use Prelude.{is_end, makes_row, decoded_at, Sections, ConvertError, Read, SourceRow}
use Rattle.gimli_core.specs.declared.error.Error.TheVariants.{AddressOverflow}
use Rattle.gimli_line.specs.declared.run.row.LineRow.{LineRow}
use Rattle.gimli_line.specs.run.Machine.{initial, step_of, is_refused, next_registers}
use Rattle.gimli_line.specs.run.Unread.{Unread}
use specs.convert.SourceTables.{TablesAndTexts}
use specs.convert.Items.{
  Reading,
  stops,
  address_operand,
  source_row_offered,
  end_reading,
  reading_with,
  tables_after_definition,
  with_definition,
}

-- a point of a source's program
pub record SourceRun : Type 0 where
  pub header : Header
  -- the registers, ready for the next instruction
  pub row : LineRow
  -- the address that was last set in the sequence, else 0
  pub base : ℕ
  -- the address that was set after the last point that made a row
  pub pending : Option ℕ
  -- the instructions to come
  pub unread : Unread

-- the start of a program
abbrev pub start_of_source : Header → Unread → SourceRun
start_of_source h unread = record {
  header = h;
  row = initial h.parameters;
  base = 0;
  pending = None;
  unread = unread;
}

-- ---- one instruction

-- the row that an instruction makes
abbrev pub row_made : SourceRun → Ins → SourceRow
row_made s i =
    let row = step_of s.header.parameters i s.row in
    record { set_address = s.pending; address_offset = row.address - s.base; row = row }

-- the address that offsets count from after an instruction
abbrev pub base_after : Ins → ℕ → ℕ
base_after i base = if is_end i then 0 else unwrap_or (address_operand i) base

-- the address that was set after the last point that made a row, after an instruction
abbrev pub pending_after : Ins → Option ℕ → Option ℕ
pending_after i pending =
    if makes_row i then None else (elim (address_operand i) [ Some a ↦ Some a | None ↦ pending ])

-- the state after an instruction, apart from what is unread
abbrev pub state_after : Ins → SourceRun → SourceRun
state_after i s = record s {
  row = next_registers s.header.parameters i s.row;
  base = base_after i s.base;
  pending = pending_after i s.pending;
}

-- what an instruction gives, and what is read after it
abbrev pub instruction_reading : SourceRun → TablesAndTexts → Ins → Reading → Reading
instruction_reading s tables i rest =
    if is_refused s.header.parameters i s.row then stops (Read AddressOverflow)
    else (if makes_row i && not s.row.tombstone
    then source_row_offered s.header.parameters.encoding.version tables (row_made s i) rest
    else rest)

-- ---- all that is unread

-- what is read of these instructions and this end, with tables that may be refused
abbrev pub reading_from : Sections → SourceRun → Result TablesAndTexts ConvertError → List Ins
    → Option Error → Reading
reading_from sections s there [] end = reading_with there (end_reading end)
reading_from sections s there (i ∷ list) end =
    reading_with there (λ tables. instruction_reading s tables i (with_definition i
    (reading_from sections (state_after i s) (tables_after_definition sections tables i) list end)))

-- what is still to be read
abbrev pub reading_upon : Sections → SourceRun → Result TablesAndTexts ConvertError → Reading
reading_upon sections s there =
    let c = decoded_at s.unread.layout s.header s.unread.bytes in
    reading_from sections s there c.0 c.1

-- the same, with tables that aren't refused
abbrev pub reading_left : Sections → SourceRun → TablesAndTexts → Reading
reading_left sections s tables = reading_upon sections s (Ok tables)
