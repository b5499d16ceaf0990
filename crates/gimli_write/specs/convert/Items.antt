-- What a conversion reads of a line program: rows and ends, each at its point, found by looking
-- back (DWARF 5, sections 6.2.2 and 6.2.5). The past of a point is the list of the instructions
-- before it, the nearest first.
use Rattle.std.specs.Prelude.{◌≡◌, ◌-◌, ◌&&◌, if◌then◌else◌, ◌∷◌}
use Rattle.gimli_write.specs
use specs.Prelude
use Prelude.{ℕ, Bool, true, false, not, nat_eq, nat_le, List, [], slice_get, Option, Some, None}
use Prelude.{ok_or, Result, Ok, Err, OrderAndLimit, Error, Header, Parameters, Ins, makes_row}
use Prelude.{Decodes, is_under_tombstone, overflows, row_at, Sections, LineRow, ConvertError, Read}
use Prelude.{InvalidFileIndex, SourceRow, ConvertLineRow, SetAddress, EndSequence}
use Rattle.gimli_core.specs.declared.error.Error.TheVariants.{AddressOverflow}
use Rattle.gimli_line.specs.run.Registers.{sequence, nearest}
use Rattle.gimli_line.specs.declared.run.instruction.LineInstruction.TheVariants.{
  DefineFile,
  SetAddress as SetAddressIns,
}
use specs.convert.Texts.{◌>>=◌}
use specs.convert.SourceTables.{TablesAndTexts, file_added}
use specs.declared.convert.rows.ConvertLineRow.TheVariants.{Row}

-- ---- set addresses

-- the address that an instruction sets, if it sets one
abbrev pub address_operand : Ins → Option ℕ
address_operand (SetAddressIns a) = Some a
address_operand i = None

-- the address that was last set in the sequence of a point, from which offsets count; else 0
abbrev pub base_at : List Ins → ℕ
base_at past = nearest address_operand 0 (sequence past)

-- the address that was last set after the last point that makes a row, if one was
abbrev pub pending_address : List Ins → Option ℕ
pending_address [] = None
pending_address (i ∷ past) =
    if makes_row i then None
    else (elim (address_operand i) [ Some a ↦ Some a | None ↦ pending_address past ])

-- ---- rows

-- the row of a point
abbrev pub source_row : Parameters → List Ins → Ins → SourceRow
source_row parameters past i =
    let row = row_at parameters past i in
    record {
      set_address = pending_address past;
      address_offset = row.address - base_at past;
      row = row;
    }

-- the id of a file number; up to version 4 of the source none has number 0
abbrev pub file_id : ℕ → TablesAndTexts → ℕ → Result ℕ ConvertError
file_id version tables n =
    if nat_le version 4 && nat_eq n 0 then Err InvalidFileIndex
    else ok_or (slice_get tables.file_ids n) InvalidFileIndex

-- a row of the source as one that is built, with this file
abbrev pub row_in : SourceRow → ℕ → LineRow
row_in r file = record {
  address_offset = r.address_offset;
  op_index = r.row.op_index;
  file = file;
  line = r.row.line;
  column = r.row.column;
  discriminator = r.row.discriminator;
  is_statement = r.row.is_stmt;
  basic_block = r.row.basic_block;
  prologue_end = r.row.prologue_end;
  epilogue_begin = r.row.epilogue_begin;
  isa = r.row.isa;
}

-- the same with the id of its own file, for a source of this version
abbrev pub built_row : ℕ → TablesAndTexts → SourceRow → Result LineRow ConvertError
built_row version tables r = file_id version tables r.row.file >>= λ file. Ok (row_in r file)

-- ---- what is read

-- what is read of a source, to its end or to what stops it
pub data Reading : Type 0 where
  -- nothing more; the tables are then these
  ends : TablesAndTexts → Reading
  -- a refusal
  stops : ConvertError → Reading
  -- the definition of a file, and what is read after it
  defines : Reading → Reading
  -- an address, a row or an end, with the tables at its point, and what is read after it
  offers : ConvertLineRow → TablesAndTexts → Reading → Reading

-- an address, if there is one, and what is read after it
abbrev pub address_offered : Option ℕ → TablesAndTexts → Reading → Reading
address_offered (Some a) tables rest = offers (SetAddress a) tables rest
address_offered None tables rest = rest

-- a row, which may be refused, and what is read after it
abbrev pub row_offered : Result LineRow ConvertError → TablesAndTexts → Reading → Reading
row_offered (Ok row) tables rest = offers (Row row) tables rest
row_offered (Err e) tables rest = stops e

-- a row of the source, or an end, and what is read after it
abbrev pub row_or_end_offered : ℕ → TablesAndTexts → SourceRow → Reading → Reading
row_or_end_offered version tables r rest =
    if r.row.end_sequence then offers (EndSequence r.address_offset) tables rest
    else row_offered (built_row version tables r) tables rest

-- a row of the source, after the address that was set for it
abbrev pub source_row_offered : ℕ → TablesAndTexts → SourceRow → Reading → Reading
source_row_offered version tables r rest =
    address_offered r.set_address tables (row_or_end_offered version tables r rest)

-- what a point gives, and what is read after it: a refusal where it overflows, else its row where
-- it makes one and isn't under a tombstone
abbrev pub reading_at : Parameters → TablesAndTexts → List Ins → Ins → Reading → Reading
reading_at parameters tables past i rest =
    if overflows parameters past i then stops (Read AddressOverflow)
    else (if makes_row i && not (is_under_tombstone parameters past)
    then source_row_offered parameters.encoding.version tables (source_row parameters past i) rest
    else rest)

-- what is read at the end of a program, or at the fault that it stops at
abbrev pub end_reading : Option Error → TablesAndTexts → Reading
end_reading None tables = ends tables
end_reading (Some e) tables = stops (Read e)

-- tables that may be refused, and what is read with them
abbrev pub reading_with : Result TablesAndTexts ConvertError → (TablesAndTexts → Reading) → Reading
reading_with (Ok tables) next = next tables
reading_with (Err e) next = stops e

-- ---- files that the program defines

-- the tables after an instruction: a file that it defines is added
abbrev pub tables_after_definition : Sections → TablesAndTexts → Ins
    → Result TablesAndTexts ConvertError
tables_after_definition sections tables (DefineFile f) = file_added sections tables f
tables_after_definition sections tables i = Ok tables

-- the tables at a point: the first ones, and the files that were defined before it, under a
-- tombstone or not
abbrev pub tables_at : Sections → TablesAndTexts → List Ins → Result TablesAndTexts ConvertError
tables_at sections first [] = Ok first
tables_at sections first (i ∷ past) =
    tables_at sections first past >>= λ tables. tables_after_definition sections tables i

-- what is read after an instruction, where the file that it defines comes first
abbrev pub with_definition : Ins → Reading → Reading
with_definition (DefineFile f) rest = defines rest
with_definition i rest = rest

-- a file is defined before anything else is read
abbrev pub defines_first : Reading → Bool
defines_first (defines rest) = true
defines_first reading = false

-- what is read after the files that are defined first
abbrev pub after_definitions : Reading → Reading
after_definitions (defines rest) = after_definitions rest
after_definitions reading = reading

-- ---- programs

-- what is read of these instructions and this end after a past
abbrev pub reading_after : Sections → Parameters → TablesAndTexts → List Ins → List Ins
    → Option Error → Reading
reading_after sections parameters first past [] end =
    reading_with (tables_at sections first past) (end_reading end)
reading_after sections parameters first past (i ∷ list) end =
    reading_with (tables_at sections first past) (λ tables. reading_at parameters tables past i
    (with_definition i (reading_after sections parameters first (i ∷ past) list end)))

-- what is read of a program's bytes, with these tables at its start
pub record ReadsItems (layout : OrderAndLimit) (sections : Sections) (h : Header)
    (first : TablesAndTexts) (bytes : List ℕ) (reading : Reading) : Type 0 where
  pub list : List Ins
  pub end : Option Error
  pub decoding : Decodes layout h bytes list end
  pub given : reading ≡ reading_after sections h.parameters first [] list end
