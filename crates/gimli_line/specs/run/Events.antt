-- What a program makes and gives: its rows and faults in order, with the files at each.
use Rattle.std.specs.Prelude.{◌≡◌, if◌then◌else◌, ◌∷◌, ◌++◌}
use Rattle.gimli_line.specs
use specs.Prelude
use Prelude.{ℕ, Bool, true, false, not, List, [], map, Option, Some, None, list_any, filter, Error}
use Prelude.{AddressOverflow}
use Prelude.{OrderAndLimit}
use specs.declared.run.instruction.LineInstruction.TheVariants.{DefineFile}
use specs.declared.run.row.LineRow.{LineRow}
use specs.header.Parameters.{Parameters}
use specs.run.Instruction.{Ins, is_end, makes_row}
use specs.header.File.{File}
use specs.header.Header.{Header}
use specs.run.InstructionGrammar.{Decodes}
use specs.run.Registers.{file_at, column_at, isa_at, is_stmt_at, line_at, nearest}
use specs.run.Registers.{discriminator_operand, sets_basic_block}
use specs.run.Registers.{sets_prologue_end, sets_epilogue_begin}
use specs.run.OperationPointer.{pointer_at, is_under_tombstone, overflows}
use specs.run.OperationPointer.{since_last_row}

-- ---- what is made

-- the row of a point, which may be under a tombstone; that of an end has the pointer before it, any
-- other the one after it
abbrev pub row_at : Parameters → List Ins → Ins → LineRow
row_at parameters past i =
    let here = if is_end i then pointer_at parameters past else pointer_at parameters (i ∷ past) in
    let marks = since_last_row parameters past in
    record {
      tombstone = is_under_tombstone parameters past;
      address = here.address;
      op_index = here.op_index;
      file = file_at past;
      line = line_at parameters past i;
      column = column_at past;
      is_stmt = is_stmt_at parameters past;
      basic_block = list_any sets_basic_block marks;
      end_sequence = is_end i;
      prologue_end = list_any sets_prologue_end marks;
      epilogue_begin = list_any sets_epilogue_begin marks;
      isa = isa_at past;
      discriminator = nearest discriminator_operand 0 marks;
    }

-- what a program makes at a point: a row, or a fault
pub data Event : Type 0 where
  row : LineRow → Event
  fault : Error → Event

-- what a point makes: a fault where it overflows, else a row where its instruction makes one
abbrev pub made_at : Parameters → List Ins → Ins → List Event
made_at parameters past i =
    if overflows parameters past i then fault AddressOverflow ∷ []
    else (if makes_row i then row (row_at parameters past i) ∷ [] else [])

-- what the end of a program makes
abbrev pub end_events : Option Error → List Event
end_events None = []
end_events (Some e) = fault e ∷ []

-- an event, and the files of the header at its point
pub record EventWithFiles : Type 0 where
  pub event : Event
  pub files : List File

-- events of a point with these files
abbrev pub with_files : List File → List Event → List EventWithFiles
with_files files events = map (λ e. record { event = e; files = files }) events

-- what these instructions and this end make after a past, with the files at each point
abbrev pub made_after : Parameters → (List Ins → List File) → List Ins → List Ins → Option Error
    → List EventWithFiles
made_after parameters files past [] end = with_files (files past) (end_events end)
made_after parameters files past (i ∷ list) end =
    with_files (files past) (made_at parameters past i)
    ++ made_after parameters files (i ∷ past) list end

-- ---- what is given of it

-- a fault, or a row that isn't under a tombstone
abbrev pub is_given : Event → Bool
is_given (row r) = not r.tombstone
is_given (fault e) = true

-- those that are given, of these that are made
abbrev pub given_of : List EventWithFiles → List EventWithFiles
given_of events = filter (λ t. is_given t.event) events

-- the events among events with their files
abbrev pub events_of : List EventWithFiles → List Event
events_of events = map (λ t. t.event) events

-- what these instructions and this end give after a past, without the files
abbrev pub events_after : Parameters → List Ins → List Ins → Option Error → List Event
events_after parameters past list end =
    events_of (given_of (made_after parameters (λ before. []) past list end))

-- what a program gives that is decoded into these instructions and this end
abbrev pub program_events : Parameters → List Ins → Option Error → List Event
program_events parameters list end = events_after parameters [] list end

-- the events of a program's bytes
pub record Events (layout : OrderAndLimit) (h : Header) (bytes : List ℕ) (events : List Event)
    : Type 0 where
  pub list : List Ins
  pub end : Option Error
  pub decoding : Decodes layout h bytes list end
  pub given : events ≡ program_events h.parameters list end

-- ---- files and ends

-- the files at a point: those of the header, and then those that were defined before it, under a
-- tombstone or not
abbrev pub defined_files : List File → List Ins → List File
defined_files files [] = files
defined_files files (DefineFile f ∷ past) = defined_files files past ++ f ∷ []
defined_files files (i ∷ past) = defined_files files past

-- where the list is complete, they are all there from the start
abbrev pub files_at : Bool → List File → List Ins → List File
files_at appends files past = if appends then defined_files files past else files

-- the instructions before the end of a program, the nearest first
abbrev pub past_at_end : List Ins → List Ins → List Ins
past_at_end past [] = past
past_at_end past (i ∷ list) = past_at_end (i ∷ past) list

-- a row that ends a sequence
abbrev pub ends_sequence : Event → Bool
ends_sequence (row r) = r.end_sequence
ends_sequence (fault e) = false

-- the events through the last row that ends a sequence
abbrev pub through_last_end : List Event → List Event
through_last_end [] = []
through_last_end (e ∷ events) =
    if list_any ends_sequence (e ∷ events) then e ∷ through_last_end events else []
