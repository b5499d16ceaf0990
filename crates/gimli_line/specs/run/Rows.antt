-- What a row iterator still makes and gives.
use Rattle.std.specs.Prelude.{◌≡◌, ◌≢◌, ◌⊎◌, ◌∷◌, ◌++◌}
use Rattle.gimli_line.specs.Prelude.{ℕ, Bool, true, false, List, [], All, Option, Some, None}
use Rattle.gimli_line.specs.Prelude.{Result, Ok, Err, Error, AddressOverflow, OutOfMemory, Seen}
use Rattle.std.specs.Borrow.{Bor}
use Rattle.gimli_line.specs.declared.run.row.LineRow.{LineRow}
use Rattle.gimli_line.specs.header.File.{File}
use Rattle.gimli_line.specs.header.Header.{Header, SeenHeader, without_files}
use Rattle.gimli_line.specs.header.Orders.{HeaderSource, source_of, AreOneOrder, KeepsSource}
use Rattle.gimli_line.specs.run.Instruction.{Ins, defines_file}
use Rattle.gimli_line.specs.run.InstructionGrammar.{SpellsInstruction, decoded_at}
use Rattle.gimli_line.specs.run.Events.{Event, row, fault, EventWithFiles, given_of}
use Rattle.gimli_line.specs.run.Machine.{initial, made_from}
use Rattle.gimli_line.specs.run.Unread.{Unread, whole_program}
use Rattle.gimli_line.specs.run.Passing.{RunState}
use Rattle.gimli_line.specs.run.Passing.{with_reset_row, files_from, PassesOver}
use Rattle.gimli_line.specs.run.EventsWithFiles.{EventsWithFiles, FilesAtEnd}

-- ---- what is still to come

-- rows and faults that are still to be made where the registers were reset, each with the files of
-- the header at its point
abbrev pub live_made : RunState → List EventWithFiles
live_made a =
    let c = decoded_at a.unread.layout a.fixed a.unread.bytes in
    made_from a.appends a.fixed.parameters a.row a.files c.0 c.1

-- those of them that are given
abbrev pub live_events : RunState → List EventWithFiles
live_events a = given_of (live_made a)

-- what is still to be made
abbrev pub made_left : RunState → List EventWithFiles
made_left a = live_made (with_reset_row a)

-- what is still to be given
abbrev pub events_left : RunState → List EventWithFiles
events_left a = live_events (with_reset_row a)

-- the files after the last instruction that is still to come
abbrev pub files_at_end : RunState → List File
files_at_end a = files_from a.appends a.files (decoded_at a.unread.layout a.fixed a.unread.bytes).0

-- an event, and the files that the header has then
abbrev pub event_of : Event → RunState → EventWithFiles
event_of e a = record { event = e; files = a.files }

-- rows at the start of a sequence
abbrev pub start_of_run : Bool → Header → HeaderSource → Unread → RunState
start_of_run appends h source unread = record {
  fixed = without_files h;
  files = h.files;
  appends = appends;
  source = source;
  row = initial h.parameters;
  unread = unread;
}

-- rows of a whole program, from its start to its end
abbrev pub whole_run : Header → HeaderSource → RunState
whole_run h source = start_of_run true h source (whole_program h source.layout)

-- where files are added, the instructions to come have this order
abbrev pub AddsInOrder : RunState → Bool → Type 0
AddsInOrder a order = a.appends ≡ true → a.unread.layout.is_big ≡ order

-- the readers of the header have the order of its program, and so has what is added
pub record IsOfOneOrder (a : RunState) : Type 0 where
  pub readers : AreOneOrder a.source.layout.is_big a.source.orders
  pub unread : AddsInOrder a a.source.layout.is_big

-- an event is a row
abbrev pub IsRow : EventWithFiles → Type 0
IsRow t = (r : LineRow) × (t.event ≡ row r)

-- all files are there, and only rows are to come: such a run is never refused
pub record GivesRowsAlone (a : RunState) : Type 0 where
  pub complete : a.appends ≡ false
  pub rows : All IsRow (events_left a)

-- the header is the same but for its files, and it comes from the same source
pub record KeepsRun (old new : RunState) : Type 0 where
  pub fixed : new.fixed ≡ old.fixed
  pub appends : new.appends ≡ old.appends
  pub unread : new.unread.layout ≡ old.unread.layout
  pub source : KeepsSource (AddsInOrder old) old.source new.source

-- and a run that is never refused stays one
pub record KeepsHeader (old new : RunState) : Type 0 where
  pub run : KeepsRun old new
  pub alone : GivesRowsAlone old → GivesRowsAlone new

-- a header is that of a run but for its files, and it comes from the same source
pub record SeesHeader {R Offset Endian : Type 0} (seen : R → Seen) (number : Offset → ℕ)
    (a : RunState) (h : SeenHeader R Offset Endian) : Type 0 where
  pub fixed : without_files h.meaning ≡ a.fixed
  pub source : KeepsSource (AddsInOrder a) a.source (source_of seen number h)

-- ---- an answer; `live` is `live_events` or `live_made`

-- a row was the next to come, and these are the files of its point; those at the end are still the
-- same
abbrev pub RowIs : (RunState → List EventWithFiles) → RunState → RunState → LineRow → List File
    → Type 0
RowIs live old new r files =
    (live (with_reset_row old)
    ≡ record { event = row r; files = files } ∷ live (with_reset_row new))
    × (new.files ≡ files) × (files_at_end new ≡ files_at_end old)

-- nothing was to come; no bytes are left, and the files are those at the end
abbrev pub EndIs : (RunState → List EventWithFiles) → RunState → RunState → Type 0
EndIs live old new =
    (live (with_reset_row old) ≡ []) × (live (with_reset_row new) ≡ []) × (new.unread.bytes ≡ [])
    × (new.files ≡ files_at_end old)

-- memory was missing for a file, whose definition comes after instructions of which nothing came;
-- the files are those of its point, and nothing comes after it
pub record WantsMemory (live : RunState → List EventWithFiles) (old new : RunState) : Type 0 where
  pub point : RunState
  pub passed : PassesOver old point []
  pub kept : live old ≡ live point
  pub definition : Ins
  pub front : List ℕ
  pub rest : List ℕ
  pub parts : point.unread.bytes ≡ front ++ rest
  pub spelled : SpellsInstruction point.unread.layout point.fixed front definition
  pub defines : defines_file definition ≡ true
  pub appends : new.appends ≡ true
  pub files : new.files ≡ point.files
  pub none : made_left new ≡ []
  pub empty : new.unread.bytes ≡ []

-- a fault was the next to come; the files at the end are still the same, and no bytes are left,
-- except where an address overflows
abbrev pub FaultComes : (RunState → List EventWithFiles) → RunState → RunState → Error → Type 0
FaultComes live old new e =
    (live old ≡ event_of (fault e) new ∷ live (with_reset_row new))
    × (files_at_end new ≡ files_at_end old) × (e ≢ AddressOverflow → new.unread.bytes ≡ [])

-- a refusal: `OutOfMemory` for a file, or a fault
abbrev pub FaultIs : (RunState → List EventWithFiles) → RunState → RunState → Error → Type 0
FaultIs live old new e = ((e ≡ OutOfMemory) × WantsMemory live old new) ⊎ FaultComes live old new e

-- an answer of `next_row` or `next_any_row` is what was next to come: the end, a row with a header
-- that has the files of its point, or a refusal
abbrev pub NextIs : {R Offset Endian : Type 0} → (RunState → List EventWithFiles) → RunState
    → RunState
    → Result (Option (Bor (SeenHeader R Offset Endian) × Bor LineRow)) Error → Type 0
NextIs live old new (Ok None) = EndIs live old new
NextIs live old new (Ok (Some found)) = RowIs live old new found.1.now found.0.now.meaning.files
NextIs live old new (Err e) = FaultIs live (with_reset_row old) new e

-- the events to come are those of the instructions, with the files of the header at each
abbrev pub GivesEvents : Bool → Header → Unread → RunState → Type 0
GivesEvents appends h unread rows =
    EventsWithFiles unread.layout appends h unread.bytes (events_left rows)

-- the files at the end are those of the header and those that the instructions define
abbrev pub GivesFiles : Bool → Header → Unread → RunState → Type 0
GivesFiles appends h unread rows =
    FilesAtEnd unread.layout appends h unread.bytes (files_at_end rows)
