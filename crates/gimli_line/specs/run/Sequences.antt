-- The sequences of a program, each run by itself.
use Rattle.std.specs.Prelude.{◌≡◌, ◌∷◌, ◌++◌, ◌≤◌}
use Rattle.gimli_line.specs.Prelude.{ℕ, true, false, List, [], map, flat_map, Option, None}
use Rattle.gimli_line.specs.Prelude.{AllByRecursion, Error, OrderAndLimit}
use Rattle.gimli_line.specs.declared.run.row.LineRow.{LineRow}
use Rattle.gimli_line.specs.declared.run.sequences.LineSequence.{LineSequence}
use Rattle.gimli_line.specs.header.Header.{Header}
use Rattle.gimli_line.specs.run.Instruction.{Ins, is_end}
use Rattle.gimli_line.specs.run.InstructionGrammar.{Decodes}
use Rattle.gimli_line.specs.run.Events.{Event, row, fault, Events, program_events, defined_files}
use Rattle.gimli_line.specs.run.Events.{past_at_end, through_last_end}
pub use Rattle.gimli_line.specs.run.Events.{events_of}
use Rattle.gimli_line.specs.run.Unread.{Unread}

-- a sequence: the addresses that it names, and the instructions that give its rows
pub record Sequence : Type 0 where
  pub start : ℕ
  pub end : ℕ
  pub unread : Unread

-- a sequence of the code
abbrev pub sequence_of : {A B C : Type 0} → LineSequence A B C → Sequence
sequence_of s = record { start = s.start; end = s.end; unread = s.instructions }

-- the address of the first row; 0 where there is none
abbrev pub first_address : List LineRow → ℕ
first_address [] = 0
first_address (r ∷ rows) = r.address

-- rows of one sequence: one end row, which is the last and has the end address; the first has the
-- start address
pub record IsSequence (events : List Event) (start end : ℕ) : Type 0 where
  pub rows : List LineRow
  pub last : LineRow
  pub given : events ≡ map row rows ++ row last ∷ []
  pub unended : AllByRecursion (λ r. r.end_sequence ≡ false) rows
  pub ended : last.end_sequence ≡ true
  pub start_is : start ≡ first_address rows
  pub end_is : end ≡ last.address

-- the run of a sequence over a header: what its bytes give as a program of their own, which is the
-- rows of one sequence
pub record HasRun (h : Header) (s : Sequence) (run : List Event) : Type 0 where
  pub given : Events s.unread.layout h s.unread.bytes run
  pub is : IsSequence run s.start s.end

-- the runs of sequences, one for each
abbrev pub HaveRuns : Header → List Sequence → List (List Event) → Type 0
HaveRuns h [] [] = Unit {0}
HaveRuns h (s ∷ parts) (run ∷ runs) = HasRun h s run × HaveRuns h parts runs
HaveRuns h parts runs = ⊥

-- the bytes of a sequence give only rows over a header, so that a run of them is never refused
pub record ResumesToRows (h : Header) (s : Sequence) : Type 0 where
  pub rows : List LineRow
  pub given : Events s.unread.layout h s.unread.bytes (map row rows)

-- the sequences of a program with the header h, over the complete header c: the program has no
-- fault, c has its files, each sequence has a run of its own, and all runs in order are that of the
-- program through its last end
pub record AreSequences (layout : OrderAndLimit) (h c : Header) (parts : List Sequence)
    : Type 0 where
  pub list : List Ins
  pub decoding : Decodes layout h h.program list None
  pub rows : List LineRow
  pub given : program_events h.parameters list None ≡ map row rows
  pub files : c ≡ record h { files = defined_files h.files (past_at_end [] list) }
  pub runs : List (List Event)
  pub each : HaveRuns c parts runs
  pub joined : flat_map (λ run. run) runs ≡ through_last_end (program_events h.parameters list None)

-- the first fault of a program, after rows
pub record HasFirstFault (layout : OrderAndLimit) (h : Header) (e : Error) : Type 0 where
  pub list : List Ins
  pub end : Option Error
  pub decoding : Decodes layout h h.program list end
  pub rows : List LineRow
  pub rest : List Event
  pub given : program_events h.parameters list end ≡ map row rows ++ fault e ∷ rest

-- no row has an address below the one before it, nor the first below `low`
abbrev pub NeverBelow : ℕ → List Event → Type 0
NeverBelow low [] = Unit {0}
NeverBelow low (row r ∷ events) = (low ≤ r.address) × NeverBelow r.address events
NeverBelow low (fault e ∷ events) = NeverBelow low events

-- instructions of which none but the last is an end
abbrev pub AreOneSequence : List Ins → Type 0
AreOneSequence [] = Unit {0}
AreOneSequence (i ∷ []) = Unit {0}
AreOneSequence (i ∷ j ∷ list) = (is_end i ≡ false) × AreOneSequence (j ∷ list)
