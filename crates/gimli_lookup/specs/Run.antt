-- The sequences of a program: what a lookup keeps of them, and what one run finds among them.
use Rattle.std.specs.Prelude.{◌≡◌, ◌⊎◌, ℕ, true, List, map, Option, flat_map}
use Rattle.std.specs.List.{list_any}
use Rattle.gimli_core.specs.declared.error.Error.{Error}
use Rattle.gimli_core.specs.declared.error.Error.TheVariants.{OutOfMemory}
use Rattle.gimli_core.specs.Layout.{OrderAndLimit}
use Rattle.gimli_line.specs.declared.run.row.LineRow.{LineRow}
use Rattle.gimli_line.specs.header.Header.{Header}
use Rattle.gimli_line.specs.run.Events.{row, Events, Event, through_last_end}
use Rattle.gimli_line.specs.run.Instruction.{Ins, defines_file}
use Rattle.gimli_line.specs.run.InstructionGrammar.{Decodes}
use Rattle.gimli_line.specs.run.Sequences.{HasFirstFault, Sequence}
use Rattle.gimli_lookup.specs.Cut.{AreCutAtEnds}
use Rattle.gimli_lookup.specs.FirstPair.{first_pair_of}
use Rattle.gimli_line.specs.header.Orders.{HeaderSource}

-- a program gives rows and no fault, and these are the rows of each of its sequences
pub record AreRowsOfSequences (layout : OrderAndLimit) (h : Header)
    (sequences : List (List LineRow))
    : Type 0 where
  pub rows : List LineRow
  pub given : Events layout h h.program (map row rows)
  pub cut : AreCutAtEnds rows sequences

-- such a program has sequences, and this is found in them
pub record IsFoundInRun (layout : OrderAndLimit) (h : Header) (a : ℕ)
    (found : Option (LineRow × LineRow)) : Type 0 where
  pub sequences : List (List LineRow)
  pub are : AreRowsOfSequences layout h sequences
  pub found_is : found ≡ first_pair_of a sequences

-- an instruction of the program defines a file
pub record DefinesFile (layout : OrderAndLimit) (h : Header) : Type 0 where
  pub list : List Ins
  pub end : Option Error
  pub decoding : Decodes layout h h.program list end
  pub defines : list_any defines_file list ≡ true

-- the program is refused by its first fault, or there was no memory for a file that it defines
abbrev pub IsRefusedInRun : OrderAndLimit → Header → Error → Type 0
IsRefusedInRun layout h e =
    HasFirstFault layout h e ⊎ ((e ≡ OutOfMemory) × DefinesFile layout h)

-- the header with all files, where it comes from, the sequences, and the rows of each
pub record Kept : Type 0 where
  pub header : Header
  pub source : HeaderSource
  pub parts : List Sequence
  pub rows : List (List LineRow)

-- the rows, one sequence after the other, are those of a program through its last end
pub record AreRowsThroughLastEnd (layout : OrderAndLimit) (h : Header) (rows : List (List LineRow))
    : Type 0 where
  pub events : List Event
  pub given : Events layout h h.program events
  pub joined : flat_map (map row) rows ≡ through_last_end events
