-- What a lookup over a section keeps of a run: of each sequence that is complete before the first
-- fault, the rows that stand, in parts. A sequence ends where the program ends it, under a
-- tombstone too: so code that a linker dropped is never joined with code that it kept.
use Rattle.std.specs.Prelude.{◌≡◌, ℕ, Bool, true, false, not, ◌&&◌, nat_le, List, [], ◌∷◌, ◌++◌}
use Rattle.std.specs.Prelude.{map, flat_map, Option, Some, None}
use Rattle.std.specs.List.{filter, slice_split}
use Rattle.gimli_core.specs.Layout.{OrderAndLimit}
use Rattle.gimli_core.specs.declared.error.Error.{Error}
use Rattle.gimli_line.specs.declared.run.row.LineRow.{LineRow}
use Rattle.gimli_line.specs.header.File.{File}
use Rattle.gimli_line.specs.header.Header.{Header}
use Rattle.gimli_line.specs.run.Events.{row, fault}
use Rattle.gimli_line.specs.run.EventsWithFiles.{EventWithFiles, Makes, FilesAtEnd}
use Rattle.gimli_line.specs.run.Sequences.{events_of}
use Rattle.gimli_lookup.specs.Cut.{AreCutAtEnds}

-- a program makes these rows and then its first fault, at which these files are defined
pub record HasFaultAfter (layout : OrderAndLimit) (h : Header) (rows : List LineRow) (e : Error)
    (files : List File) : Type 0 where
  pub front : List EventWithFiles
  pub rest : List EventWithFiles
  pub made : Makes layout true h h.program
      (front ++ record { event = fault e; files = files } ∷ rest)
  pub rows_are : events_of front ≡ map row rows

-- a program makes these rows and has no fault, and these files are defined at its end
pub record HasNoFault (layout : OrderAndLimit) (h : Header) (rows : List LineRow)
    (files : List File)
    : Type 0 where
  pub events : List EventWithFiles
  pub made : Makes layout true h h.program events
  pub rows_are : events_of events ≡ map row rows
  pub at_end : FilesAtEnd layout true h h.program files

-- these are the rows that a program makes before its first fault, and the files that are defined
-- there; where it has no fault, all rows and all files
abbrev pub AreBeforeFault : OrderAndLimit → Header → List LineRow → Option Error → List File
    → Type 0
AreBeforeFault layout h rows None files = HasNoFault layout h rows files
AreBeforeFault layout h rows (Some e) files = HasFaultAfter layout h rows e files

-- a row stands: it isn't under a tombstone, and its address isn't below `lowest`, where linkers
-- leave what they drop
abbrev pub stands : ℕ → LineRow → Bool
stands lowest r = not r.tombstone && nat_le lowest r.address

-- whether there is a row
abbrev pub has_rows : List LineRow → Bool
has_rows [] = false
has_rows (r ∷ rows) = true

-- the parts of a sequence: its rows that stand side by side, between those that don't stand
abbrev pub standing_parts : ℕ → List LineRow → List (List LineRow)
standing_parts lowest rows = filter has_rows (slice_split (λ r. not (stands lowest r)) rows)

-- the header that is kept of a program has the files that are defined at the first fault, and the
-- parts are those of the sequences before it
pub record IsKept (layout : OrderAndLimit) (lowest : ℕ) (h : Header) (kept : Header)
    (fault : Option Error) (parts : List (List LineRow)) : Type 0 where
  pub rows : List LineRow
  pub before : AreBeforeFault layout h rows fault kept.files
  pub header : kept ≡ record h { files = kept.files }
  pub sequences : List (List LineRow)
  pub cut : AreCutAtEnds rows sequences
  pub parts_are : parts ≡ flat_map (standing_parts lowest) sequences
