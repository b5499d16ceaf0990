-- What is read of a unit, wherever it stands.
use Rattle.std.specs.Prelude.{◌≡◌, ℕ, true, List}
use Rattle.gimli_line.specs.header.File.{File}
use Rattle.gimli_line.specs.header.Header.{Header}
use Rattle.gimli_core.specs.Layout.{OrderAndLimit}
use Rattle.gimli_line.specs.run.Events.{Event, Events}
use Rattle.gimli_line.specs.run.EventsWithFiles.{FilesAtEnd}
use Rattle.gimli_c.specs.declared.unit.GimliUnit.{GimliUnit}
use Rattle.gimli_c.specs.Unit.{unit_seen}

-- what is read of a program, wherever it stands, if the next unit begins at the offset
pub record IsReadUnit (next : ℕ) (h : Header) (layout : OrderAndLimit) (unit : GimliUnit)
    : Type 0 where
  pub events : List Event
  pub given : Events layout h h.program events
  pub files : List File
  pub at_end : FilesAtEnd layout true h h.program files
  pub seen : unit ≡ unit_seen next h events files
