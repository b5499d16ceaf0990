-- What C sees of a unit, and where the next one begins.
use Rattle.std.specs.Prelude.{◌≡◌, ◌⊎◌, ◌+◌, ℕ, true, List, drop, length}
use Rattle.gimli_core.specs.Layout.{OrderAndLimit}
use Rattle.gimli_core.specs.Numbers.{word_size}
use Rattle.gimli_core.specs.declared.error.Error.{Error}
use Rattle.gimli_line.specs.header.File.{File}
use Rattle.gimli_line.specs.header.Header.{Header}
use Rattle.gimli_line.specs.Units.{offset_after, any_unit, BeginsWithUnit}
use Rattle.gimli_line.specs.run.Events.{Event}
use Rattle.gimli_line.specs.run.EventsWithFiles.{FilesAtEnd}
use Rattle.gimli_c.specs.declared.unit.GimliUnit.{GimliUnit}
use Rattle.gimli_c.specs.Location.{Location, layout_at}
use Rattle.gimli_c.specs.Run.{HasEvents, rows_of, fault_of}
use Rattle.gimli_c.specs.Status.{fault_status}

-- the unit with this header, whose program gives these events and has these files at its end; what
-- follows it stands at the offset
abbrev pub unit_seen : ℕ → Header → List Event → List File → GimliUnit
unit_seen next h events files =
    let encoding = h.parameters.encoding in
    record {
      length = h.unit_length;
      next = next;
      directories = length h.directories;
      files = length files;
      rows = length (rows_of events);
      version = encoding.version;
      address_size = encoding.address_size;
      offset_size = word_size encoding.format;
      fault = fault_status (fault_of events);
    }

-- the unit at the location
pub record GivesUnit (p : Location) (unit : GimliUnit) : Type 0 where
  pub header : Header
  pub events : List Event
  pub has_events : HasEvents p header events
  pub files : List File
  pub at_end : FilesAtEnd (layout_at p) true header header.program files
  pub seen : unit ≡ unit_seen (offset_after p.offset header) header events files

-- the bytes begin with no unit, whatever its content were: their length can't be read, or it says
-- more bytes than there are
abbrev pub BeginsWithNone : OrderAndLimit → List ℕ → Type 0
BeginsWithNone layout bytes = (error : Error) × (any_unit layout).Fault bytes error

-- where the next unit of a section begins: after the unit at an offset, whatever its content is;
-- where no unit begins there, at the end of the section
abbrev pub IsNext : OrderAndLimit → List ℕ → ℕ → ℕ → Type 0
IsNext layout section offset next =
    BeginsWithUnit layout (drop offset section) (λ size rest. next ≡ offset + size)
    ⊎ (BeginsWithNone layout (drop offset section) × (next ≡ length section))

-- the same of the unit at a location
abbrev pub TellsNext : Location → ℕ → Type 0
TellsNext p next = IsNext (layout_at p) p.section p.offset next
