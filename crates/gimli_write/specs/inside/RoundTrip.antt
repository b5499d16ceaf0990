-- What is answered of a unit that was written and read again.
use Rattle.gimli_write.specs
use specs.Prelude.{
  ℕ,
  List,
  Some,
  None,
  All,
  OrderAndLimit,
  Header,
  UnitEntry,
  Sections,
  directories_from_zero,
}
use Rattle.gimli_line.specs.header.HeaderGrammar.{SpellsUnit}
use specs.inside.TextReading.{HasText, HasFileTexts}

-- with this address size and working directory, and no name
abbrev pub unit_entry_with : ℕ → List ℕ → UnitEntry
unit_entry_with size directory = record {
  address_size = size;
  directory = Some directory;
  name = None;
}

-- the bytes begin with a unit that has this header
pub record BeginsUnit (layout : OrderAndLimit) (unit_entry : UnitEntry) (bytes : List ℕ)
    (h : Header)
    : Type 0 where
  pub spelled : SpellsUnit layout unit_entry bytes h

-- the texts of a header are there
pub record HasTexts (sections : Sections) (h : Header) : Type 0 where
  pub directories : All (HasText sections) (directories_from_zero h)
  pub files : All (HasFileTexts sections) h.files

-- the bytes begin with a unit whose texts are there
pub record CanRead (layout : OrderAndLimit) (unit_entry : UnitEntry) (sections : Sections)
    (bytes : List ℕ) : Type 0 where
  pub header : Header
  pub unit : BeginsUnit layout unit_entry bytes header
  pub texts : HasTexts sections header
