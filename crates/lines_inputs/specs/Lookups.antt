-- The rows that commands look among.
use Rattle.std.specs.Prelude.{ℕ, Bool, List, Contains, None}
use Rattle.gimli_line.specs.header.Header.{unit_entry}
use Rattle.gimli_line.specs.run.Unread.{unread_of}
use Rattle.gimli_lookup.specs.Section.{KeptUnit}
use Rattle.gimli_lookup.specs.SectionSearch.{AreFoundInSection}
use Rattle.gimli_lookup.specs.SectionUnits.{AreUnitsOf}
use Rattle.lines_inputs.specs.declared.input.Input.{Input}
use Rattle.lines_inputs.specs.declared.lookup.Covering.{Covering}
use Rattle.lines_inputs.specs.declared.lookup.Covering.TheVariants.{Kept, Found}
use Rattle.line_text.specs.OrderAndSize.{size_number}
use Rattle.gimli_core.specs.Layout.{Seen}

-- these are the units of the line programs that are read, and what is kept of each
abbrev pub AreUnitsIn : {R : Type 0} → (R → Seen) → ℕ → Input R → List KeptUnit
    → Type 0
AreUnitsIn seen limit input units =
    AreUnitsOf (unread_of seen limit input.lines)
    (unit_entry seen (size_number input.notation.address_size) None None)
    input.notation.lowest units

-- what was read for a command: all units, or what is found in them at some addresses
abbrev pub IsReadFrom : {R E O : Type 0} → (R → Seen) → ℕ → Input R
    → Covering R E O → Type 0
IsReadFrom seen limit input (Kept units) = AreUnitsIn seen limit input units
IsReadFrom seen limit input (Found addresses found) =
    AreFoundInSection (unread_of seen limit input.lines)
    (unit_entry seen (size_number input.notation.address_size) None None)
    input.notation.lowest addresses.items found.units.items found.rows.items

-- what was read says which rows cover an address, or that none do
abbrev pub Knows : {R E O : Type 0} → Covering R E O → ℕ → Type 0
Knows (Kept units) a = Unit {0}
Knows (Found addresses found) a = Contains addresses.items a
