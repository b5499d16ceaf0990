-- How the header of a unit is spelled, production by production, and which refusal comes where a
-- production isn't there (DWARF 5, section 6.2.4; DWARF 4, section 6.2.4).
use Rattle.gimli_line.specs.Prelude.{ℕ, List, Some, None, OrderAndLimit, Value, Format, UnknownForm}
use Rattle.gimli_line.specs.Prelude.{Seen}
use Rattle.gimli_line.specs.Prelude.{IsTrue}
use Rattle.gimli_line.specs.header.File.{File}
use Rattle.gimli_line.specs.declared.header.file_entry.FileEntryFormat.{FileEntryFormat}
use Rattle.gimli_line.specs.header.HeaderGrammar.{paths_production, files_production}
use Rattle.gimli_line.specs.header.HeaderGrammar.{formats_production, HeaderOpening}
use Rattle.gimli_core.specs.Production.{Production, refuse}
use Rattle.gimli_core.specs.Form.{Shape, shape_production}
use Rattle.gimli_line.specs.declared.header.parse.HeaderOpening.{HeaderOpening as HeaderOpeningOf}
use Rattle.std.specs.Map.{lookup}
use Rattle.std.specs.Prelude.{◌<◌, nat_eq}
use Rattle.gimli_core.specs.Numbers.{is_address_size}
use Rattle.gimli_line.specs.header.Parameters.{Parameters, IsLineEncoding}

-- texts that aren't empty, closed by an empty one
abbrev pub SpellsPaths : List ℕ → List (List ℕ) → Type 0
SpellsPaths = paths_production.Spells

-- files of the tables up to version 4
abbrev pub SpellsFiles : List ℕ → List File → Type 0
SpellsFiles = files_production.Spells

-- the formats of a table of version 5
abbrev pub SpellsFormats : List ℕ → List FileEntryFormat → Type 0
SpellsFormats = formats_production.Spells

-- a value in a form among so many
abbrev pub form_among : OrderAndLimit → Format → List (ℕ × Shape) → ℕ → Production Value
form_among layout format rows form = elim (lookup (nat_eq form) rows) [
  | Some shape ↦ shape_production layout format shape
  | None ↦ refuse (UnknownForm (record { 0 = form }))
]

module _ {R Offset Endian : Type 0} (seen : R → Seen) (number : Offset → ℕ) where
  -- what a call took of them, its reader seen by bytes and its offset by number
  abbrev pub opening_seen : HeaderOpeningOf R Endian Offset → HeaderOpening
  opening_seen o = record {
    encoding = o.encoding;
    header_length = number o.header_length;
    fields = (seen o.fields).bytes;
  }

-- what every header allows: addresses of a known size, and no number that is divided by or counted
-- from is 0
pub record AreAllowed (parameters : Parameters) : Type 0 where
  pub address_size : IsTrue (is_address_size parameters.encoding.address_size)
  pub line_encoding : IsLineEncoding parameters.line_encoding
  pub base : 0 < parameters.opcode_base
