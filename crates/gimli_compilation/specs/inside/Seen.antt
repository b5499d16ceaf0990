-- What private calls return, their readers seen by bytes and their offsets by numbers.
use Rattle.std.specs.Prelude.{ℕ, List, [], Option, Some, None}
use Rattle.gimli_core.specs.declared.common.Format.{Format}
use Rattle.gimli_compilation.specs.Abbreviation.{Declaration}
use Rattle.gimli_compilation.specs.Header.{Header}
use Rattle.gimli_compilation.specs.declared.header.UnitHeader.{UnitHeader}
use Rattle.gimli_compilation.specs.inside.AbbreviationReading.{listed}
use Rattle.gimli_core.specs.Layout.{Seen}

-- the content of a unit, and its format
abbrev pub frame_seen : {R : Type 0} → (R → Seen) → R × Format → List ℕ × Format
frame_seen seen unit = ((seen unit.0).bytes, unit.1)

-- the header of a unit
abbrev pub header_seen : {R Endian Offset : Type 0} → (Offset → ℕ) → UnitHeader R Endian Offset
    → Header
header_seen number header = record {
  encoding = header.encoding;
  unit_type = header.unit_type.0;
  abbreviations = number header.abbreviations;
}

-- a declaration; the end of a table is one with the code 0
abbrev pub declaration_seen : {R : Type 0} → (R → Seen) → Option (ℕ × R) → Declaration
declaration_seen seen (Some found) = (found.0, listed (seen found.1).bytes)
declaration_seen seen None = (0, [])
