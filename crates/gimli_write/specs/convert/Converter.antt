-- What a caller sees of a `ConvertLineProgram`: how far it got, and the tables that it is lent. And
-- what a call of the builder does to it.
use Rattle.std.specs.Prelude.{◌≡◌}
use Rattle.gimli_write.specs
use specs.Prelude.{Result, OnErr, OnOk, Built, ConvertError}
use specs.declared.convert.program.ConvertLineProgram.{ConvertLineProgram}
use specs.convert.Conversion.{Conversion, Progress, built_so_far, with_program}
use specs.convert.KeptTables.{StaysWritable}
use specs.convert.LentTables.{LentTables, SameStringTables}

-- how far it got, with the texts of the line strings that it is lent
abbrev pub progress : {R Endian Offset : Type 0} → ConvertLineProgram R Conversion Endian Offset
    → Progress
progress c = record { conversion = c.conversion; line_strings = c.line_strings.now }

-- the tables that it is lent
abbrev pub lent_tables : {R P Endian Offset : Type 0} → ConvertLineProgram R P Endian Offset
    → LentTables
lent_tables c = record { line_strings = c.line_strings; strings = c.strings }

-- the program that it has built so far
abbrev pub program_of : {R Endian Offset : Type 0} → ConvertLineProgram R Conversion Endian Offset
    → Built
program_of c = built_so_far (progress c)

-- ---- calls of the builder

module _ {R Endian Offset A : Type 0} (program : Built)
    (old : ConvertLineProgram R Conversion Endian Offset)
    (result : Result A ConvertError) (new : ConvertLineProgram R Conversion Endian Offset) where
  -- a call makes this program of the one that was built before it, where it isn't refused, and else
  -- changes nothing. A program that could be written still can be, and both tables of strings are
  -- as they were
  pub record Builds : Type 0 where
    pub ok : OnOk result
        ((progress new).conversion ≡ with_program program (progress old).conversion)
    pub kept : OnErr result ((progress new).conversion ≡ (progress old).conversion)
    pub writable : StaysWritable (progress old).conversion.tables (progress old).line_strings
        (progress new).conversion.tables (progress new).line_strings
    pub string_tables : SameStringTables (lent_tables old) (lent_tables new)
