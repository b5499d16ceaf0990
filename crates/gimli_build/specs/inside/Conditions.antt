-- What the calls of a builder ask.
use Rattle.gimli_build.specs
use specs.Prelude.{false, All}
use specs.Tables.{AreTables, keys_of}
use specs.inside.Tables.{FitsFile}
use specs.Built.{Built}
use specs.Items.{AreFit}
use specs.Conditions.{IsProgram}

-- what a program is that isn't none, with what its types say
pub record IsBuilt (p : Built) : Type 0 where
  pub is : IsProgram false p.encoding p.line_encoding p.directories (keys_of p.files) p.items
  pub tables : AreTables p.directories (keys_of p.files)
  pub items_fit : AreFit p.encoding.version p.items
  pub files_fit : All FitsFile p.files
