-- The header of a run.
use Rattle.std.specs.Prelude.{List}
use Rattle.gimli_line.specs.header.File.{File}
use Rattle.gimli_line.specs.header.Header.{Header}
use Rattle.gimli_line.specs.run.Passing.{RunState}

-- the header of a run, with these files
abbrev pub header_with : RunState → List File → Header
header_with a files = record a.fixed { files = files }
