-- The index that is made of the rows that are read.
use Rattle.std.specs.Prelude.{ℕ, Bool, List, []}
use Rattle.std.specs.Option.{option_map}
use Rattle.gimli_compilation.specs.Directories.{TellsDirectories, directory_for}
use Rattle.gimli_compilation.specs.Sections.{sections_of}
use Rattle.gimli_index.specs.Found.{IsIndexAppended}
use Rattle.gimli_lookup.specs.ProgramPaths.{texts_seen}
use Rattle.gimli_lookup.specs.Section.{KeptUnit}
use Rattle.lines_inputs.specs.Lookups.{AreUnitsIn}
use Rattle.lines_inputs.specs.declared.input.Input.{Input}
use Rattle.line_text.specs.OrderAndSize.{size_number}
use Rattle.gimli_core.specs.Layout.{Seen}

-- bytes are an index with this name, which says of each address what is found there: by the rows of
-- the units, and by whole paths, of the texts and the directories of compilations that are read
pub record IsMade {R : Type 0} (seen : R → Seen) (limit : ℕ)
    (input : Input R) (name made : List ℕ) : Type 0 where
  pub kept : List KeptUnit
  pub are : AreUnitsIn seen limit input kept
  pub directories : List (ℕ × R)
  pub tell : TellsDirectories (sections_of seen limit input.compilations)
      (λ line. option_map (λ r. (seen r).bytes) (directory_for directories line))
  pub is_index : IsIndexAppended (record {
    texts = texts_seen seen (input.strings, directories);
    units = kept;
    size = size_number input.notation.address_size;
    name = name;
  }) [] made
