-- From an address of a program to its place (DWARF 5, section 6.2), without an index.
use Rattle.std.specs.Prelude.{◌≡◌, ◌⊎◌, ℕ, false, List, Option, None, Some, Result, Ok, Err}
use Rattle.gimli_core.specs.Numbers.{is_address_size}
use Rattle.gimli_compilation.specs.Directories.{TellsDirectories}
use Rattle.gimli_compilation.specs.Sections.{Sections}
use Rattle.gimli_lookup.specs.Program.{listed}
use Rattle.gimli_lookup.specs.ProgramPaths.{Texts, found_path}
use Rattle.gimli_lookup.specs.Section.{KeptUnit, found_at}
use Rattle.gimli_lookup.specs.declared.path_error.PathError.{PathError}
use Rattle.gimli_lookup.specs.declared.section_lookup.CoveringRows.{CoveringRows}
use Rattle.gimli_c.specs.declared.row.GimliRow.{GimliRow}
use Rattle.gimli_c.specs.declared.status.TheConstants.{NO_ROW, OUT_OF_MEMORY, UNKNOWN_PATH}
use Rattle.gimli_c.specs.declared.status.TheConstants.{UNSUPPORTED_ADDRESS_SIZE}
use Rattle.gimli_c.specs.MadeIndex.{IndexedProgram, AreAllUnitsOf}
use Rattle.gimli_c.specs.Seen.{row_seen}
use Rattle.gimli_c.specs.Written.{Copies}

-- ---- in units that are kept

-- rows of these units cover an address: this is the first, as C sees it, and the whole path of its
-- file, or why it can't be told
pub record IsPlaceOf (t : Texts) (units : List KeptUnit) (address : ℕ) (row : GimliRow)
    (path : Result (List ℕ) PathError) : Type 0 where
  pub rows : CoveringRows
  pub found : Some rows ≡ found_at address units
  pub row_is : row ≡ row_seen rows.row
  pub path_is : found_path t (listed units) rows ≡ path

-- ---- in sections that are handed over

-- what whole paths are made of
abbrev pub texts_by : IndexedProgram → (ℕ → Option (List ℕ)) → Texts
texts_by p directory = record {
  strings = record { debug_line_str = p.line_strings; debug_str = p.strings };
  directory = directory;
}

-- the same of all units of a program, whose compilations have the directories that these sections
-- tell
pub record IsPlaceIn (p : IndexedProgram) (sections : Sections) (address : ℕ) (row : GimliRow)
    (path : Result (List ℕ) PathError) : Type 0 where
  pub units : List KeptUnit
  pub are_units : AreAllUnitsOf p units
  pub directory : ℕ → Option (List ℕ)
  pub tells : TellsDirectories sections directory
  pub place : IsPlaceOf (texts_by p directory) units address row path

-- no rows of a program cover an address
pub record HasNoRowIn (p : IndexedProgram) (address : ℕ) : Type 0 where
  pub units : List KeptUnit
  pub are_units : AreAllUnitsOf p units
  pub none : None ≡ found_at address units

-- why a status has no path with it: no row covers the address, its path can't be told, memory
-- lacks, or the size of addresses is none
abbrev pub HasNoPlaceIn : IndexedProgram → Sections → ℕ → GimliRow → ℕ → Type 0
HasNoPlaceIn p sections address row status =
    ((status ≡ NO_ROW) × HasNoRowIn p address)
    ⊎ (((status ≡ UNKNOWN_PATH) × (e : PathError) × IsPlaceIn p sections address row (Err e))
    ⊎ ((status ≡ OUT_OF_MEMORY)
    ⊎ ((status ≡ UNSUPPORTED_ADDRESS_SIZE) × (is_address_size p.address_size ≡ false))))

-- what a call does that copies the whole path of an address to an array, by its status
abbrev pub CopiesPlace : IndexedProgram → Sections → ℕ → GimliRow → ℕ → List ℕ → List ℕ → ℕ → ℕ
    → Type 0
CopiesPlace p sections address row =
    Copies (λ whole. IsPlaceIn p sections address row (Ok whole))
    (HasNoPlaceIn p sections address row)
