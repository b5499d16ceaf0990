-- The index that is made of a program (docs/reference/INDEX.md).
use Rattle.std.specs.Prelude.{◌≡◌, ◌≢◌, ◌⊎◌, ◌^◌, ℕ, Bool, false, Option, None, List, [], map, All}
use Rattle.gimli_core.specs.Numbers.{is_address_size}
use Rattle.gimli_core.specs.Layout.{layout_of}
use Rattle.gimli_compilation.specs.Directories.{TellsDirectories}
use Rattle.gimli_compilation.specs.Sections.{Sections}
use Rattle.gimli_index.specs.Found.{Given, IsIndexAppended}
use Rattle.gimli_line.specs.Units.{AreUnits}
use Rattle.gimli_line.specs.header.Header.{UnitEntry}
use Rattle.gimli_line.specs.run.Unread.{Unread}
use Rattle.gimli_lookup.specs.Section.{KeptUnit}
use Rattle.gimli_lookup.specs.SectionUnits.{IsUnitOf}
use Rattle.gimli_index.specs.declared.error.MakeError.{MakeError}
use Rattle.gimli_index.specs.declared.error.MakeError.TheVariants.{NotAscending, TooManyEntries}
use Rattle.gimli_index.specs.declared.error.MakeError.TheVariants.{
  TooManyStatements,
  TooManySources,
}
use Rattle.gimli_index.specs.declared.error.MakeError.TheVariants.{PathsTooLarge, IdentityTooLarge}
use Rattle.gimli_index.specs.declared.error.MakeError.TheVariants.{LineTooLarge, ColumnTooLarge}
use Rattle.gimli_index.specs.declared.error.MakeError.TheVariants.{OutOfMemory}
use Rattle.gimli_c.specs.declared.index.write.GimliIndexOptions.{GimliIndexOptions}
use Rattle.gimli_c.specs.declared.index.write.TheConstants.{OPTIONS_SIZE}
use Rattle.gimli_c.specs.declared.status.TheConstants.{UNKNOWN_OPTIONS, UNSUPPORTED_ADDRESS_SIZE}
use Rattle.gimli_c.specs.CompDir.{sections_handed}
use Rattle.gimli_c.specs.Written.{Copies}

-- ---- what an index is made of

-- the sections of a program, its order of bytes, the size of its addresses up to version 4, and the
-- address below which there is no code
pub record IndexedProgram : Type 0 where
  pub section : List ℕ
  pub is_big : Bool
  pub address_size : ℕ
  pub lowest : ℕ
  pub line_strings : List ℕ
  pub strings : List ℕ

-- the same as one record
abbrev pub program : List ℕ → Bool → ℕ → ℕ → List ℕ → List ℕ → IndexedProgram
program section is_big address_size lowest line_strings strings = record {
  section = section;
  is_big = is_big;
  address_size = address_size;
  lowest = lowest;
  line_strings = line_strings;
  strings = strings;
}

-- a program, the sections that tell the directories of its compilations, and the name of what the
-- index is made of
pub record IndexSource : Type 0 where
  pub program : IndexedProgram
  pub compilations : Sections
  pub identity : List ℕ

-- the same as one record
abbrev pub index_source : IndexedProgram → Sections → List ℕ → IndexSource
index_source program compilations identity =
    record { program = program; compilations = compilations; identity = identity }

-- those that C hands over: options, `.debug_line`, `.debug_line_str`, `.debug_str`, `.debug_info`,
-- `.debug_abbrev`, `.debug_str_offsets`, and the name
abbrev pub source_handed : GimliIndexOptions → List ℕ → List ℕ → List ℕ → List ℕ → List ℕ → List ℕ
    → List ℕ → IndexSource
source_handed o lines line_strings strings info abbreviations string_offsets identity =
    index_source (program lines o.is_big o.address_size o.lowest line_strings strings)
    (sections_handed info abbreviations line_strings strings string_offsets o.is_big) identity

-- offsets have 64 bits, and no directory and no name is handed in with a unit
abbrev pub section_read : List ℕ → Bool → Unread
section_read section is_big = record { bytes = section; layout = layout_of is_big (2 ^ 64) }

-- what is handed in with a unit: the size of addresses
abbrev pub entry_of : ℕ → UnitEntry
entry_of address_size = record { address_size = address_size; directory = None; name = None }

-- these are all units of a program, each with its header and the sequences that are kept of it
pub record AreAllUnitsOf (p : IndexedProgram) (units : List KeptUnit) : Type 0 where
  pub offsets : AreUnits (layout_of p.is_big (2 ^ 64)) 0 p.section
      (map (λ u. u.unit.offset) units)
  pub each : All (IsUnitOf (section_read p.section p.is_big) (entry_of p.address_size) p.lowest)
      units

-- ---- the index

-- an index is made of these: the strings of the program, the directories of its compilations, its
-- units, the size of its addresses, and the name
abbrev pub given_of : IndexSource → (ℕ → Option (List ℕ)) → List KeptUnit → Given
given_of m directory units = record {
  texts = record {
    strings = record {
      debug_line_str = m.program.line_strings;
      debug_str = m.program.strings;
    };
    directory = directory;
  };
  units = units;
  size = m.program.address_size;
  name = m.identity;
}

-- bytes, whatever follows them, are an index that says of every address what a lookup over all
-- units finds there, with the whole path over the directory of the compilation
pub record IsIndexBytesOf (m : IndexSource) (bytes : List ℕ) : Type 0 where
  pub units : List KeptUnit
  pub are_units : AreAllUnitsOf m.program units
  pub directory : ℕ → Option (List ℕ)
  pub tells : TellsDirectories m.compilations directory
  pub index : IsIndexAppended (given_of m directory units) [] bytes

-- ---- refusals

-- the number of a refusal
abbrev pub make_status : MakeError → ℕ
make_status NotAscending = 38
make_status TooManyEntries = 47
make_status TooManyStatements = 47
make_status TooManySources = 47
make_status PathsTooLarge = 47
make_status IdentityTooLarge = 47
make_status LineTooLarge = 48
make_status ColumnTooLarge = 48
make_status OutOfMemory = 17

-- why none is made of sections that can be read: memory, what 32 bits don't count, or longer paths
-- than their limit
abbrev pub IsIndexRefusal : ℕ → Type 0
IsIndexRefusal status = (error : MakeError) × (status ≡ make_status error)

-- or the options aren't known, or name a size that addresses can't have
abbrev pub HasNoIndexBy : GimliIndexOptions → ℕ → Type 0
HasNoIndexBy options status =
    IsIndexRefusal status
    ⊎ (((status ≡ UNSUPPORTED_ADDRESS_SIZE) × (is_address_size options.address_size ≡ false))
    ⊎ ((status ≡ UNKNOWN_OPTIONS) × (options.size ≢ OPTIONS_SIZE)))

-- what a call does that copies the index to an array of the caller; unless it is made, its size is
-- told to be 0
abbrev pub CopiesIndex : IndexSource → GimliIndexOptions → ℕ → List ℕ → List ℕ → ℕ → Type 0
CopiesIndex m options status old new size =
    Copies (IsIndexBytesOf m) (HasNoIndexBy options) status old new 0 size
