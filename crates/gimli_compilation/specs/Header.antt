-- The header of a unit (DWARF 5, section 7.5.1; DWARF 2 to 4, section 7.5.1).
use Rattle.std.specs.Prelude.{ℕ, ◌+◌, List, Bool, ◌&&◌, ◌||◌, nat_eq, nat_le, if◌then◌else◌}
use Rattle.gimli_core.specs.Layout.{OrderAndLimit}
use Rattle.gimli_core.specs.Numbers.{word_size}
use Rattle.gimli_core.specs.Production.{Production, ◌>>=◌, ◌>>◌, done, check, choose, byte, number}
use Rattle.gimli_core.specs.Production.{some_bytes, address_size, offset_word, unit_length}
use Rattle.gimli_core.specs.declared.common.Encoding.{Encoding}
use Rattle.gimli_core.specs.declared.common.Format.{Format}
use Rattle.gimli_core.specs.declared.error.Error.TheVariants.{UnknownVersion}
use Rattle.gimli_compilation.specs.DwarfNumbers.{DW_UT_compile, DW_UT_type, DW_UT_skeleton}
use Rattle.gimli_compilation.specs.DwarfNumbers.{DW_UT_split_compile, DW_UT_split_type}

-- the frame of a unit: its length, and as many bytes as that says; the format goes with these
-- (section 7.4)
unfoldable pub frame_production : OrderAndLimit → Production (List ℕ × Format)
frame_production layout = do
  unit ← unit_length layout
  content ← some_bytes unit.0
  done (content, unit.1)

-- from version 2 to version 5
unfoldable pub version_production : Bool → Production ℕ
version_production is_big = do
  version ← number is_big 2
  check (nat_le 2 version && nat_le version 5) (UnknownVersion version)
  done version

-- the types of units (section 7.5.1): compile, type, partial, skeleton, split_compile, split_type
abbrev pub is_unit_type : ℕ → Bool
is_unit_type unit_type = nat_le DW_UT_compile unit_type && nat_le unit_type DW_UT_split_type

-- what stands in the headers of some types alone: a signature and an offset for type and
-- split_type, eight bytes that name the compilation for skeleton and split_compile
abbrev pub type_fields_size : ℕ → Format → ℕ
type_fields_size unit_type format =
    if nat_eq unit_type DW_UT_type || nat_eq unit_type DW_UT_split_type then 8 + word_size format
    else (if nat_eq unit_type DW_UT_skeleton || nat_eq unit_type DW_UT_split_compile then 8 else 0)

-- what a header says
pub record Header : Type 0 where
  pub encoding : Encoding
  -- up to version 4 that of a full compilation
  pub unit_type : ℕ
  -- where the declarations of the unit begin in `.debug_abbrev`
  pub abbreviations : ℕ

-- a header by its fields
abbrev pub header_of : Format → ℕ → ℕ → ℕ → ℕ → Header
header_of format version unit_type abbreviations size = record {
  encoding = record { address_size = size; format = format; version = version };
  unit_type = unit_type;
  abbreviations = abbreviations;
}

module _ (layout : OrderAndLimit) (format : Format) where
  -- the fields after the version up to version 4
  unfoldable pub old_fields_production : ℕ → Production Header
  old_fields_production version = do
    abbreviations ← offset_word layout format
    size ← address_size
    done (header_of format version DW_UT_compile abbreviations size)

  -- those of version 5
  unfoldable pub new_fields_production : ℕ → Production Header
  new_fields_production version = do
    unit_type ← byte
    size ← address_size
    abbreviations ← offset_word layout format
    type_fields ← some_bytes (type_fields_size unit_type format)
    done (header_of format version unit_type abbreviations size)

  -- the header, after the length of the unit
  unfoldable pub header_production : Production Header
  header_production = do
    version ← version_production layout.is_big
    choose (nat_le version 4) (old_fields_production version) (new_fields_production version)
