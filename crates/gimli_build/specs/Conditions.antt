-- What the calls of a builder ask.
use Rattle.std.specs.Prelude.{◌≡◌, ◌<◌, ◌≤◌, ◌^◌, ◌∷◌}
use Rattle.gimli_build.specs
use specs.Prelude
use Prelude.{ℕ, Bool, true, false, List, [], length, drop, IsTrue, IfSome, All, is_address_size}
use Prelude.{Encoding, LineEncoding, StringTables}
use specs.LineText.{LineText, IsWithin, HasNoZero, IsNotEmpty}
use specs.Tables.{FileKey}
use specs.Advance.{CanEncode, CanFollow}
use specs.Built.{Built, position_after, previous_position}
use specs.declared.built.items.BuiltItem.{BuiltItem}
use specs.declared.built.items.BuiltItem.TheVariants.{SetAddress, Row, End}

-- a program may have these encodings
pub record Accepts (encoding : Encoding) (line_encoding : LineEncoding) : Type 0 where
  pub address_size : IsTrue (is_address_size encoding.address_size)
  pub lines : CanEncode line_encoding

-- ---- items

-- an item can be built where the previous row is at this position; a line must fit a signed number
abbrev pub CanBuild : LineEncoding → ℕ × ℕ → BuiltItem → Type 0
CanBuild e position (SetAddress a) = Unit {0}
CanBuild e position (Row r) =
    CanFollow e position.0 position.1 r.address_offset r.op_index × (r.line < 2 ^ 63)
CanBuild e position (End offset op_index) = CanFollow e position.0 position.1 offset op_index

-- the current row can be built next
abbrev pub CanGenerateRow : Built → Type 0
CanGenerateRow p = CanBuild p.line_encoding (previous_position p.items) (Row p.row)

-- so can an end at this offset
abbrev pub CanEndSequence : Built → ℕ → Type 0
CanEndSequence p offset =
    CanBuild p.line_encoding (previous_position p.items) (End offset p.row.op_index)

-- each of these items could be built, the first with the previous row at this position
abbrev pub AreBuilt : LineEncoding → ℕ × ℕ → List BuiltItem → Type 0
AreBuilt e position [] = Unit {0}
AreBuilt e position (item ∷ items) =
    CanBuild e position item × AreBuilt e (position_after item) items

-- ---- programs

-- what is true of every program, whatever was written through a lent row or lent details
pub record IsProgram (is_none : Bool) (encoding : Encoding) (e : LineEncoding)
    (directories : List LineText) (keys : List FileKey) (items : List BuiltItem) : Type 0 where
  pub lines : CanEncode e
  pub address_size : is_none ≡ false → IsTrue (is_address_size encoding.address_size)
  pub working_dir : is_none ≡ false → 0 < length directories
  -- from version 5 on, where the first file is the source file
  pub source_file : is_none ≡ false → 5 ≤ encoding.version → 0 < length keys
  pub directories_not_empty : encoding.version ≤ 4 → All IsNotEmpty (drop 1 directories)
  pub paths_not_empty : encoding.version ≤ 4 → All (λ k. IsNotEmpty k.0) keys
  pub items_built : AreBuilt e (0, 0) items

-- a directory or a file of this text can be added
pub record CanAdd (p : Built) (text : LineText) : Type 0 where
  pub program : p.is_none ≡ false
  pub no_zero : HasNoZero text
  pub not_empty : p.encoding.version ≤ 4 → IsNotEmpty text

-- so can a file, in this directory
pub record CanAddFile (p : Built) (text : LineText) (directory : ℕ) : Type 0 where
  pub can : CanAdd p text
  pub within : directory < length p.directories

-- a program can be written with these tables: each text that it names is there; and a source that
-- is written has no zero byte, which would end it
pub record CanWrite (p : Built) (texts : StringTables) : Type 0 where
  pub program : p.is_none ≡ false
  pub directories : All (IsWithin texts) p.directories
  pub paths : All (λ f. IsWithin texts f.0.0) p.files
  pub sources : All (λ f. IfSome f.1.source (IsWithin texts)) p.files
  pub sources_end : 5 ≤ p.encoding.version → p.file_has_source ≡ true
      → All (λ f. IfSome f.1.source HasNoZero) p.files
