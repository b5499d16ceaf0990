-- What is read of the header of a written unit.
use Rattle.std.specs.Prelude.{◌≡◌, ◌-◌, ◌<◌, ◌≤◌, ◌^◌}
use Rattle.gimli_build.proofs
use proofs.Common
use Common.{ℕ, Bool, false, List, length, Ok, refl, ap, ◌∙◌, arith, sym, nat_le, All, leb-true, leb-false}
use Common.{OrderAndLimit, Encoding, Dwarf64, Placement, plain, counted, AreTexts, StringTables, Header, UnitEntry}
use Common.{Sections, OneByOne, Built, CanWrite, IsBuilt, built_rules, texts_after, AreFormats, IsUnit}
use Common.{directories_from_zero, IsDirectory, IsFile, IsReadWell, IsOffsetHeld, emitted_texts, operand_counts}
use Common.{program_bytes, whole_bytes, unit_bytes, length-append, Appends, AppendsThat, ReadsBack, ReadsBackAt}
use proofs.reading.ReadyTexts.{tables-ready, of-tables}
use proofs.linking.PlacedUnits.{items-plain}
use proofs.reading.TablesBack.{AreReadWell, tables-back}
use proofs.spellings.UnitSpellings.{
  UnitWritten,
  unit_written,
  fields_written,
  inside-short,
  fields-short,
  tables-short,
  header_of,
  unit-is,
}
use proofs.writing.Joined.{appended_bytes}
use proofs.writing.WrittenParts.{before_written}
use proofs.spellings.EncodingSpellings.{version-known}
use proofs.reading.EventsBack.{cut-back, rows-back}

-- the bytes are a unit, and its header is what was built; its program is what was written of the items
pub record HeaderBack (layout : OrderAndLimit) (unit_entry : UnitEntry) (sections : Sections) (p : Built)
    (texts : StringTables) (unit : List ℕ) : Type 0 where
  pub header : Header
  pub is_unit : IsUnit layout unit_entry unit header
  pub parameters : header.parameters ≡ built_rules p.encoding p.line_encoding
  pub counts : header.operand_counts ≡ operand_counts
  pub formats : nat_le p.encoding.version 4 ≡ false → AreFormats p header
  pub directories : OneByOne (IsDirectory sections texts) (directories_from_zero header) p.directories
  pub files : OneByOne (IsFile sections p texts) header.files p.files
  pub program : program_bytes plain layout.is_big p ≡ Ok header.program

-- 64 bits hold what the offsets of its texts become
abbrev pub AreShort : Placement → Built → StringTables → Type 0
AreShort at p texts = 5 ≤ p.encoding.version → All (λ t. IsOffsetHeld (2 ^ 64) at texts t.1) (emitted_texts p texts)

-- a unit that is written is written whole
pub whole_written : (at : Placement) (is_big : Bool) (unit_encoding : Encoding) (p : Built) (old_texts : StringTables)
    (unit : List ℕ)
    → unit_bytes (counted at) is_big unit_encoding p old_texts ≡ Ok unit
    → whole_bytes (counted at) is_big p (texts_after p old_texts) ≡ Ok unit
whole_written at is_big unit_encoding p old_texts unit is = grind arith

module _ (at : Placement) (layout : OrderAndLimit) (unit_entry : UnitEntry) (sections : Sections) (p : Built)
    (built : IsBuilt p) where
  whole_back : (texts : StringTables) (unit : List ℕ) → AreReadWell at layout unit_entry sections p texts built
      → unit_entry.address_size ≡ p.encoding.address_size
      → (p.encoding.format ≡ Dwarf64 → length unit - 12 < layout.limit) → length unit < 2 ^ 64
      → UnitWritten (counted at) layout.is_big p texts unit
      → HeaderBack layout unit_entry sections p texts unit
  whole_back texts unit well same holds small w =
      let v = fields_written _ _ _ _ _ w.fields_are in
      let inside = inside-short (counted at) layout.is_big p texts unit w in
      let fields = fields-short (counted at) layout.is_big p texts unit w in
      let tables = tables-short (counted at) layout.is_big p texts w.fields v in
      let t = tables-back at layout unit_entry sections p texts built v.tables well (omega arith) v.tables_are in
      record {
        header = header_of (counted at) layout unit_entry sections p texts built v.tables t (length w.inside)
            (length w.fields) w.program;
        is_unit = unit-is (counted at) layout unit_entry sections p texts built unit w v t same holds small;
        parameters = refl;
        counts = refl;
        formats = λ new. record { directories = t.directory_formats_are new; files = t.file_formats_are new };
        directories = t.directories_back;
        files = t.files_back;
        program = sym (items-plain at layout.is_big p.encoding p.line_encoding _ p.items) ∙ w.program_is;
      }

  -- how the unit is read, the tables are
  read_well : (old_texts : StringTables) (unit : List ℕ) → CanWrite p old_texts
      → AreTexts (texts_after p old_texts).strings
      → AreTexts (texts_after p old_texts).line_strings
      → AreShort at p (texts_after p old_texts)
      → IsReadWell at layout unit_entry sections layout.is_big p (texts_after p old_texts) unit
      → AreReadWell at layout unit_entry sections p (texts_after p old_texts) built
  read_well old_texts unit can are_texts are_line_texts short well = record {
    directory = λ old. well.directory (leb-true p.encoding.version 4 old);
    ready = λ new. tables-ready p old_texts new built can;
    are_texts = are_texts;
    are_line_texts = are_line_texts;
    held = λ new. of-tables _ _ _ new
        (λ i d lt. (λ wide. well.texts_held (late new) wide i d lt, short (late new) i d lt));
    found = λ new. of-tables _ _ _ new (well.texts_found (late new));
  }
    where
      late : nat_le p.encoding.version 4 ≡ false → 5 ≤ p.encoding.version
      late new = let above = leb-false p.encoding.version 4 new in omega arith

-- a unit whose length 64 bits hold
pub header-back : (at : Placement) (layout : OrderAndLimit) (unit_entry : UnitEntry) (sections : Sections)
    (is_big : Bool)
    (unit_encoding : Encoding) (p : Built)
    (old_texts : StringTables) (unit : List ℕ)
    → length unit < 2 ^ 64 → IsBuilt p → CanWrite p old_texts → AreTexts (texts_after p old_texts).strings
    → AreTexts (texts_after p old_texts).line_strings
    → AreShort at p (texts_after p old_texts)
    → unit_bytes (counted at) is_big unit_encoding p old_texts ≡ Ok unit
    → IsReadWell at layout unit_entry sections is_big p (texts_after p old_texts) unit
    → HeaderBack layout unit_entry sections p (texts_after p old_texts) unit
header-back at layout unit_entry sections is_big unit_encoding p old_texts unit small built can are_texts are_line_texts
    short is well =
    let texts = texts_after p old_texts in
    let whole = ap (λ b. whole_bytes (counted at) b p texts) well.order
    ∙ whole_written at is_big unit_encoding p old_texts unit is in
    let same : IsReadWell at layout unit_entry sections layout.is_big p texts unit = record {
      order = refl;
      address_size = well.address_size;
      directory = well.directory;
      texts_found = well.texts_found;
      instructions_held = well.instructions_held;
      length_held = well.length_held;
      texts_held = well.texts_held;
    } in
    whole_back at layout unit_entry sections p built texts unit
    (read_well at layout unit_entry sections p built old_texts unit can are_texts are_line_texts short same)
    same.address_size same.length_held small (unit_written _ _ _ _ _ whole)

-- ---- what is read of a written unit: its header, its decoding, and its rows together

-- a unit that is written has a known version
unit_known : (at : Placement) (is_big : Bool) (p : Built) (texts : StringTables) (unit : List ℕ)
    → whole_bytes (counted at) is_big p texts ≡ Ok unit
    → p.encoding.version ≤ 5
unit_known at is_big p texts unit is = grind (arith, unit_written, before_written, version-known)

reads-back : (at : Placement) (layout : OrderAndLimit) (unit_entry : UnitEntry) (sections : Sections) (is_big : Bool)
    (unit_encoding : Encoding) (p : Built)
    (old_texts : StringTables) (unit : List ℕ)
    → length unit < 2 ^ 64 → IsBuilt p → CanWrite p old_texts → AreTexts (texts_after p old_texts).strings
    → AreTexts (texts_after p old_texts).line_strings
    → AreShort at p (texts_after p old_texts)
    → unit_bytes (counted at) is_big unit_encoding p old_texts ≡ Ok unit
    → IsReadWell at layout unit_entry sections is_big p (texts_after p old_texts) unit
    → ReadsBack layout unit_entry sections p (texts_after p old_texts) unit
reads-back at layout unit_entry sections is_big unit_encoding p old_texts unit small built can are_texts are_line_texts
    short is well =
    let texts = texts_after p old_texts in
    let h = header-back at layout unit_entry sections is_big unit_encoding p old_texts unit small built can are_texts
    are_line_texts short is well in
    let whole = whole_written at is_big unit_encoding p old_texts unit is in
    let known = unit_known at is_big p texts unit whole in
    let wide = well.instructions_held in
    record {
      header = h.header;
      is_unit = h.is_unit;
      parameters = h.parameters;
      counts = h.counts;
      formats = h.formats;
      directories = h.directories;
      files = h.files;
      decoding = cut-back _ _ _ built wide h.parameters h.program;
      rows = rows-back _ _ _ built known wide h.parameters h.program;
    }

-- what is appended is read back so
pub appended-back : (at : Placement) (is_big : Bool) (unit_encoding : Encoding) (p : Built) (old_texts : StringTables)
    (old new : List ℕ)
    → length new < 2 ^ 64 → IsBuilt p
    → CanWrite p old_texts → AreTexts (texts_after p old_texts).strings
    → AreTexts (texts_after p old_texts).line_strings
    → AreShort at p (texts_after p old_texts)
    → Appends (unit_bytes (counted at) is_big unit_encoding p old_texts) old new
    → AppendsThat (ReadsBackAt at is_big p (texts_after p old_texts)) old new
appended-back at is_big unit_encoding p old_texts old new short built can are_texts are_line_texts held written =
    let a = appended_bytes _ _ _ written in
    let long = ap length a.2 ∙ length-append old a.0 in
    let small : length a.0 < 2 ^ 64 = omega arith in (
      a.0,
      a.2,
      λ layout unit_entry sections well.
          reads-back at layout unit_entry sections is_big unit_encoding p old_texts a.0 small built can are_texts
          are_line_texts held a.1 well,
    )
