-- What the first entry of a unit says of its compilation, and why a unit says nothing (DWARF 5,
-- sections 3.1.1, 7.5.1 and 7.5.2).
use Rattle.std.specs.Prelude.{◌≡◌, ◌⊎◌, ℕ, ◌+◌, ◌*◌, ◌^◌, List, [], ◌∷◌, ◌++◌, length, drop, Option}
use Rattle.std.specs.Prelude.{Some, None, nat_lt}
use Rattle.gimli_core.specs.Layout.{OrderAndLimit}
use Rattle.gimli_core.specs.Numbers.{word_size}
use Rattle.gimli_core.specs.Production.{Production, ◌>>=◌, ◌>>◌, done, check, choose, number}
use Rattle.gimli_core.specs.Production.{unsigned, text, some_bytes}
use Rattle.gimli_core.specs.declared.common.Encoding.{Encoding}
use Rattle.gimli_core.specs.declared.common.Format.{Format}
use Rattle.gimli_core.specs.declared.error.Error.{Error}
use Rattle.gimli_core.specs.declared.error.Error.TheVariants.{UnsupportedOffset}
use Rattle.gimli_compilation.specs.declared.abbreviation.Specification.{Specification}
use Rattle.gimli_compilation.specs.declared.attributes.Attributes.{Attributes}
use Rattle.gimli_compilation.specs.declared.form.NumberKind.{NumberKind}
use Rattle.gimli_compilation.specs.declared.form.NumberKind.TheVariants.{
  StringOffset,
  LineStringOffset,
  StringIndex,
}
use Rattle.gimli_compilation.specs.declared.form.Value.{Value}
use Rattle.gimli_compilation.specs.declared.form.Value.TheVariants.{Number, Text, Passed}
use Rattle.gimli_compilation.specs.declared.refusal.Refusal.{Refusal}
use Rattle.gimli_compilation.specs.declared.refusal.Refusal.TheVariants.{
  Bytes,
  UnknownUnitType,
  MissingAbbreviation,
}
use Rattle.gimli_compilation.specs.declared.sections.Compilation.{Compilation}
use Rattle.gimli_compilation.specs.declared.sections.Outcome.{Outcome}
use Rattle.gimli_compilation.specs.declared.sections.Outcome.TheVariants.{
  Found,
  UnknownUnitType as unknown_unit_type,
  MissingAbbreviation as missing_abbreviation,
}
use Rattle.gimli_compilation.specs.Abbreviation.{abbreviation_production}
use Rattle.gimli_compilation.specs.Form.{form_production}
use Rattle.gimli_compilation.specs.Header.{Header, frame_production, header_production}
use Rattle.gimli_compilation.specs.Header.{is_unit_type}
use Rattle.gimli_compilation.specs.Sections.{Sections}
use Rattle.gimli_compilation.specs.Value.{attributes_with, no_attributes, section_offset}

-- a production at the front of other bytes, which may go on after it; it takes none of the bytes
-- themselves
abbrev pub apart : {A : Type 0} → List ℕ → Production A → Production A
apart others l = record {
  Spells = λ bytes x.
      (bytes ≡ [])
      × ((front : List ℕ) × (rest : List ℕ) × (others ≡ front ++ rest) × l.Spells front x);
  Fault = λ bytes e. l.Fault others e;
  read = λ bytes. ((l.read others).0, bytes);
}

-- a production from an offset of a section on
abbrev pub from_offset : {A : Type 0} → ℕ → ℕ → Production A → Production A
from_offset limit offset l = do
  check (nat_lt offset limit) UnsupportedOffset
  some_bytes offset
  l

-- the text at an offset of a section
unfoldable pub text_production : ℕ → ℕ → Production (List ℕ)
text_production limit offset = from_offset limit offset text

-- the text at an offset of another section
abbrev pub text_from : ℕ → List ℕ → ℕ → Production (Option (List ℕ))
text_from limit section offset = do
  name ← apart section (text_production limit offset)
  done (Some name)

-- the values of an entry, in the order of its specifications; each replaces an earlier value of its
-- attribute
unfoldable pub attributes_production : OrderAndLimit → Encoding → Attributes (List ℕ)
    → List Specification
    → Production (Attributes (List ℕ))
attributes_production layout encoding before [] = done before
attributes_production layout encoding before (s ∷ specifications) = do
  value ← form_production layout encoding s.form.0
  attributes_production layout encoding (attributes_with before s.name.0 value) specifications

-- the string offset of an index: a word in the table that begins at a base (section 7.26)
unfoldable pub string_offset_production : OrderAndLimit → Format → ℕ → ℕ → Production ℕ
string_offset_production layout format base index = do
  check (nat_lt (base + index * word_size format) (2 ^ 64)) UnsupportedOffset
  from_offset layout.limit (base + index * word_size format)
      (number layout.is_big (word_size format))

-- the specifications of a code in the table at an offset
unfoldable pub table_production : ℕ → ℕ → Production (Option (List Specification))
table_production offset code = do
  some_bytes offset
  abbreviation_production code

-- the offset after the unit that begins at an offset of a section: its own, and the size of its
-- frame; where it has no frame, the end of the section
abbrev pub FollowsUnit : OrderAndLimit → List ℕ → ℕ → ℕ → Type 0
FollowsUnit layout section offset next =
    ((unit : List ℕ) × (after : List ℕ) × (content : List ℕ × Format)
    × (drop offset section ≡ unit ++ after)
    × (frame_production layout).Spells unit content × (next ≡ offset + length unit))
    ⊎ ((e : Error) × (frame_production layout).Fault (drop offset section) e
    × (next ≡ length section))

module _ (sections : Sections) where
  -- the text that a number refers to: by its offset, or by its index in the table of the unit,
  -- whose base is known. None where the unit has no base, or where the number is no such reference
  unfoldable pub text_by : Format → Option ℕ → NumberKind → ℕ → Production (Option (List ℕ))
  text_by format base StringOffset n = text_from sections.layout.limit sections.strings n
  text_by format base LineStringOffset n = text_from sections.layout.limit sections.line_strings n
  text_by format (Some base) StringIndex n = do
    offset ←
        apart sections.string_offsets
        (string_offset_production sections.offsets_layout format base n)
    text_from sections.layout.limit sections.strings offset
  text_by format None StringIndex n = done None
  text_by format base kind n = done None

  -- the text of a value; None where the value has no text, or one in another file
  abbrev pub text_of : Format → Option ℕ → Value (List ℕ) → Production (Option (List ℕ))
  text_of format base (Number kind n) = text_by format base kind n
  text_of format base (Text name) = done (Some name)
  text_of format base Passed = done None

  -- what the attributes of an entry say
  unfoldable pub compilation_production : Encoding → Attributes (List ℕ)
      → Production (Compilation (List ℕ))
  compilation_production encoding attributes = do
    comp_dir ←
        text_of encoding.format (section_offset attributes.str_offsets_base) attributes.comp_dir
    name ← text_of encoding.format (section_offset attributes.str_offsets_base) attributes.name
    done (record {
      version = encoding.version;
      stmt_list = section_offset attributes.stmt_list;
      comp_dir = comp_dir;
      name = name;
    })

  -- an entry whose specifications are known
  unfoldable pub found_entry : Encoding → List Specification → Production (Outcome (List ℕ))
  found_entry encoding specifications = do
    attributes ← attributes_production sections.layout encoding no_attributes specifications
    compilation ← compilation_production encoding attributes
    done (Found compilation)

  -- an entry whose code is known: with a declaration its values, else none of its bytes
  abbrev pub declared_entry : Encoding → ℕ → Option (List Specification)
      → Production (Outcome (List ℕ))
  declared_entry encoding code None = done (missing_abbreviation code)
  declared_entry encoding code (Some specifications) = found_entry encoding specifications

  -- the first entry of a unit: its code, and a value for each attribute that the declaration of the
  -- code has
  unfoldable pub entry_production : Header → Production (Outcome (List ℕ))
  entry_production header = do
    code ← unsigned
    specifications ← apart sections.abbreviations (table_production header.abbreviations code)
    declared_entry header.encoding code specifications

  -- the content of a unit up to its first entry, if its type is known
  unfoldable pub content_production : Format → Production (Outcome (List ℕ))
  content_production format = do
    header ← header_production sections.layout format
    choose (is_unit_type header.unit_type) (entry_production header)
        (done (unknown_unit_type header.unit_type))

  -- a unit: its frame, and what stands at the front of its content
  unfoldable pub unit_production : Production (Outcome (List ℕ))
  unit_production = do
    unit ← frame_production sections.layout
    apart unit.0 (content_production unit.1)

  -- the bytes begin with a unit that has this outcome
  abbrev pub BeginsWithOutcome : List ℕ → Outcome (List ℕ) → Type 0
  BeginsWithOutcome bytes outcome =
      (unit : List ℕ) × (after : List ℕ) × (bytes ≡ unit ++ after)
      × unit_production.Spells unit outcome

  -- from the offset on `.debug_info` begins with a unit whose first entry says this
  abbrev pub HasCompilationAt : ℕ → Compilation (List ℕ) → Type 0
  HasCompilationAt offset compilation =
      BeginsWithOutcome (drop offset sections.info) (Found compilation)

  -- from the offset on it begins with no such unit, and this is why: the first part that isn't met,
  -- an unknown type, or a code without a declaration
  abbrev pub HasRefusalAt : ℕ → Refusal → Type 0
  HasRefusalAt offset (Bytes e) = unit_production.Fault (drop offset sections.info) e
  HasRefusalAt offset (UnknownUnitType unit_type) =
      BeginsWithOutcome (drop offset sections.info) (unknown_unit_type unit_type)
  HasRefusalAt offset (MissingAbbreviation code) =
      BeginsWithOutcome (drop offset sections.info) (missing_abbreviation code)

  -- the offset after the unit of `.debug_info` that begins at an offset
  abbrev pub IsNextOffset : ℕ → ℕ → Type 0
  IsNextOffset offset next = FollowsUnit sections.layout sections.info offset next

-- a walk through the units of `.debug_info`
pub record Walk : Type 0 where
  pub sections : Sections
  -- where the next unit begins
  pub offset : ℕ
