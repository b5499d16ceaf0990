-- The strings that values of a header stand for (DWARF 5, sections 6.2.4.1 and 7.5.5).
use Rattle.std.specs.Prelude.{◌≡◌, ◌≢◌, ℕ, ◌<◌, Bool, false, nat_eq, List, [], ◌∷◌, ◌++◌, length}
use Rattle.std.specs.Prelude.{Result, Ok, Err, drop}
use Rattle.std.specs.List.{AllByRecursion}
use Rattle.std.specs.Result.{result_map_both}
use Rattle.gimli_core.specs.Production.{text}
use Rattle.gimli_core.specs.Reading.{text_at}
use Rattle.gimli_core.specs.Values.{Value}
use Rattle.gimli_core.specs.declared.attribute_value.AttributeValue.TheVariants.{
  String,
  DebugStrRef,
  DebugStrRefSup,
  DebugLineStrRef,
  DebugStrOffsetsIndex,
}
use Rattle.gimli_lookup.specs.declared.path_error.PathError.{PathError}
use Rattle.gimli_lookup.specs.declared.path_error.PathError.TheVariants.{
  UnsupportedStringIndex,
  UnsupportedSupplementaryString,
  StringOffsetOutOfBounds,
  UnterminatedString,
  ExpectedStringAttributeValue,
}
use Rattle.gimli_lookup.specs.declared.string_sections.StringSections.{StringSections}
use Rattle.gimli_core.specs.Layout.{Seen}

-- the bytes of the sections of strings
abbrev pub Strings : Type 0
Strings = StringSections (List ℕ)

-- the bytes of sections that are readers
abbrev pub strings : {R : Type 0} → (R → Seen) → StringSections R → Strings
strings seen sections = record {
  debug_line_str = (seen sections.debug_line_str).bytes;
  debug_str = (seen sections.debug_str).bytes;
}

-- the string at the front of bytes, which are what a section has from an offset on: those before
-- the first zero byte
abbrev pub front_string : List ℕ → Result (List ℕ) PathError
front_string [] = Err StringOffsetOutOfBounds
front_string (byte ∷ bytes) =
    result_map_both (λ string. string) (λ e. UnterminatedString) (text_at (byte ∷ bytes)).0

-- the string of a section at an offset
abbrev pub string_at : List ℕ → ℕ → Result (List ℕ) PathError
string_at section offset = front_string (drop offset section)

-- the string of a value
abbrev pub string_of : Strings → Value → Result (List ℕ) PathError
string_of sections (String string) = Ok string
string_of sections (DebugLineStrRef offset) = string_at sections.debug_line_str offset.0
string_of sections (DebugStrRef offset) = string_at sections.debug_str offset.0
string_of sections (DebugStrRefSup offset) = Err UnsupportedSupplementaryString
string_of sections (DebugStrOffsetsIndex index) = Err UnsupportedStringIndex
string_of sections value = Err ExpectedStringAttributeValue

-- whether a string can be read and has no bytes
abbrev pub has_no_bytes : Result (List ℕ) PathError → Bool
has_no_bytes (Ok string) = nat_eq (length string) 0
has_no_bytes (Err e) = false

-- ---- by the grammar

-- a string is spelled in a section at an offset: bytes that aren't zero, and a zero byte
pub record IsStringAt (section : List ℕ) (offset : ℕ) (string : List ℕ) : Type 0 where
  pub spelling : List ℕ
  pub rest : List ℕ
  pub parts : drop offset section ≡ spelling ++ rest
  pub spelled : text.Spells spelling string

-- the section has bytes from the offset on, and no zero byte among them
pub record HasNoStringEnd (section : List ℕ) (offset : ℕ) : Type 0 where
  pub within : offset < length section
  pub no_zero : AllByRecursion (λ byte. byte ≢ 0) (drop offset section)
