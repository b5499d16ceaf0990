-- Texts of a line program, without where they lie in memory.
use Rattle.std.specs.Prelude.{◌≢◌, ◌<◌, if◌then◌else◌}
use Rattle.gimli_build.specs
use specs.Prelude
use Prelude.{ℕ, Bool, false, List, [], length, slice_get, unwrap_or, bytes_eq, nat_eq, nat_le, All}
use Prelude.{with_text, index_of_text, StringTables}
use specs.declared.built.line_string.LineString.{LineString}
use specs.declared.built.line_string.LineString.TheVariants.{String, StringRef, LineStringRef}

-- a text: its bytes, or its index in the table of strings or of line strings
pub data LineText : Type 0 where
  Inline : List ℕ → LineText
  InStrings : ℕ → LineText
  InLineStrings : ℕ → LineText

-- the text that a value of the code is
abbrev pub line_text : LineString → LineText
line_text (String v) = Inline v.items
line_text (StringRef id) = InStrings id.0
line_text (LineStringRef id) = InLineStrings id.0

-- whether two are the same text: by bytes, or by index in one table
abbrev pub line_text_eq : LineText → LineText → Bool
line_text_eq (Inline s) (Inline t) = bytes_eq s t
line_text_eq (InStrings i) (InStrings j) = nat_eq i j
line_text_eq (InLineStrings i) (InLineStrings j) = nat_eq i j
line_text_eq s t = false

-- ---- bytes

-- the index of a text is below the count of its table
abbrev pub IsWithin : StringTables → LineText → Type 0
IsWithin texts (Inline bytes) = Unit {0}
IsWithin texts (InStrings i) = i < length texts.strings
IsWithin texts (InLineStrings i) = i < length texts.line_strings

-- the bytes of a text, with these tables
abbrev pub bytes_in : StringTables → LineText → List ℕ
bytes_in texts (Inline bytes) = bytes
bytes_in texts (InStrings i) = unwrap_or (slice_get texts.strings i) []
bytes_in texts (InLineStrings i) = unwrap_or (slice_get texts.line_strings i) []

-- bytes as a text of a program of this version, and the line strings with it
abbrev pub made_text : ℕ → List (List ℕ) → List ℕ → LineText
made_text version line_strings bytes =
    if nat_le version 4 then Inline bytes else InLineStrings (index_of_text line_strings bytes)

-- those line strings
abbrev pub made_table : ℕ → List (List ℕ) → List ℕ → List (List ℕ)
made_table version line_strings bytes =
    if nat_le version 4 then line_strings else with_text line_strings bytes

-- ---- what the texts of directories and files may be

-- a zero byte ends a text in a section
abbrev pub HasNoZero : LineText → Type 0
HasNoZero (Inline bytes) = All (λ b. b ≢ 0) bytes
HasNoZero t = Unit {0}

-- an empty text ends a table up to version 4
abbrev pub IsNotEmpty : LineText → Type 0
IsNotEmpty (Inline bytes) = bytes ≢ []
IsNotEmpty t = Unit {0}
