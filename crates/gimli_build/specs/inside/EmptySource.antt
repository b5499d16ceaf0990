-- What a unit is written from, and the text that stands for the source of a file that has none.
use Rattle.std.specs.Prelude.{◌≡◌}
use Rattle.gimli_build.specs
use specs.Prelude.{true, StringTables}
use specs.LineText.{LineText, IsWithin}
use specs.Built.{Built}
use specs.Conditions.{CanWrite}
use specs.Version5Tables.{first_form, sources, needs_empty, empty_text}

-- it is the empty text in the form of the other sources, and is in these tables
pub record IsEmptySource (p : Built) (texts : StringTables) (t : LineText) : Type 0 where
  pub is : t ≡ empty_text (first_form (sources p.files)) texts
  pub within : IsWithin texts t

-- so it is where the program needs one
abbrev pub StandsForNone : Built → StringTables → LineText → Type 0
StandsForNone p texts t = needs_empty p ≡ true → IsEmptySource p texts t

-- a program, and the tables that its texts are in
pub record Input : Type 0 where
  pub program : Built
  pub texts : StringTables

-- the program can be written with these tables and this text
pub record IsInput (p : Built) (texts : StringTables) (t : LineText) : Type 0 where
  pub can : CanWrite p texts
  pub empty : StandsForNone p texts t
