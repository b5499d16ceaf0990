-- The text that a value stands for, as it is read.
use Rattle.std.specs.Prelude.{ℕ, List, Result, Ok, Err}
use Rattle.gimli_core.specs.Values.{Value}
use Rattle.gimli_core.specs.Reading.{◌>>=◌, skip_at, text_at}
use Rattle.gimli_core.specs.declared.error.Error.{Error}
use Rattle.gimli_core.specs.declared.error.Error.TheVariants.{ExpectedStringAttributeValue}
use Rattle.gimli_core.specs.declared.attribute_value.AttributeValue.TheVariants.{
  String,
  DebugStrRef,
  DebugLineStrRef,
}
use Rattle.gimli_build.specs.Texts.{Sections}

-- the bytes of a section from an offset on, up to a zero byte; bytes may be wanting
abbrev pub text_from : List ℕ → ℕ → Result (List ℕ) Error
text_from section offset = (skip_at offset section >>= λ skipped rest. text_at rest).0

-- the text of a value, with these sections
abbrev pub text_of : Sections → Value → Result (List ℕ) Error
text_of sections (String bytes) = Ok bytes
text_of sections (DebugStrRef offset) = text_from sections.strings offset.0
text_of sections (DebugLineStrRef offset) = text_from sections.line_strings offset.0
text_of sections v = Err ExpectedStringAttributeValue
