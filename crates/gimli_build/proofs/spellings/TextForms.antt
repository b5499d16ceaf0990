-- The texts of a table of version 5 as values: their bytes spell these, and these stand for the texts.
use Rattle.std.specs.Prelude.{◌≡◌, ◌≢◌, ◌<◌, ◌^◌}
use Rattle.gimli_build.proofs
use proofs.Common
use Common.{sym, text_bytes, ℕ, Bool, List, [], length, Ok, refl, arith, length-append, nat_eq, slice_get, unwrap_or}
use Common.{eqb-true, append-nil, recursion_from_All, slice_get-get_or, OrderAndLimit, Value, SpellsForm, Format}
use Common.{Dwarf64, DebugStr, DebugLineStr, String, DebugStrRef, DebugLineStrRef, Placement, counted, AreTexts}
use Common.{offset_of, StringTables, LineText, Inline, InStrings, InLineStrings, IsWithin, HasNoZero, bytes_in}
use Common.{Sections, IsTextAt, IsText, text_form, text_in_form, IsOffsetHeld, IsTextFound, IsFound}
use Rattle.gimli_core.specs.Form.{form_production}
use proofs.writing.WrittenParts.{same_written}
use proofs.spellings.EncodingSpellings.{offset-spelled, word-long}

-- ---- a text of a table

-- a text stands where its offset leads
text_there : (section : List ℕ) (placed : ℕ → ℕ) (texts : List (List ℕ)) (i : ℕ) → AreTexts texts → i < length texts
    → IsTextFound section placed texts i
    → IsTextAt section (placed (offset_of texts i)) (unwrap_or (slice_get texts i) [])
text_there section placed texts i are within found =
    let there = slice_get-get_or _ _ _ within in
    let stands = rw there at found in
    rw there (record { rest = stands.0; there = stands.1; no_zero = are.no_zero i [] within })

-- ---- texts as values

-- a text is its bytes, or an offset
abbrev pub read_text : Placement → StringTables → LineText → Value
read_text at texts (Inline text) = String text
read_text at texts (InStrings i) = DebugStrRef (record { 0 = at.section DebugStr (offset_of texts.strings i) })
read_text at texts (InLineStrings i) =
    DebugLineStrRef (record { 0 = at.section DebugLineStr (offset_of texts.line_strings i) })

-- a text can be read back
pub record IsReady (texts : StringTables) (t : LineText) : Type 0 where
  pub clean : HasNoZero t
  pub within : IsWithin texts t

-- an offset that a reader and 64 bits hold
abbrev pub IsHeld : ℕ → Format → Placement → StringTables → LineText → Type 0
IsHeld limit format at texts t = (format ≡ Dwarf64 → IsOffsetHeld limit at texts t) × IsOffsetHeld (2 ^ 64) at texts t

module _ (at : Placement) (layout : OrderAndLimit) (format : Format) (texts : StringTables) where
  text_spelled : (t : LineText) (bytes : List ℕ) → HasNoZero t → IsHeld layout.limit format at texts t
      → text_bytes (counted at) layout.is_big format texts t ≡ Ok bytes
      → (form_production layout format (text_form t)).Spells bytes (read_text at texts t)
  text_spelled (Inline text) bytes clean held is = (
    text,
    bytes,
    [],
    sym (append-nil bytes),
    (recursion_from_All (λ b. b ≢ 0) _ clean, same_written _ _ is),
    (refl, refl),
  )
  text_spelled (InStrings i) bytes clean held is = (
    at.section DebugStr (offset_of texts.strings i),
    bytes,
    [],
    sym (append-nil bytes),
    offset-spelled _ _ _ _ held.0 held.1 is,
    (refl, refl),
  )
  text_spelled (InLineStrings i) bytes clean held is = (
    at.section DebugLineStr (offset_of texts.line_strings i),
    bytes,
    [],
    sym (append-nil bytes),
    offset-spelled _ _ _ _ held.0 held.1 is,
    (refl, refl),
  )

  -- a text that has the form of its table
  pub text-spelled : (form : ℕ) (t : LineText) (bytes : List ℕ) → IsReady texts t
      → IsHeld layout.limit format at texts t
      → text_in_form (counted at) layout.is_big format texts form t ≡ Ok bytes
      → SpellsForm layout format form bytes (read_text at texts t)
  text-spelled form t bytes ready held is = grind (arith, nat_eq, eqb-true, text_spelled)

-- at least one byte is written of a text
text_long : (at : Placement) (is_big : Bool) (format : Format) (texts : StringTables) (t : LineText) (bytes : List ℕ)
    → text_bytes (counted at) is_big format texts t ≡ Ok bytes
    → 0 < length bytes
text_long = grind (arith, same_written, length-append, word-long)

pub text-long : (at : Placement) (is_big : Bool) (format : Format) (texts : StringTables) (form : ℕ) (t : LineText)
    (bytes : List ℕ) → text_in_form (counted at) is_big format texts form t ≡ Ok bytes → 0 < length bytes
text-long at is_big format texts form t bytes is = grind (arith, nat_eq, text_long)

-- ---- back

-- what is read of a text stands for it, with sections in which it is found
pub text-back : (at : Placement) (sections : Sections) (texts : StringTables) → AreTexts texts.strings
    → AreTexts texts.line_strings
    → (t : LineText) → IsWithin texts t → IsFound sections at texts t
    → IsText sections (read_text at texts t) (bytes_in texts t)
text-back at sections texts are_texts are_line_texts (Inline text) within found = refl
text-back at sections texts are_texts are_line_texts (InStrings i) within found =
    text_there _ (at.section DebugStr) _ i are_texts within found
text-back at sections texts are_texts are_line_texts (InLineStrings i) within found = grind (arith, text_there)
