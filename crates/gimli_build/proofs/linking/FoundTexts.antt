-- Texts that are found: in sections that hold the bytes of their tables.
use Rattle.std.specs.Prelude.{◌≡◌, ◌+◌, ◌<◌, ◌≤◌, ◌^◌, ◌∷◌, ◌++◌}
use Rattle.gimli_build.proofs.Common
use Common.{ℕ, List, [], length, drop, Option, Some, None, refl, sym, ap, ◌∙◌, arith, append_assoc, slice_get, IfSome}
use Common.{append-nil, drop-append-le, drop-drop, drop_at, DebugStr, DebugLineStr, Placement, unplaced, table_bytes}
use Common.{byte_count, offset_of, StringTables, LineText, Inline, InStrings, InLineStrings, Sections, StandsAt}
use Common.{IsOffsetHeld, IsTextFound, IsFound}
use Rattle.std.proofs.lemmas.List.Sums.{sum_by-take-le}
use Rattle.gimli_bytes.proofs.TextLemmas.{length-table_bytes, table_bytes-at}
use Rattle.gimli_build.specs.Linked.{HasTable}

offset_within : (texts : List (List ℕ)) (i : ℕ) → offset_of texts i ≤ byte_count texts
offset_within texts i = sum_by-take-le (λ t. length t + 1) texts i

-- in a section that has the bytes of a table after others
table_found : (section : List ℕ) (placed : ℕ → ℕ) (texts : List (List ℕ)) (i : ℕ) → HasTable section placed texts
    → IsTextFound section placed texts i
table_found section placed texts i has = by (slice_get texts i) refl
  where
    by : (o : Option (List ℕ)) → slice_get texts i ≡ o → IfSome o (StandsAt section (placed (offset_of texts i)))
    by None is = tt
    by (Some text) is =
        let table = table_bytes texts in
        let offset = offset_of texts i in
        let rest = table_bytes (drop (i + 1) texts) in
        let long = length-table_bytes texts in
        let short = offset_within texts i in (
          rest ++ has.after,
          ap (λ n. drop n section) (has.counted offset) ∙ ap (drop (length has.before + offset)) has.whole
              ∙ sym (drop-drop offset (length has.before) (has.before ++ (table ++ has.after)))
              ∙ ap (drop offset) (drop_at has.before (table ++ has.after) (length has.before) refl)
              ∙ drop-append-le offset table has.after (omega (arith, long))
              ∙ ap (λ l. l ++ has.after) (table_bytes-at texts i text is) ∙ append_assoc text (0 ∷ rest) has.after,
        )

pub placed-found : (at : Placement) (sections : Sections) (texts : StringTables)
    → HasTable sections.strings (at.section DebugStr) texts.strings
    → HasTable sections.line_strings (at.section DebugLineStr) texts.line_strings
    → (t : LineText) → IsFound sections at texts t
placed-found at sections texts strings line_strings (Inline text) = tt
placed-found at sections texts strings line_strings (InStrings i) = table_found _ _ _ _ strings
placed-found at sections texts strings line_strings (InLineStrings i) = table_found _ _ _ _ line_strings

-- in sections that are as the tables are written
alone : (section : List ℕ) (texts : List (List ℕ)) → section ≡ table_bytes texts → HasTable section (λ n. n) texts
alone section texts same = record {
  before = [];
  after = [];
  whole = same ∙ sym (append-nil _);
  counted = λ n. omega arith;
}

pub written-found : (sections : Sections) (texts : StringTables) → sections.strings ≡ table_bytes texts.strings
    → sections.line_strings ≡ table_bytes texts.line_strings → (t : LineText) → IsFound sections unplaced texts t
written-found sections texts strings line_strings = grind (arith, placed-found, alone)

-- 64 bits hold offsets in sections whose lengths they hold
pub written-held : (texts : StringTables) → byte_count texts.strings < 2 ^ 64 → byte_count texts.line_strings < 2 ^ 64
    → (t : LineText) → IsOffsetHeld (2 ^ 64) unplaced texts t
written-held texts short line_short t = grind (arith, offset_within)
