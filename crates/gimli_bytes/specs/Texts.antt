-- String tables as lists of texts.
use Rattle.std.specs.Prelude.{◌≡◌, ◌≢◌, ◌+◌, ◌<◌, ◌∷◌, ◌++◌, if◌then◌else◌, ℕ, List, [], length}
use Rattle.std.specs.Prelude.{take, slice_get, sum_by, bytes_eq, All, AllPairs}
use Rattle.std.specs.List.{list_any, position_or_len, flat_map}

-- the texts of a table: no two are the same, and none has a zero byte, which ends a text in a
-- section
pub record AreTexts (texts : List (List ℕ)) : Type 0 where
  pub distinct : AllPairs (λ s t. s ≢ t) texts
  pub no_zero : All (λ t. All (λ b. b ≢ 0) t) texts

-- the table after a text is added: a text that is there changes nothing, any other goes last
abbrev pub with_text : List (List ℕ) → List ℕ → List (List ℕ)
with_text texts t = if list_any (bytes_eq t) texts then texts else texts ++ t ∷ []

-- the place of a text, which is the end where it isn't there
abbrev pub index_of_text : List (List ℕ) → List ℕ → ℕ
index_of_text texts t = position_or_len (bytes_eq t) texts

-- what a table is written as: each text and a zero byte
abbrev pub table_bytes : List (List ℕ) → List ℕ
table_bytes texts = flat_map (λ t. t ++ 0 ∷ []) texts

-- the number of those bytes
abbrev pub byte_count : List (List ℕ) → ℕ
byte_count texts = sum_by (λ t. length t + 1) texts

-- where a text begins among them
abbrev pub offset_of : List (List ℕ) → ℕ → ℕ
offset_of texts i = byte_count (take i texts)

-- each text that was there has its old id and its old offset
pub record KeepsTexts (old new : List (List ℕ)) : Type 0 where
  pub text : (i : ℕ) → i < length old → slice_get new i ≡ slice_get old i
  pub offset : (i : ℕ) → i < length old → offset_of new i ≡ offset_of old i

-- the texts of the two tables of strings: those of `.debug_str`, and those of `.debug_line_str`
pub record StringTables : Type 0 where
  pub strings : List (List ℕ)
  pub line_strings : List (List ℕ)

-- the texts in these tables
abbrev pub texts_in : List (List ℕ) → List (List ℕ) → StringTables
texts_in strings line_strings = record { strings = strings; line_strings = line_strings }

-- both are empty
abbrev pub no_texts : StringTables
no_texts = texts_in [] []
