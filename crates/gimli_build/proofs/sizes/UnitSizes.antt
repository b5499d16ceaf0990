-- How many bytes the parts of a unit have, its tables, and a unit.
use Rattle.std.specs.Prelude.{◌≡◌, ◌+◌, ◌∷◌, if◌then◌else◌, ◌++◌}
use Rattle.gimli_build.proofs.Common
use Common.{ℕ, Bool, List, [], Ok, Err, arith, nat_le, length, drop, sym, ap, ◌∙◌, Result, sum_by, unwrap_or, word_size}
use Common.{Encoding, LineEncoding, plain, Error, LineStringFormMismatch, StringTables, Built, format_word}
use Common.{result_append, result_concat, after_length, opening_bytes, line_encoding_bytes, opcode_bytes, tables_bytes}
use Common.{fields_bytes, header_bytes, program_bytes, inside_bytes, tables_size, header_length, size_of, unit_length}
use Common.{text_size, file_size, entry_size, Format, uleb, LineText, File, name_bytes, directories_bytes, file_bytes}
use Common.{files_bytes, first_form, path_texts, sources, empty_text, directory_formats, file_formats, formats_bytes}
use Common.{detail_bytes, text_bytes, text_in_form, directory_table_bytes, file_entry_bytes, file_table_bytes}
use Rattle.gimli_bytes.proofs.RelocationLemmas.{length-number}
use Rattle.std.proofs.lemmas.List.{length-append}
use Rattle.std.proofs.lemmas.List.Sums.{sum_by-cons}

-- these are so many bytes, where they are written
abbrev pub HasSize : Result (List ℕ) Error → ℕ → Type 0
HasSize written n = (bytes : List ℕ) → written ≡ Ok bytes → length bytes ≡ n

-- ---- parts

pub size_of_ok : (own : List ℕ) → HasSize (Ok own) (length own)
size_of_ok own bytes is = grind arith

pub size_of_none : (e : Error) (n : ℕ) → HasSize (Err e) n
size_of_none e n bytes is = absurd cc

pub size_as : (written : Result (List ℕ) Error) (m n : ℕ) → m ≡ n → HasSize written m → HasSize written n
size_as _ _ _ same size bytes is = size bytes is ∙ same

pub size_tested : (test : Bool) (own : List ℕ) (e : Error) → HasSize (if test then Ok own else Err e) (length own)
size_tested test own e = grind (arith, size_of_ok, size_of_none)

-- one of two, as a test says
pub size_either : (test : Bool) (first second : Result (List ℕ) Error) (m n : ℕ) → HasSize first m → HasSize second n
    → HasSize (if test then first else second) (if test then m else n)
size_either test first second m n one other = grind arith

pub size_joined : (first rest : Result (List ℕ) Error) (m n : ℕ) → HasSize first m → HasSize rest n
    → HasSize (result_append first rest) (m + n)
size_joined (Ok a) (Ok b) m n first rest bytes is = grind (arith, length-append)
size_joined (Ok a) (Err e) m n first rest bytes is = absurd cc
size_joined (Err e) written m n first rest bytes is = absurd cc

pub size_parts : {A : Type 0} (part : A → Result (List ℕ) Error) (size : A → ℕ) → ((x : A) → HasSize (part x) (size x))
    → (xs : List A) → HasSize (result_concat part xs) (sum_by size xs)
size_parts part size each [] = size_of_ok _
size_parts part size each (x ∷ xs) = size_as _ _ _ (sym (sum_by-cons size x xs))
    (size_joined _ _ _ _ (each x) (size_parts part size each xs))

pub size_after : (length_of : ℕ → Result (List ℕ) Error) (counted : Result (List ℕ) Error) (m n : ℕ)
    → ((k : ℕ) → HasSize (length_of k) m) → HasSize counted n
    → HasSize (after_length length_of counted) (m + n)
size_after length_of (Ok own) m n before counted = size_joined _ _ m n (before (length own)) counted
size_after length_of (Err e) m n before counted = size_of_none e _

-- ---- numbers

-- a word of a format
pub format_word_size : (is_big : Bool) (format : Format) (n : ℕ)
    → HasSize (format_word is_big format n) (word_size format)
format_word_size is_big format n = grind (arith, size_as, length-number, size_tested, size_of_ok)

-- ---- up to version 4

name_size : (format : Format) (t : LineText) → HasSize (name_bytes t) (text_size format t)
name_size format t = grind (arith, size_as, length-append, size_of_ok, size_of_none)

directories_size : (format : Format) (directories : List LineText)
    → HasSize (directories_bytes directories) (sum_by (text_size format) (drop 1 directories) + 1)
directories_size format directories = size_joined _ _ _ 1
    (size_parts _ _ (name_size _) (drop 1 directories)) (size_of_ok _)

three_lengths : (a b c : List ℕ) (n : ℕ) → n + length (a ++ b ++ c) ≡ n + length a + length b + length c
three_lengths a b c n = grind (arith, length-append)

one_file_size : (format : Format) (f : File) → HasSize (file_bytes f) (file_size format f)
one_file_size _ _ = size_as _ _ _ (three_lengths _ _ _ _) (size_joined _ _ _ _ (name_size _ _) (size_of_ok _))

files_size : (format : Format) (files : List File) → HasSize (files_bytes files) (sum_by (file_size format) files + 1)
files_size format files = size_joined _ _ _ 1 (size_parts _ _ (one_file_size _) files) (size_of_ok _)

-- ---- texts of version 5

nothing_first : (n : ℕ) → n ≡ 0 + n
nothing_first n = omega arith

module _ (is_big : Bool) (format : Format) (texts : StringTables) where
  stored_size : (t : LineText) → HasSize (text_bytes plain is_big format texts t) (text_size format t)
  stored_size t = grind (arith, name_size, format_word_size)

  tested_text : (same : Bool) (t : LineText)
      → HasSize (if same then text_bytes plain is_big format texts t else Err LineStringFormMismatch)
      (text_size format t)
  tested_text same t = grind (arith, stored_size, size_of_none)

  formed_size : (form : ℕ) (t : LineText) → HasSize (text_in_form plain is_big format texts form t) (text_size format t)
  formed_size _ _ = tested_text _ _

  -- a source that is written, or none
  source_size : (has : Bool) (form : ℕ) (t : LineText)
      → HasSize (if has then text_in_form plain is_big format texts form t else Ok [])
      (sum_by (λ (s : ℕ × LineText). text_size format s.1) (if has then (form, t) ∷ [] else []))
  source_size has form t = grind (arith, size_as, nothing_first, formed_size, size_of_ok)

-- ---- tables of version 5

-- formats and a number, and what stands after them
prefixed_size : (formats number : List ℕ) (rest : Result (List ℕ) Error) (n : ℕ) → HasSize rest n
    → HasSize (result_append (Ok (formats ++ number)) rest) (length formats + length number + n)
prefixed_size _ _ _ _ size = grind (arith, length-append)

path_first : (path details source : ℕ) → path + (details + source) ≡ (path + source) + details
path_first _ _ _ = omega arith

module _ (is_big : Bool) (p : Built) (texts : StringTables) where
  one_entry_size : (f : File)
      → HasSize (file_entry_bytes plain is_big p.encoding.format texts p f) (entry_size p texts f)
  one_entry_size f =
      let format = p.encoding.format in
      let form = first_form (sources p.files) in
      let source = unwrap_or f.1.source (empty_text form texts) in
      let sized = λ (s : ℕ × LineText). text_size format s.1 in
      let last = if p.file_has_source then (form, source) ∷ [] else [] in
      let details = length (detail_bytes p f) in
      size_as _ _ _
      (path_first _ _ _ ∙ ap (λ k. k + details) (sym (sum_by-cons sized (first_form (path_texts p.files), f.0.0) last)))
      (size_joined _ _ _
      _
      (formed_size _ _ _ _ _)
      (size_joined _ _ _ _ (size_of_ok _)
      (source_size _ _ _ _ _ _)))

  directory_table_size : HasSize (directory_table_bytes plain is_big p.encoding.format texts p)
      (length (formats_bytes (directory_formats p)) + length (uleb (length p.directories))
      + sum_by (text_size p.encoding.format) p.directories)
  directory_table_size =
      let format = p.encoding.format in
      let form = first_form p.directories in
      prefixed_size (formats_bytes (directory_formats p)) (uleb (length p.directories))
      _ _
      (size_parts _ _ (formed_size is_big format texts form) p.directories)

  file_table_size : HasSize (file_table_bytes plain is_big p.encoding.format texts p)
      (length (formats_bytes (file_formats p)) + length (uleb (length p.files)) + sum_by (entry_size p texts) p.files)
  file_table_size = prefixed_size (formats_bytes (file_formats p)) (uleb (length p.files)) _ _
      (size_parts _ _ one_entry_size _)

  -- ---- both

  -- the tables are as long as is said
  pub tables-size : HasSize (tables_bytes plain is_big p texts) (tables_size p texts)
  tables-size =
      let format = p.encoding.format in
      size_either _ _
      _
      _ _
      (size_joined _ _ _ _ (directories_size format p.directories)
      (files_size format p.files))
      (size_joined _ _ _ _ directory_table_size file_table_size)

-- ---- the version and what stands with it

opening_size : (is_big : Bool) (encoding : Encoding)
    → HasSize (opening_bytes is_big encoding) (if nat_le encoding.version 4 then 2 else 4)
opening_size _ _ = grind arith

-- ---- what the header length counts

line_encoding_size : (version : ℕ) (e : LineEncoding)
    → HasSize (line_encoding_bytes version e) (if nat_le 4 version then 5 else 4)
line_encoding_size _ _ = grind arith

three_parts : (a b c : ℕ) → a + (b + c) ≡ a + b + c
three_parts a b c = omega arith

own_size : (written : Result (List ℕ) Error) → HasSize written (size_of written)
own_size written = grind (arith, size_of_ok, size_of_none)

two_and_two : (a b c d : ℕ) → a + ((b + c) + d) ≡ a + b + c + d
two_and_two a b c d = omega arith

module _ (is_big : Bool) (p : Built) (texts : StringTables) where
  -- what the header length counts is as long as it says
  pub fields_size : HasSize (fields_bytes plain is_big p texts) (header_length p texts)
  fields_size =
      let encoding = if nat_le 4 p.encoding.version then 5 else 4 in
      let count = tables_size p texts in
      size_as _ _ _ (three_parts encoding 13 count)
      (size_joined _ _ _ _
      (line_encoding_size _ _)
      (size_joined _ _ _ _ (size_of_ok opcode_bytes) (tables-size is_big p texts)))

  -- ---- what the unit length counts

  header_size : HasSize (header_bytes plain is_big p texts) (word_size p.encoding.format + header_length p texts)
  header_size =
      let word = word_size p.encoding.format in
      size_after (λ n. format_word is_big p.encoding.format n) _ word _
      (λ n. format_word_size is_big p.encoding.format n) fields_size

  -- what the unit length counts is as long as it says
  pub inside_size : HasSize (inside_bytes plain is_big p texts) (unit_length is_big p texts)
  inside_size =
      let opening = if nat_le p.encoding.version 4 then 2 else 4 in
      let word = word_size p.encoding.format in
      let program = size_of (program_bytes plain is_big p) in
      let counted = header_length p texts in
      size_as _ _ _
      (two_and_two opening word counted program)
      (size_joined _ _ _ _
      (opening_size is_big p.encoding)
      (size_joined _ _ _ _ header_size (own_size _)))
