-- The tables of a unit of version 5 as they are written (DWARF 5, section 6.2.4, parts 13 to 20).
use Rattle.std.specs.Prelude.{◌++◌, ◌∷◌, ◌&&◌, if◌then◌else◌}
use Rattle.gimli_build.specs
use specs.Prelude
use Prelude.{ℕ, List, [], length, map, Bool, nat_eq, nat_le, Some, None, unwrap_or, Result, Ok, Err}
use Prelude.{is_none, flat_map, word_size, Format, DebugStr, DebugLineStr, uleb, Hand, with_text}
use Prelude.{index_of_text, offset_of, StringTables, Error, LineStringFormMismatch}
use Rattle.std.specs.List.{list_any}
use Rattle.gimli_core.specs.FormNumbers.{
  DW_FORM_data16,
  DW_FORM_line_strp,
  DW_FORM_string,
  DW_FORM_strp,
  DW_FORM_udata,
}
use Rattle.gimli_line.specs.LineNumbers.{
  DW_LNCT_LLVM_source,
  DW_LNCT_MD5,
  DW_LNCT_directory_index,
  DW_LNCT_path,
  DW_LNCT_size,
  DW_LNCT_timestamp,
}
use specs.Joined.{when}
use specs.LineText.{LineText, Inline, InStrings, InLineStrings}
use specs.Tables.{File}
use specs.Joined.{result_append, result_concat}
use specs.Built.{Built}

-- ---- forms (DWARF 5, section 7.5.6)

-- the form of a text: string, strp or line_strp
abbrev pub text_form : LineText → ℕ
text_form (Inline text) = DW_FORM_string
text_form (InStrings i) = DW_FORM_strp
text_form (InLineStrings i) = DW_FORM_line_strp

-- the form of a table's texts: that of its first one
abbrev pub first_form : List LineText → ℕ
first_form [] = DW_FORM_string
first_form (t ∷ texts) = text_form t

-- the paths of files
abbrev pub path_texts : List File → List LineText
path_texts files = map (λ f. f.0.0) files

-- ---- sources

-- the sources that are there, in order
abbrev pub sources : List File → List LineText
sources [] = []
sources (f ∷ files) = elim f.1.source [ Some t ↦ t ∷ sources files | None ↦ sources files ]

-- a source is to be written, and a file has none: the empty text stands for it
abbrev pub needs_empty : Built → Bool
needs_empty p =
    nat_le 5 p.encoding.version && p.file_has_source && list_any (λ f. is_none f.1.source) p.files

-- the empty text in a form, with these tables
abbrev pub empty_text : ℕ → StringTables → LineText
empty_text form texts =
    if nat_eq form DW_FORM_strp then InStrings (index_of_text texts.strings [])
    else (if nat_eq form DW_FORM_line_strp then InLineStrings (index_of_text texts.line_strings [])
    else Inline [])

-- the tables once a program is written: they have gained the empty text where it is needed and has
-- their form
abbrev pub texts_after : Built → StringTables → StringTables
texts_after p texts = record {
  strings =
      if needs_empty p && nat_eq (first_form (sources p.files)) DW_FORM_strp
      then with_text texts.strings [] else texts.strings;
  line_strings =
      if needs_empty p && nat_eq (first_form (sources p.files)) DW_FORM_line_strp
      then with_text texts.line_strings [] else texts.line_strings;
}

-- ---- formats

-- a content type and a form
abbrev pub formats_bytes : List (ℕ × ℕ) → List ℕ
formats_bytes formats = length formats ∷ flat_map (λ f. uleb f.0 ++ uleb f.1) formats

-- a path
abbrev pub directory_formats : Built → List (ℕ × ℕ)
directory_formats p = (DW_LNCT_path, first_form p.directories) ∷ []

-- a path and the index of a directory, and what the flags say: a timestamp, a size, an MD5 digest
-- and a source
abbrev pub file_formats : Built → List (ℕ × ℕ)
file_formats p =
    (DW_LNCT_path, first_form (path_texts p.files)) ∷ (DW_LNCT_directory_index, DW_FORM_udata)
    ∷ when p.file_has_timestamp (DW_LNCT_timestamp, DW_FORM_udata)
    ++ when p.file_has_size (DW_LNCT_size, DW_FORM_udata)
    ++ when p.file_has_md5 (DW_LNCT_MD5, DW_FORM_data16)
    ++ when p.file_has_source (DW_LNCT_LLVM_source, first_form (sources p.files))

-- ---- entries

-- what is stored of a file beside its path and its source
abbrev pub detail_bytes : Built → File → List ℕ
detail_bytes p f =
    uleb f.0.1
    ++ (if p.file_has_timestamp then uleb f.1.timestamp else [])
    ++ (if p.file_has_size then uleb f.1.size else [])
    ++ (if p.file_has_md5 then f.1.md5 else [])

-- each by a hand, which writes the offsets of texts
module _ (hand : Hand) (is_big : Bool) (format : Format) (texts : StringTables) where
  -- a text: its bytes and a zero byte, or its offset in the section of its table
  abbrev pub text_bytes : LineText → Result (List ℕ) Error
  text_bytes (Inline text) = Ok (text ++ 0 ∷ [])
  text_bytes (InStrings i) =
      hand.offset is_big DebugStr (offset_of texts.strings i) (word_size format)
  text_bytes (InLineStrings i) =
      hand.offset is_big DebugLineStr (offset_of texts.line_strings i) (word_size format)

  -- a text of a table whose texts have this form
  abbrev pub text_in_form : ℕ → LineText → Result (List ℕ) Error
  text_in_form form t =
      if nat_eq (text_form t) form then text_bytes t else Err LineStringFormMismatch

  -- the directories, after their formats and their number
  abbrev pub directory_table_bytes : Built → Result (List ℕ) Error
  directory_table_bytes p =
      result_append (Ok (formats_bytes (directory_formats p) ++ uleb (length p.directories)))
      (result_concat (text_in_form (first_form p.directories)) p.directories)

  -- its source, or the empty text
  abbrev pub source_bytes : Built → File → Result (List ℕ) Error
  source_bytes p f =
      if p.file_has_source
      then (let form = first_form (sources p.files) in
      text_in_form form (unwrap_or f.1.source (empty_text form texts)))
      else Ok []

  -- a file: its path, what else is known of it, and its source
  abbrev pub file_entry_bytes : Built → File → Result (List ℕ) Error
  file_entry_bytes p f =
      result_append (text_in_form (first_form (path_texts p.files)) f.0.0)
      (result_append (Ok (detail_bytes p f)) (source_bytes p f))

  -- the files, after their formats and their number
  abbrev pub file_table_bytes : Built → Result (List ℕ) Error
  file_table_bytes p =
      result_append (Ok (formats_bytes (file_formats p) ++ uleb (length p.files)))
      (result_concat (file_entry_bytes p) p.files)
