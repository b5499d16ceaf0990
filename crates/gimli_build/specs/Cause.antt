-- Why a unit can't be written: the first cause, in the order of what is written.
use Rattle.std.specs.Prelude.{◌+◌, ◌^◌, ◌∷◌, ◌++◌, ◌&&◌, if◌then◌else◌}
use Rattle.gimli_build.specs
use specs.Prelude
use Prelude.{ℕ, List, [], length, map, flat_map, drop, sum_by, unwrap_or, Bool, not, nat_eq, nat_le}
use Prelude.{nat_lt, Option, Some, None, Result, Ok, Err, word_size, Encoding, Format, Dwarf32}
use Prelude.{Dwarf64, plain, uleb, Constant, Symbol, Error, IncompatibleLineProgramEncoding}
use Prelude.{UnsupportedVersion, NeedVersion, LineStringFormMismatch, ValueTooLarge, InvalidAddress}
use Prelude.{InitialLengthOverflow, offset_of, StringTables}
use Rattle.gimli_core.specs.FormNumbers.{DW_FORM_string}
use specs.LineText.{LineText, Inline, InStrings, InLineStrings}
use specs.Tables.{File}
use specs.Built.{Built}
use specs.Version5Tables.{
  text_form,
  first_form,
  path_texts,
  sources,
  empty_text,
  texts_after,
  directory_formats,
  file_formats,
  formats_bytes,
  detail_bytes,
}
use specs.Unit.{is_incompatible, opcode_bytes, program_bytes}
use specs.declared.built.items.BuiltItem.{BuiltItem}
use specs.declared.built.items.BuiltItem.TheVariants.{SetAddress}

-- a cause where the test holds
abbrev pub cause_if : Bool → Error → Option Error
cause_if test e = if test then Some e else None

-- the first cause of a list
abbrev pub first_of : {A : Type 0} → List (Option A) → Option A
first_of [] = None
first_of (Some e ∷ causes) = Some e
first_of (None ∷ causes) = first_of causes

-- ---- what is emitted

-- a length or an offset that a word of the format can't hold; one of the 64-bit format holds each
abbrev pub word_cause : Format → ℕ → Option Error
word_cause Dwarf32 n = cause_if (nat_le (2 ^ 32) n) ValueTooLarge
word_cause Dwarf64 n = None

-- the offset of a text in the section of its table
abbrev pub offset_cause : Format → StringTables → LineText → Option Error
offset_cause format texts (Inline text) = None
offset_cause format texts (InStrings i) = word_cause format (offset_of texts.strings i)
offset_cause format texts (InLineStrings i) = word_cause format (offset_of texts.line_strings i)

-- a text that hasn't the form of its table, or whose offset is too large
abbrev pub text_cause : Format → StringTables → ℕ × LineText → Option Error
text_cause format texts t =
    first_of (cause_if (not (nat_eq (text_form t.1) t.0)) LineStringFormMismatch
    ∷ offset_cause format texts t.1 ∷ [])

-- the texts of a file in version 5: its path, and its source or the empty text
abbrev pub file_texts : Built → StringTables → File → List (ℕ × LineText)
file_texts p texts f =
    let form = first_form (sources p.files) in
    (first_form (path_texts p.files), f.0.0)
    ∷ (if p.file_has_source then (form, unwrap_or f.1.source (empty_text form texts)) ∷ [] else [])

-- the texts that are emitted, in order, each with the form of its table's texts; up to version 4
-- that is the form string, and the working directory isn't emitted
abbrev pub emitted_texts : Built → StringTables → List (ℕ × LineText)
emitted_texts p texts =
    if nat_le p.encoding.version 4
    then map (λ t. (DW_FORM_string, t)) (drop 1 p.directories ++ path_texts p.files)
    else map (λ t. (first_form p.directories, t)) p.directories
    ++ flat_map (file_texts p texts) p.files

-- a symbol as address, or a constant that is wider than an address
abbrev pub item_cause : ℕ → BuiltItem → Option Error
item_cause size (SetAddress (Constant a)) = cause_if (nat_le (256 ^ size) a) ValueTooLarge
item_cause size (SetAddress (Symbol symbol addend)) = Some InvalidAddress
item_cause size item = None

-- ---- lengths

-- how many bytes a text takes
abbrev pub text_size : Format → LineText → ℕ
text_size format (Inline text) = length text + 1
text_size format t = word_size format

-- a file up to version 4
abbrev pub file_size : Format → File → ℕ
file_size format f =
    text_size format f.0.0 + length (uleb f.0.1) + length (uleb f.1.timestamp)
    + length (uleb f.1.size)

-- a file of version 5
abbrev pub entry_size : Built → StringTables → File → ℕ
entry_size p texts f =
    sum_by (λ t. text_size p.encoding.format t.1) (file_texts p texts f) + length (detail_bytes p f)

-- the tables: up to version 4 each is closed by a zero byte; in version 5 formats and a number
-- stand before each
abbrev pub tables_size : Built → StringTables → ℕ
tables_size p texts =
    if nat_le p.encoding.version 4
    then (sum_by (text_size p.encoding.format) (drop 1 p.directories) + 1)
    + (sum_by (file_size p.encoding.format) p.files + 1)
    else (length (formats_bytes (directory_formats p)) + length (uleb (length p.directories))
    + sum_by (text_size p.encoding.format) p.directories)
    + (length (formats_bytes (file_formats p)) + length (uleb (length p.files))
    + sum_by (entry_size p texts) p.files)

-- how many bytes the header length counts: the numbers of the line encoding, the opcode base and
-- twelve operand counts, and the tables
abbrev pub header_length : Built → StringTables → ℕ
header_length p texts =
    (if nat_le 4 p.encoding.version then 5 else 4) + length opcode_bytes + tables_size p texts

-- how many bytes are there, where nothing is refused
abbrev pub size_of : Result (List ℕ) Error → ℕ
size_of (Ok bytes) = length bytes
size_of (Err e) = 0

-- how many bytes the unit length counts: the version and what stands with it, the header length and
-- what it counts, and the instructions
abbrev pub unit_length : Bool → Built → StringTables → ℕ
unit_length is_big p texts =
    (if nat_le p.encoding.version 4 then 2 else 4) + word_size p.encoding.format
    + header_length p texts + size_of (program_bytes plain is_big p)

-- the greatest words of the 32-bit format are reserved
abbrev pub unit_length_cause : Format → ℕ → Option Error
unit_length_cause Dwarf32 n =
    first_of (cause_if (nat_le (2 ^ 32) n) ValueTooLarge
    ∷ cause_if (nat_le 0xffff_fff0 n) InitialLengthOverflow ∷ [])
unit_length_cause Dwarf64 n = None

-- ---- the first cause

-- why a program can't be written for a unit of this encoding, with these tables
abbrev pub first_cause : Bool → Encoding → Built → StringTables → Option Error
first_cause is_big unit p handed =
    let texts = texts_after p handed in
    first_of (
    cause_if (is_incompatible unit p.encoding) IncompatibleLineProgramEncoding
    ∷ cause_if (not (nat_le 2 p.encoding.version && nat_le p.encoding.version 5))
    (UnsupportedVersion p.encoding.version)
    ∷ cause_if
    (nat_lt p.encoding.version 4
    && not (nat_eq p.line_encoding.maximum_operations_per_instruction 1))
    (NeedVersion 4)
    ∷ first_of (map (text_cause p.encoding.format texts) (emitted_texts p texts))
    ∷ word_cause p.encoding.format (header_length p texts)
    ∷ first_of (map (item_cause p.encoding.address_size) p.items)
    ∷ unit_length_cause p.encoding.format (unit_length is_big p texts)
    ∷ [])

-- what bytes are refused for
abbrev pub refusal : Result (List ℕ) Error → Option Error
refusal (Ok bytes) = None
refusal (Err e) = Some e
