-- Where `write` refuses a program first, and why: its header, a directory, a file or an item.
use Rattle.std.specs.Prelude.{◌≡◌, ◌<◌, ◌&&◌, if◌then◌else◌, ◌∷◌}
use Rattle.gimli_build.specs
use specs.Prelude
use Prelude.{ℕ, suc, Bool, not, nat_eq, nat_le, nat_lt, List, [], map, Option, Some, None}
use Prelude.{slice_get}
use Prelude.{option_map_or, Constant, Symbol}
use Prelude.{option_map, option_and_then, Encoding, Format, Error, IncompatibleLineProgramEncoding}
use Prelude.{UnsupportedVersion, NeedVersion, StringTables, with_text}
use Rattle.gimli_bytes.specs.Texts.{texts_in}
use Rattle.gimli_core.specs.FormNumbers.{DW_FORM_string}
use specs.LineText.{LineText}
use specs.Tables.{File}
use specs.Built.{Built}
use specs.Version5Tables.{first_form, path_texts, sources, empty_text, texts_after}
use specs.Cause.{cause_if, first_of, word_cause, offset_cause, text_cause, item_cause}
use specs.Cause.{header_length}
use specs.Cause.{unit_length, unit_length_cause}
use specs.Unit.{is_incompatible}
use specs.declared.built.items.BuiltItem.{BuiltItem}
use specs.declared.built.items.BuiltItem.TheVariants.{SetAddress}
use specs.declared.unit.refusal.Refusal.{Refusal}
use specs.declared.unit.refusal.Refusal.TheVariants as part
use specs.declared.unit.refusal.Symbols.{Symbols}
use specs.declared.unit.refusal.Symbols.TheVariants.{Taken, Refused}

-- the answer is the first index that has a cause, with its cause
abbrev pub FindsFirst : (ℕ → Option Error) → Option (ℕ × Error) → Type 0
FindsFirst cause (Some found) =
    (cause found.0 ≡ Some found.1) × ((i : ℕ) → i < found.0 → cause i ≡ None)
FindsFirst cause None = (i : ℕ) → cause i ≡ None

-- the form that a text has to have, where the first text of its table has this one: up to version 4
-- all texts stand in the program itself
abbrev pub wanted_form : ℕ → ℕ → ℕ
wanted_form version form = if nat_le version 4 then DW_FORM_string else form

-- the tables, each with the empty text
abbrev pub with_empty : StringTables → StringTables
with_empty texts = texts_in (with_text texts.strings []) (with_text texts.line_strings [])

-- why the empty text is refused, which is in the table of its form once a program is written
abbrev pub empty_cause : Format → StringTables → ℕ → Option Error
empty_cause format texts form = offset_cause format (with_empty texts) (empty_text form texts)

module _ (p : Built) (texts : StringTables) where
  -- why a directory is refused; up to version 4 the working directory isn't written
  abbrev pub directory_cause : ℕ → LineText → Option Error
  directory_cause i t =
      if nat_le p.encoding.version 4 && nat_eq i 0 then None
      else text_cause p.encoding.format texts
      (wanted_form p.encoding.version (first_form p.directories), t)

  -- why a source is refused, or the empty text that stands for none; both only where sources are
  -- written
  abbrev pub source_cause : Option LineText → Option Error
  source_cause source =
      let form = first_form (sources p.files) in
      if nat_le 5 p.encoding.version && p.file_has_source
      then option_map_or (λ t. text_cause p.encoding.format texts (form, t)) source
      (empty_cause p.encoding.format texts form)
      else None

  -- why a file is refused: for its path, else for its source
  abbrev pub file_cause : File → Option Error
  file_cause f =
      first_of (text_cause p.encoding.format texts
      (wanted_form p.encoding.version (first_form (path_texts p.files)), f.0.0)
      ∷ source_cause f.1.source ∷ [])

  -- those at an index
  abbrev pub cause_of_directory : ℕ → Option Error
  cause_of_directory i = option_and_then (directory_cause i) (slice_get p.directories i)

  -- the same of files
  abbrev pub cause_of_file : ℕ → Option Error
  cause_of_file i = option_and_then file_cause (slice_get p.files i)

-- why the item at an index is refused
abbrev pub cause_of_item : Built → ℕ → Option Error
cause_of_item p i = option_and_then (item_cause p.encoding.address_size) (slice_get p.items i)

-- ---- all of them, in the order of `write`

-- why a program can't be written for a unit of this encoding, whatever its parts are
abbrev pub encoding_cause : Encoding → Built → Option Error
encoding_cause unit p =
    first_of (
    cause_if (is_incompatible unit p.encoding) IncompatibleLineProgramEncoding
    ∷ cause_if (not (nat_le 2 p.encoding.version && nat_le p.encoding.version 5))
    (UnsupportedVersion p.encoding.version)
    ∷ cause_if
    (nat_lt p.encoding.version 4
    && not (nat_eq p.line_encoding.maximum_operations_per_instruction 1))
    (NeedVersion 4)
    ∷ [])

-- the first element that has a cause, by its number, and the cause
abbrev pub first_with : {A : Type 0} → (ℕ → A → Option Error) → List A → Option (ℕ × Error)
first_with cause [] = None
first_with cause (x ∷ xs) = elim (cause 0 x) [
  | Some e ↦ Some (0, e)
  | None ↦ option_map (λ f. (suc f.0, f.1)) (first_with (λ i. cause (suc i)) xs)
]

-- the part of a unit that is refused first. The lengths are asked after what they count, so what
-- counts as unrefused is written then
abbrev pub first_part : Bool → Encoding → Built → StringTables → Option Refusal
first_part is_big unit p handed =
    let texts = texts_after p handed in
    first_of (
    option_map part.Header (encoding_cause unit p)
    ∷ option_map (λ f. part.Directory f.0 f.1) (first_with (directory_cause p handed) p.directories)
    ∷ option_map (λ f. part.File f.0 f.1) (first_with (λ i. file_cause p handed) p.files)
    ∷ option_map part.Header (word_cause p.encoding.format (header_length p texts))
    ∷ option_map (λ f. part.Item f.0 f.1)
    (first_with (λ i. item_cause p.encoding.address_size) p.items)
    ∷ option_map part.Header (unit_length_cause p.encoding.format (unit_length is_big p texts))
    ∷ [])

-- an item with the address 0 in place of a symbol
abbrev pub without_symbol : BuiltItem → BuiltItem
without_symbol (SetAddress (Symbol symbol addend)) = SetAddress (Constant 0)
without_symbol item = item

-- a program for a writer that takes symbols, or refuses them: one that is taken counts as the
-- address 0, which is as long, and never too wide
abbrev pub items_seen : Symbols → List BuiltItem → List BuiltItem
items_seen Taken items = map without_symbol items
items_seen Refused items = items

-- a program with its items so
abbrev pub program_seen : Symbols → Built → Built
program_seen symbols p = record p { items = items_seen symbols p.items }

-- where `write` refuses a program first, and why
abbrev pub first_refusal : Symbols → Bool → Encoding → Built → StringTables → Option Refusal
first_refusal symbols is_big unit p handed = first_part is_big unit (program_seen symbols p) handed

-- the error of a refusal
abbrev pub error_of : Refusal → Error
error_of (part.Header e) = e
error_of (part.Directory number e) = e
error_of (part.File number e) = e
error_of (part.Item number e) = e
