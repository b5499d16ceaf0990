-- What bytes are refused for, where they are written part by part.
use Rattle.std.specs.Prelude.{◌≡◌, ◌∷◌, ◌++◌, if◌then◌else◌, ◌^◌, ◌⊎◌, ◌&&◌}
use Rattle.gimli_build.proofs
use proofs.Common
use Common.{ℕ, Bool, true, false, not, List, [], length, map, Ok, Err, refl, sym, ap, ◌∙◌, arith, nat_le, nat_eq}
use Common.{Option, Some, None, Result, flat_map, IsTrue, nat_lt, Error, result_append, result_concat, after_length}
use Common.{cause_if, first_of, refusal, word_cause, unit_length_cause, ltb-true, ltb-false, is_address_size, Format}
use Common.{udata, length_word, ValueTooLarge, format_word, drop, plain, StringTables, LineText, File, Built}
use Common.{name_bytes, directories_bytes, file_bytes, files_bytes, first_form, path_texts}
use Common.{text_bytes, text_in_form, directory_table_bytes, file_entry_bytes, file_table_bytes}
use Common.{tables_bytes, offset_cause, text_cause, file_texts, emitted_texts, inl, inr, result_map, Encoding}
use Common.{LineEncoding, Appends, UnsupportedVersion, NeedVersion, LineRow, BuiltItem, item_bytes, items_bytes}
use Common.{next_previous, opening_bytes, operations_bytes, line_encoding_bytes, fields_bytes, header_bytes}
use Common.{inside_bytes, escape_bytes, whole_bytes, unit_bytes, item_cause, header_length, unit_length, first_cause}
use proofs.writing.Joined.{appended_bytes}
use proofs.sizes.UnitSizes.{fields_size, inside_size}

-- ---- causes

-- the earlier of two causes
abbrev pub or_first : Option Error → Option Error → Option Error
or_first (Some e) later = Some e
or_first None later = later

pub first_before_none : (cause : Option Error) → or_first cause None ≡ cause
first_before_none cause = grind arith

pub first_apart : (cause : Option Error) (causes : List (Option Error))
    → first_of (cause ∷ causes) ≡ or_first cause (first_of causes)
first_apart cause causes = grind arith

pub or_first_apart : (first next last : Option Error)
    → or_first (or_first first next) last ≡ or_first first (or_first next last)
or_first_apart first next last = grind arith

pub first_alone : (cause : Option Error) → first_of (cause ∷ []) ≡ cause
first_alone cause = grind arith

-- ---- the causes of a list

pub causes_append : {A : Type 0} (cause : A → Option Error) (xs ys : List A)
    → first_of (map cause (xs ++ ys)) ≡ or_first (first_of (map cause xs)) (first_of (map cause ys))
causes_append cause [] ys = refl
causes_append cause (x ∷ xs) ys =
    let first = first_of (map cause xs) in
    let last = first_of (map cause ys) in
    first_apart (cause x) (map cause (xs ++ ys)) ∙ ap (λ c. or_first (cause x) c) (causes_append cause xs ys)
    ∙ sym (or_first_apart (cause x) first last) ∙ ap (λ c. or_first c last) (sym (first_apart (cause x) (map cause xs)))

pub causes_map : {A B : Type 0} (cause : B → Option Error) (f : A → B) (xs : List A)
    → first_of (map cause (map f xs)) ≡ first_of (map (λ (x : A). cause (f x)) xs)
causes_map cause f [] = refl
causes_map {A = A} cause f (x ∷ xs) = first_apart (cause (f x)) (map cause (map f xs))
    ∙ ap (λ c. or_first (cause (f x)) c) (causes_map cause f xs)
    ∙ sym (first_apart (cause (f x)) (map (λ y. cause (f y)) xs))

pub causes_flat : {A B : Type 0} (cause : B → Option Error) (f : A → List B) (xs : List A)
    → first_of (map cause (flat_map f xs)) ≡ first_of (map (λ (x : A). first_of (map cause (f x))) xs)
causes_flat cause f [] = refl
causes_flat {A = A} cause f (x ∷ xs) =
    let first = first_of (map cause (f x)) in
    causes_append cause (f x) (flat_map f xs) ∙ ap (λ c. or_first first c) (causes_flat cause f xs)
    ∙ sym (first_apart first (map (λ y. first_of (map cause (f y))) xs))

-- ---- refusals

pub joined-refusal : (first rest : Result (List ℕ) Error)
    → refusal (result_append first rest) ≡ or_first (refusal first) (refusal rest)
joined-refusal first rest = grind arith

pub parts-refusal : {A : Type 0} (part : A → Result (List ℕ) Error) (cause : A → Option Error)
    → ((x : A) → refusal (part x) ≡ cause x)
    → (xs : List A) → refusal (result_concat part xs) ≡ first_of (map cause xs)
parts-refusal part cause each [] = refl
parts-refusal part cause each (x ∷ xs) = joined-refusal _ _
    ∙ (λ i. or_first (each x i) (parts-refusal part cause each xs i)) ∙ sym (first_apart (cause x) (map cause xs))

-- a length is refused where nothing before it is
pub after-refusal : (length_of : ℕ → Result (List ℕ) Error) (counted : Result (List ℕ) Error) (cause : Option Error)
    → ((bytes : List ℕ) → counted ≡ Ok bytes → refusal (length_of (length bytes)) ≡ cause)
    → refusal (after_length length_of counted) ≡ or_first (refusal counted) cause
after-refusal length_of counted cause refused = grind (arith, joined-refusal, first_before_none)

-- bytes that are written where a test holds
pub tested-refusal : (test : Bool) (bytes : List ℕ) (e : Error)
    → refusal (if test then Ok bytes else Err e) ≡ cause_if (not test) e
tested-refusal test bytes e = grind arith

-- bytes that are refused where a test holds
pub barred-refusal : (test : Bool) (e : Error) (rest : Result (List ℕ) Error)
    → refusal (if test then Err e else rest) ≡ or_first (cause_if test e) (refusal rest)
barred-refusal test e rest = grind arith

-- seven causes, as the parts of a unit have them
pub seven_causes : (bar version operations texts header items unit : Option Error)
    → first_of (bar ∷ version ∷ operations ∷ texts ∷ header ∷ items ∷ unit ∷ [])
    ≡ or_first bar (or_first (or_first version (or_first (or_first (or_first operations texts) header) items)) unit)
seven_causes bar version operations texts header items unit = grind arith

-- ---- what numbers are refused for, where they are written

pub not_below : (m n : ℕ) → not (nat_lt m n) ≡ nat_le n m
not_below m n = grind arith

-- the word of a header length or an offset
pub word-refusal : (is_big : Bool) (format : Format) (n : ℕ)
    → refusal (format_word is_big format n) ≡ word_cause format n
word-refusal is_big format n = grind (arith, tested-refusal, not_below)

-- the word of a unit length
pub length-refusal : (is_big : Bool) (format : Format) (n : ℕ)
    → refusal (length_word is_big format n) ≡ unit_length_cause format n
length-refusal is_big format n = grind (arith, not_below, ltb-true, ltb-false)

pub address-refusal : (is_big : Bool) (a size : ℕ) → IsTrue (is_address_size size)
    → refusal (udata is_big a size) ≡ cause_if (nat_le (256 ^ size) a) ValueTooLarge
address-refusal _ _ _ known = grind arith

-- ---- what the tables of a unit are refused for

module _ (format : Format) (texts : StringTables) where
  -- why a text isn't written
  abbrev cause_of : ℕ × LineText → Option Error
  cause_of t = text_cause format texts t

  -- up to version 4
  abbrev name_cause : LineText → Option Error
  name_cause t = cause_of (0x08, t)

  -- ---- up to version 4

  name-refusal : (t : LineText) → refusal (name_bytes t) ≡ name_cause t
  name-refusal t = grind arith

  directories-refusal : (directories : List LineText)
      → refusal (directories_bytes directories) ≡ first_of (map name_cause (drop 1 directories))
  directories-refusal directories = joined-refusal _ _ ∙ first_before_none _
      ∙ parts-refusal _ _ name-refusal (drop 1 directories)

  file-refusal : (f : File) → refusal (file_bytes f) ≡ name_cause f.0.0
  file-refusal f = joined-refusal _ _ ∙ first_before_none _ ∙ name-refusal _

  files-refusal : (files : List File) → refusal (files_bytes files) ≡ first_of (map name_cause (path_texts files))
  files-refusal files = grind (arith, joined-refusal, first_before_none, parts-refusal, file-refusal, causes_map)

  old-refusal : (directories : List LineText) (files : List File)
      → refusal (result_append (directories_bytes directories) (files_bytes files))
      ≡ first_of (map cause_of (map (λ (t : LineText). (0x08, t)) (drop 1 directories ++ path_texts files)))
  old-refusal directories files =
      grind (arith, joined-refusal, directories-refusal, files-refusal, causes_append, causes_map)

  -- ---- texts of version 5

  module _ (is_big : Bool) where
    stored-refusal : (t : LineText) → refusal (text_bytes plain is_big format texts t) ≡ offset_cause format texts t
    stored-refusal t = grind (arith, word-refusal)

    formed-refusal : (form : ℕ) (t : LineText)
        → refusal (text_in_form plain is_big format texts form t) ≡ cause_of (form, t)
    formed-refusal form t = grind (arith, nat_eq, stored-refusal, first_alone)

    -- a source that is written, or none
    source-refusal : (has : Bool) (form : ℕ) (t : LineText)
        → refusal (if has then text_in_form plain is_big format texts form t else Ok [])
        ≡ first_of (map cause_of (if has then (form, t) ∷ [] else []))
    source-refusal has form t = grind (arith, formed-refusal, first_alone)

-- ---- tables of version 5

-- what can't be refused stands first
appended-refusal : (first : List ℕ) (rest : Result (List ℕ) Error) (cause : Option Error) → refusal rest ≡ cause
    → refusal (result_append (Ok first) rest) ≡ cause
appended-refusal first rest cause h = joined-refusal (Ok first) rest ∙ h

module _ (is_big : Bool) (p : Built) (texts : StringTables) where
  abbrev own_cause : ℕ × LineText → Option Error
  own_cause t = text_cause p.encoding.format texts t

  entry-refusal : (f : File)
      → refusal (file_entry_bytes plain is_big p.encoding.format texts p f)
      ≡ first_of (map own_cause (file_texts p texts f))
  entry-refusal f = grind (arith, joined-refusal, formed-refusal, appended-refusal, source-refusal, first_apart)

  directory_table-refusal : refusal (directory_table_bytes plain is_big p.encoding.format texts p)
      ≡ first_of (map own_cause (map (λ (t : LineText). (first_form p.directories, t)) p.directories))
  directory_table-refusal = grind (arith, appended-refusal, parts-refusal, formed-refusal, causes_map)

  file_table-refusal : refusal (file_table_bytes plain is_big p.encoding.format texts p)
      ≡ first_of (map own_cause (flat_map (file_texts p texts) p.files))
  file_table-refusal = grind (arith, appended-refusal, parts-refusal, entry-refusal, causes_flat)

  new-refusal : refusal (result_append (directory_table_bytes plain is_big p.encoding.format texts p)
      (file_table_bytes plain is_big p.encoding.format texts p))
      ≡ first_of (map own_cause
      (map (λ (t : LineText). (first_form p.directories, t)) p.directories ++ flat_map (file_texts p texts) p.files))
  new-refusal = grind (arith, joined-refusal, directory_table-refusal, file_table-refusal, causes_append)

  -- ---- both

  -- the tables are refused for the first text that has a cause
  pub tables-refusal : refusal (tables_bytes plain is_big p texts) ≡ first_of (map own_cause (emitted_texts p texts))
  tables-refusal = by (nat_le p.encoding.version 4) _ _ _ _
      (old-refusal p.encoding.format texts p.directories p.files) new-refusal
    where
      by : (test : Bool) (old new : Result (List ℕ) Error) (olds news : List (ℕ × LineText))
          → refusal old ≡ first_of (map own_cause olds) → refusal new ≡ first_of (map own_cause news)
          → refusal (if test then old else new) ≡ first_of (map own_cause (if test then olds else news))
      by true old new olds news h k = h
      by false old new olds news h k = k

-- ---- the first cause of a program is what its bytes are refused for

-- ---- the causes one by one

abbrev version_cause : Built → Option Error
version_cause p =
    cause_if (not (nat_le 2 p.encoding.version && nat_le p.encoding.version 5)) (UnsupportedVersion p.encoding.version)

abbrev operations_cause : ℕ → ℕ → Option Error
operations_cause version operations = cause_if (nat_lt version 4 && not (nat_eq operations 1)) (NeedVersion 4)

abbrev encoding_cause : Built → Option Error
encoding_cause p = operations_cause p.encoding.version p.line_encoding.maximum_operations_per_instruction

abbrev texts_cause : Built → StringTables → Option Error
texts_cause p texts = first_of (map (text_cause p.encoding.format texts) (emitted_texts p texts))

abbrev header_cause : Built → StringTables → Option Error
header_cause p texts = word_cause p.encoding.format (header_length p texts)

abbrev items_cause : Built → Option Error
items_cause p = first_of (map (item_cause p.encoding.address_size) p.items)

abbrev unit_cause : Bool → Built → StringTables → Option Error
unit_cause is_big p texts = unit_length_cause p.encoding.format (unit_length is_big p texts)

-- ---- the version and what stands with it

opening-refusal : (is_big : Bool) (encoding : Encoding)
    → refusal (opening_bytes is_big encoding)
    ≡ cause_if (not (nat_le 2 encoding.version && nat_le encoding.version 5)) (UnsupportedVersion encoding.version)
opening-refusal is_big encoding = joined-refusal _ _ ∙ first_before_none _ ∙ tested-refusal _ _ _

-- ---- what the header length counts

operations-refusal : (version operations : ℕ)
    → refusal (operations_bytes version operations) ≡ operations_cause version operations
operations-refusal version operations = grind (arith, nat_eq, not_below)

line_encoding-refusal : (version : ℕ) (e : LineEncoding)
    → refusal (line_encoding_bytes version e) ≡ operations_cause version e.maximum_operations_per_instruction
line_encoding-refusal version e = appended-refusal (e.minimum_instruction_length ∷ []) _ _
    (joined-refusal _ _ ∙ first_before_none _ ∙ operations-refusal version _)

-- ---- items

seen-refusal : (view : List ℕ → List ℕ) (written : Result (List ℕ) Error)
    → refusal (result_map view written) ≡ refusal written
seen-refusal view written = grind arith

item-refusal : (is_big : Bool) (encoding : Encoding) (e : LineEncoding) (previous : LineRow)
    → IsTrue (is_address_size encoding.address_size)
    → (item : BuiltItem)
    → refusal (item_bytes plain is_big encoding e previous item) ≡ item_cause encoding.address_size item
item-refusal is_big encoding e previous known item = grind (arith, seen-refusal, address-refusal)

pub items-refusal : (is_big : Bool) (encoding : Encoding) (e : LineEncoding)
    → IsTrue (is_address_size encoding.address_size)
    → (previous : LineRow) (items : List BuiltItem)
    → refusal (items_bytes plain is_big encoding e previous items)
    ≡ first_of (map (item_cause encoding.address_size) items)
items-refusal is_big encoding e known previous [] = refl
items-refusal is_big encoding e known previous (item ∷ items) = joined-refusal _ _
    ∙ (λ i. or_first (item-refusal is_big encoding e previous known item i)
    (items-refusal is_big encoding e known (next_previous encoding.version e.default_is_stmt previous item) items i))
    ∙ sym (first_apart _ (map (item_cause encoding.address_size) items))

-- ---- the unit

module _ (is_big : Bool) (p : Built) (texts : StringTables) where
  fields-refusal : refusal (fields_bytes plain is_big p texts) ≡ or_first (encoding_cause p) (texts_cause p texts)
  fields-refusal = grind (arith, joined-refusal, line_encoding-refusal, appended-refusal, tables-refusal)

  -- the causes of the header
  abbrev first_causes : Option Error
  first_causes = or_first (or_first (encoding_cause p) (texts_cause p texts)) (header_cause p texts)

  header-refusal : refusal (header_bytes plain is_big p texts) ≡ first_causes
  header-refusal =
      let format = p.encoding.format in
      after-refusal (λ n. format_word is_big format n) _ (header_cause p texts)
      (λ bytes is. word-refusal is_big format _ ∙ ap (word_cause format) (fields_size is_big p texts bytes is))
      ∙ ap (λ c. or_first c (header_cause p texts)) fields-refusal

  -- the causes of what the unit length counts
  abbrev inside_cause : Option Error
  inside_cause = or_first (version_cause p) (or_first first_causes (items_cause p))

  module _ (known : IsTrue (is_address_size p.encoding.address_size)) where
    inside-refusal : refusal (inside_bytes plain is_big p texts) ≡ inside_cause
    inside-refusal = grind (arith, joined-refusal, opening-refusal, header-refusal, items-refusal)

    whole-refusal : refusal (whole_bytes plain is_big p texts) ≡ or_first inside_cause (unit_cause is_big p texts)
    whole-refusal =
        let format = p.encoding.format in
        after-refusal (λ n. result_append (Ok (escape_bytes is_big format)) (length_word is_big format n)) _ _
        (λ bytes is. appended-refusal (escape_bytes is_big format) _ _ (length-refusal is_big format (length bytes)
        ∙ ap (unit_length_cause format) (inside_size is_big p texts bytes is)))
        ∙ ap (λ c. or_first c (unit_cause is_big p texts)) inside-refusal

-- the first cause of a program is what its bytes are refused for
pub cause-is : (is_big : Bool) (unit : Encoding) (p : Built) (texts : StringTables)
    → IsTrue (is_address_size p.encoding.address_size)
    → first_cause is_big unit p texts ≡ refusal (unit_bytes plain is_big unit p texts)
cause-is is_big unit p texts known = grind (arith, seven_causes, whole-refusal, barred-refusal)

-- ---- what a call knows

-- what was written has no cause
pub no-cause : (cause : Option Error) (wanted : Result (List ℕ) Error) (old new : List ℕ) → cause ≡ refusal wanted
    → Appends wanted old new → cause ≡ None
no-cause _ _ _ _ is written = is ∙ ap refusal (appended_bytes _ _ _ written).1

-- what was refused was so for the first cause, or for another reason
pub refused-for : {A : Type 0} (cause : Option Error) (wanted : Result (List ℕ) Error) (e : Error)
    → cause ≡ refusal wanted → A ⊎ (wanted ≡ Err e)
    → A ⊎ (cause ≡ Some e)
refused-for cause wanted e is (inl own) = inl own
refused-for cause wanted e is (inr wanted_is) = inr (is ∙ ap refusal wanted_is)
