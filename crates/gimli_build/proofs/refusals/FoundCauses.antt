-- What the calls that look for the refused parts find is the first cause of `write`.
use Rattle.std.specs.Prelude.{◌≡◌, ◌+◌, ◌<◌, ◌≤◌, ◌∷◌, ◌++◌, ◌&&◌, if◌then◌else◌}
use Rattle.gimli_build.proofs
use proofs.Common
use Common.{ℕ, zero, suc, Bool, true, false, not, cond, List, [], length, map, drop, refl, sym, ap, ◌∙◌, arith, nat_eq}
use Common.{nat_le, Option, Some, None, option_map, unwrap_or, slice_get, get_or, All, All-head, All-tail}
use Common.{bytes_eq, is_none, list_any, flat_map, with_text, index_of_text, offset_of, StringTables, LineText}
use Common.{Inline, InStrings, InLineStrings, IsWithin, File, Built, CanWrite, Encoding, Error, Format, cause_if}
use Common.{first_of, word_cause, text_cause, item_cause, first_form, path_texts, sources, empty_text}
use Common.{texts_after, file_texts, emitted_texts, first_cause, header_length, unit_length, unit_length_cause}
use Common.{cause_of_directory, cause_of_file, cause_of_item, le-leb, subst, IfSome, option_map_or, needs_empty, nat_lt}
use Common.{is_incompatible, IncompatibleLineProgramEncoding, UnsupportedVersion, NeedVersion, LineStringFormMismatch}
use Rattle.std.proofs.lemmas.List.Elements.{All-drop}
use Rattle.std.proofs.lemmas.Bool.{leb-true, leb-false, lt-leb}
use Rattle.std.specs.Option.{option_and_then}
use Rattle.std.specs.Cmp.Derive.{both_true}
use Rattle.std.proofs.lemmas.List.Folds.{list_any_at}
use Rattle.gimli_bytes.specs.Texts.{KeepsTexts}
use Rattle.gimli_bytes.proofs.TextLemmas.{with_text-KeepsTexts}
use Rattle.gimli_build.specs.Refused.{FindsFirst, encoding_cause, empty_cause, file_cause, source_cause}
use proofs.refusals.Causes.{or_first, first_apart, first_alone, causes_append, causes_map, causes_flat}

-- ---- a search for the first cause

-- what was found, without where it is
abbrev pub cause_found : Option (ℕ × Error) → Option Error
cause_found found = option_map (λ f. f.1) found

-- of a list
pub found_first : {A : Type 0} (cause : A → Option Error) (xs : List A) (found : Option (ℕ × Error))
    → FindsFirst (λ i. option_and_then cause (slice_get xs i)) found → cause_found found ≡ first_of (map cause xs)
found_first cause [] None h = refl
found_first cause [] (Some found) h = absurd cc
found_first cause (x ∷ xs) found h = by (found_first cause xs) (cause x) refl found h
  where
    by : ((f : Option (ℕ × Error)) → FindsFirst (λ i. option_and_then cause (slice_get xs i)) f
        → cause_found f ≡ first_of (map cause xs))
        → (c : Option Error) → cause x ≡ c → (f : Option (ℕ × Error))
        → FindsFirst (λ i. option_and_then cause (slice_get (x ∷ xs) i)) f
        → cause_found f ≡ first_of (c ∷ map cause xs)
    by rest (Some e) is None h = let no = h 0 in absurd cc
    by rest (Some e) is (Some (zero, d)) h = let it = h.0 in cc
    by rest (Some e) is (Some (suc n, d)) h = let no = h.1 0 (omega arith) in absurd cc
    by rest None is None h = rest None (λ i. h (suc i))
    by rest None is (Some (zero, d)) h = let no = h.0 in absurd cc
    by rest None is (Some (suc n, d)) h = rest (Some (n, d)) (h.0, λ i lt. h.1 (suc i) (omega (arith, lt)))

not_first : {A : Type 0} (cause : A → Option Error) (xs : List A) (i : ℕ)
    → option_and_then (λ (x : A). if nat_eq (suc i) 0 then None else cause x) (slice_get xs i)
    ≡ option_and_then cause (slice_get xs i)
not_first {A} cause xs i =
    let past : nat_eq (suc i) 0 ≡ false = grind (arith) in
    ap (λ b. option_and_then (λ (x : A). if b then None else cause x) (slice_get xs i)) past

-- of a list without its first
pub found_later : {A : Type 0} (cause : A → Option Error) (xs : List A) (found : Option (ℕ × Error))
    → FindsFirst (λ i. option_and_then (λ x. if nat_eq i 0 then None else cause x) (slice_get xs i)) found
    → cause_found found ≡ first_of (map cause (drop 1 xs))
found_later cause [] None h = refl
found_later cause [] (Some found) h = absurd cc
found_later cause (x ∷ xs) None h = found_first cause xs None (λ i. sym (not_first cause xs i) ∙ h (suc i))
found_later cause (x ∷ xs) (Some (zero, d)) h = let no = h.0 in absurd cc
found_later cause (x ∷ xs) (Some (suc n, d)) h = found_first cause xs (Some (n, d))
    (sym (not_first cause xs n) ∙ h.0, λ i lt. sym (not_first cause xs i) ∙ h.1 (suc i) (omega (arith, lt)))

first_alone2 : (cause : Option Error) → first_of (cause ∷ None ∷ []) ≡ cause
first_alone2 (Some e) = refl
first_alone2 None = refl

above : {n : ℕ} → 4 < n → 5 ≤ n
above lt = omega (arith, lt)

le_false : {n : ℕ} → n ≤ 4 → nat_le 5 n ≡ false
le_false le = lt-leb 5 _ (omega (arith, le))

-- the same causes give the same first one
pub same_first : {A : Type 0} (f g : A → Option Error) (xs : List A) → All (λ x. f x ≡ g x) xs
    → first_of (map f xs) ≡ first_of (map g xs)
same_first f g [] same = refl
same_first f g (x ∷ xs) same =
    first_apart (f x) (map f xs)
    ∙ (λ i.
    or_first (All-head (λ x. f x ≡ g x) x xs same i) (same_first f g xs (All-tail (λ x. f x ≡ g x) x xs same) i))
    ∙ sym (first_apart (g x) (map g xs))

-- ---- tables that gain the empty text

keeps_if : (due : Bool) (ts : List (List ℕ)) → KeepsTexts ts (if due then with_text ts [] else ts)
keeps_if true ts = with_text-KeepsTexts ts []
keeps_if false ts = record { text = λ i lt. refl; offset = λ i lt. refl }

-- the empty text is where it was
place_kept : (ts : List (List ℕ)) → index_of_text (with_text ts []) [] ≡ index_of_text ts []
place_kept ts = by (list_any (bytes_eq []) ts)
  where
    last : (us : List (List ℕ)) → index_of_text (us ++ [] ∷ []) [] ≡ index_of_text us []
    last [] = refl
    last (u ∷ us) = ap (λ n. cond (not (bytes_eq [] u)) (1 + n) 0) (last us)

    by : (b : Bool) → index_of_text (if b then ts else ts ++ [] ∷ []) [] ≡ index_of_text ts []
    by true = refl
    by false = last ts

-- so what refuses the empty text is its offset, once it is added
empty_kept : (format : Format) (from : List LineText) (handed texts : StringTables)
    → texts.strings ≡ (if nat_eq (first_form from) 0x0e then with_text handed.strings [] else handed.strings)
    → texts.line_strings
    ≡ (if nat_eq (first_form from) 0x1f then with_text handed.line_strings [] else handed.line_strings)
    → empty_cause format handed (first_form from)
    ≡ text_cause format texts (first_form from, empty_text (first_form from) texts)
empty_kept format [] handed texts s l = refl
empty_kept format (Inline bytes ∷ from) handed texts s l = refl
empty_kept format (InStrings i ∷ from) handed texts s l =
    sym (first_alone _
    ∙ ap (λ ts. word_cause format (offset_of ts (index_of_text ts []))) s
    ∙ ap (λ n. word_cause format (offset_of (with_text handed.strings []) n)) (place_kept handed.strings))
empty_kept format (InLineStrings i ∷ from) handed texts s l =
    sym (first_alone _
    ∙ ap (λ ts. word_cause format (offset_of ts (index_of_text ts []))) l
    ∙ ap (λ n. word_cause format (offset_of (with_text handed.line_strings []) n)) (place_kept handed.line_strings))

module _ (p : Built) (handed : StringTables) (can : CanWrite p handed) where
  abbrev texts : StringTables
  texts = texts_after p handed

  abbrev format : Format
  format = p.encoding.format

  -- a text that is there is refused for the same
  kept : (form : ℕ) (t : LineText) → IsWithin handed t
      → text_cause format handed (form, t) ≡ text_cause format texts (form, t)
  kept form (Inline bytes) within = refl
  kept form (InStrings i) within =
      ap (λ n. first_of (cause_if (not (nat_eq 0x0e form)) LineStringFormMismatch ∷ word_cause format n ∷ []))
      (sym ((keeps_if _ handed.strings).offset i within))
  kept form (InLineStrings i) within =
      ap (λ n. first_of (cause_if (not (nat_eq 0x1f form)) LineStringFormMismatch ∷ word_cause format n ∷ []))
      (sym ((keeps_if _ handed.line_strings).offset i within))

  -- ---- directories

  directories_kept : (form : ℕ) (ds : List LineText) → All (IsWithin handed) ds
      → first_of (map (λ t. text_cause format handed (form, t)) ds)
      ≡ first_of (map (λ t. text_cause format texts (form, t)) ds)
  directories_kept form ds within = same_first _ _ ds (λ k d short. kept form _ (within k d short))

  -- ---- files

  abbrev form : ℕ
  form = first_form (sources p.files)

  -- up to version 4 a file is refused for its path alone
  old_kept : (k : ℕ) (d : File) → k < length p.files → nat_le p.encoding.version 4 ≡ true
      → file_cause p handed (get_or p.files k d) ≡ text_cause format texts (0x08, (get_or p.files k d).0.0)
  old_kept k d short old =
      ap (λ b. first_of (text_cause format handed (if b then 0x08 else first_form (path_texts p.files), path)
      ∷ source_cause p handed source ∷ [])) old
      ∙ ap (λ c. first_of (text_cause format handed (0x08, path) ∷ c ∷ [])) none
      ∙ first_alone2 _ ∙ kept 0x08 path (can.paths k d short)
    where
      path : LineText
      path = (get_or p.files k d).0.0

      source : Option LineText
      source = (get_or p.files k d).1.source

      early : nat_le 5 p.encoding.version ≡ false
      early = le_false (leb-true p.encoding.version 4 old)

      none : source_cause p handed source ≡ None
      none = ap (λ b. if b && p.file_has_source
          then option_map_or (λ t. text_cause format handed (form, t)) source (empty_cause format handed form)
          else None) early

  -- from version 5 on also for its source, or the empty text
  source_kept : (k : ℕ) (d : File) → k < length p.files → nat_le 5 p.encoding.version ≡ true
      → first_of (source_cause p handed (get_or p.files k d).1.source ∷ [])
      ≡ first_of (map (text_cause format texts)
      (if p.file_has_source
      then (form, unwrap_or (get_or p.files k d).1.source (empty_text form texts)) ∷ [] else []))
  source_kept k d short late =
      ap (λ b. first_of ((if b && p.file_has_source
      then option_map_or (λ t. text_cause format handed (form, t)) (get_or p.files k d).1.source
      (empty_cause format handed form) else None) ∷ [])) late
      ∙ by p.file_has_source refl (get_or p.files k d).1.source refl
    where
      by : (has : Bool) → p.file_has_source ≡ has
          → (source : Option LineText) → (get_or p.files k d).1.source ≡ source
          → first_of ((if has then option_map_or (λ t. text_cause format handed (form, t)) source
          (empty_cause format handed form) else None) ∷ [])
          ≡ first_of (map (text_cause format texts)
          (if has then (form, unwrap_or source (empty_text form texts)) ∷ [] else []))
      by false has source is = refl
      by true has (Some t) is =
          ap (λ c. first_of (c ∷ []))
          (kept form t (subst (λ s. IfSome s (IsWithin handed)) is (can.sources k d short)))
      by true has None is =
          let lacks = list_any_at (λ (f : File). is_none f.1.source) p.files k d short (ap is_none is) in
          let needs : needs_empty p ≡ true = both_true (both_true late has) lacks in
          ap (λ c. first_of (c ∷ []))
          (empty_kept format (sources p.files) handed texts
          (ap (λ b. if b && nat_eq form 0x0e then with_text handed.strings [] else handed.strings) needs)
          (ap (λ b. if b && nat_eq form 0x1f then with_text handed.line_strings [] else handed.line_strings) needs))

  new_kept : (k : ℕ) (d : File) → k < length p.files → nat_le p.encoding.version 4 ≡ false
      → file_cause p handed (get_or p.files k d)
      ≡ first_of (map (text_cause format texts) (file_texts p texts (get_or p.files k d)))
  new_kept k d short new =
      ap (λ b. first_of (text_cause format handed (if b then 0x08 else paths, path)
      ∷ source_cause p handed source ∷ [])) new
      ∙ ap (λ c. first_of (c ∷ source_cause p handed source ∷ [])) (kept paths path (can.paths k d short))
      ∙ first_apart (text_cause format texts (paths, path)) (source_cause p handed source ∷ [])
      ∙ ap (or_first (text_cause format texts (paths, path))) (source_kept k d short late)
      ∙ sym (first_apart (text_cause format texts (paths, path)) _)
    where
      paths : ℕ
      paths = first_form (path_texts p.files)

      path : LineText
      path = (get_or p.files k d).0.0

      source : Option LineText
      source = (get_or p.files k d).1.source

      late : nat_le 5 p.encoding.version ≡ true
      late = le-leb 5 p.encoding.version (above (leb-false p.encoding.version 4 new))

  -- ---- both

  abbrev emitted_cause : Option Error
  emitted_cause = first_of (map (text_cause format texts) (emitted_texts p texts))

  module _ (directory file : Option (ℕ × Error)) (is_directory : FindsFirst (cause_of_directory p handed) directory)
      (is_file : FindsFirst (cause_of_file p handed) file) where
    by_version : (b : Bool) → nat_le p.encoding.version 4 ≡ b → FindsFirst
        (λ i. option_and_then (λ t. if b && nat_eq i 0 then None
        else text_cause format handed (if b then 0x08 else first_form p.directories, t)) (slice_get p.directories i))
        directory
        → or_first (cause_found directory) (cause_found file)
        ≡ first_of (map (text_cause format texts)
        (if b then map (λ t. (0x08, t)) (drop 1 p.directories ++ path_texts p.files)
        else map (λ t. (first_form p.directories, t)) p.directories ++ flat_map (file_texts p texts) p.files))
    by_version true old found =
        let own : LineText → Option Error = λ t. text_cause format texts (0x08, t) in
        let first = found_later _ p.directories directory found
        ∙ directories_kept 0x08 (drop 1 p.directories) (All-drop (IsWithin handed) 1 p.directories can.directories) in
        let second = found_first (file_cause p handed) p.files file is_file
        ∙ same_first (file_cause p handed) (λ f. own f.0.0) p.files (λ k d short. old_kept k d short old)
        ∙ sym (causes_map own (λ f. f.0.0) p.files) in
        (λ i. or_first (first i) (second i))
        ∙ sym (causes_map (text_cause format texts) (λ t. (0x08, t)) (drop 1 p.directories ++ path_texts p.files)
        ∙ causes_append own (drop 1 p.directories) (path_texts p.files))
    by_version false new found =
        let wanted = first_form p.directories in
        let first = found_first _ p.directories directory found
        ∙ directories_kept wanted p.directories can.directories
        ∙ sym (causes_map (text_cause format texts) (λ t. (wanted, t)) p.directories) in
        let second = found_first (file_cause p handed) p.files file is_file
        ∙ same_first (file_cause p handed) (λ f. first_of (map (text_cause format texts) (file_texts p texts f)))
        p.files (λ k d short. new_kept k d short new)
        ∙ sym (causes_flat (text_cause format texts) (file_texts p texts) p.files) in
        (λ i. or_first (first i) (second i))
        ∙ sym (causes_append (text_cause format texts) (map (λ t. (wanted, t)) p.directories)
        (flat_map (file_texts p texts) p.files))

    pub texts_found : emitted_cause ≡ or_first (cause_found directory) (cause_found file)
    texts_found = sym (by_version (nat_le p.encoding.version 4) refl is_directory)

-- ---- the whole

regrouped : (a b c d f h i u : Option Error)
    → first_of (a ∷ b ∷ c ∷ or_first d f ∷ h ∷ i ∷ u ∷ [])
    ≡ first_of (first_of (a ∷ b ∷ c ∷ []) ∷ d ∷ f ∷ h ∷ i ∷ u ∷ [])
regrouped (Some e) b c d f h i u = refl
regrouped None (Some e) c d f h i u = refl
regrouped None None (Some e) d f h i u = refl
regrouped None None None (Some e) f h i u = refl
regrouped None None None None f h i u = refl

pub found_are_first : (is_big : Bool) (unit : Encoding) (p : Built) (handed : StringTables)
    (directory file item : Option (ℕ × Error)) → CanWrite p handed → FindsFirst (cause_of_directory p handed) directory
    → FindsFirst (cause_of_file p handed) file → FindsFirst (cause_of_item p) item
    → first_cause is_big unit p handed
    ≡ first_of (encoding_cause unit p ∷ cause_found directory ∷ cause_found file
    ∷ word_cause p.encoding.format (header_length p (texts_after p handed)) ∷ cause_found item
    ∷ unit_length_cause p.encoding.format (unit_length is_big p (texts_after p handed)) ∷ [])
found_are_first is_big unit p handed directory file item can is_directory is_file is_item =
    let v = p.encoding.version in
    let a = cause_if (is_incompatible unit p.encoding) IncompatibleLineProgramEncoding in
    let b = cause_if (not (nat_le 2 v && nat_le v 5)) (UnsupportedVersion v) in
    let c =
    cause_if (nat_lt v 4 && not (nat_eq p.line_encoding.maximum_operations_per_instruction 1)) (NeedVersion 4) in
    let h = word_cause p.encoding.format (header_length p (texts_after p handed)) in
    let u = unit_length_cause p.encoding.format (unit_length is_big p (texts_after p handed)) in
    let texts = texts_found p handed can directory file is_directory is_file in
    let items = sym (found_first (item_cause p.encoding.address_size) p.items item is_item) in
    (λ k. first_of (a ∷ b ∷ c ∷ texts k ∷ h ∷ items k ∷ u ∷ []))
    ∙ regrouped a b c (cause_found directory) (cause_found file) h (cause_found item) u
