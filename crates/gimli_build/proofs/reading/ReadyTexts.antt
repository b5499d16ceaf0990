-- The texts of a program of version 5 can be read back, with the tables as they are once it is written.
use Rattle.std.specs.Prelude.{◌≡◌, ◌≤◌, ◌∷◌, ◌++◌, if◌then◌else◌}
use Rattle.std.specs.Cmp.Derive.{both_true}
use Rattle.gimli_build.proofs
use proofs.Common
use Common.{ℕ, Bool, true, false, List, [], length, map, Some, None, refl, sym, ap, ◌∙◌, arith, length-append, nat_eq}
use Common.{nat_le, slice_get, unwrap_or, All, IfSome, bytes_eq, is_none, option_map_or, list_any, le-leb, All-nil}
use Common.{All-cons, All-head, All-tail, slice_get_within, with_text, index_of_text, StringTables, LineText, Inline}
use Common.{InStrings, InLineStrings, IsWithin, HasNoZero, bytes_in, File, FitsFile, Built, CanWrite, IsBuilt}
use Common.{first_form, sources, empty_text, texts_after, flat_map, path_texts, file_texts, emitted_texts}
use Rattle.std.proofs.lemmas.List.Folds.{list_any_at, list_any-append}
use Rattle.gimli_bytes.proofs.TextLemmas.{with_text-there, with_text-found}
use proofs.spellings.TextForms.{IsReady}

-- ---- tables that gain the empty text

-- the empty text is there once it was added
added : (texts : List (List ℕ)) → list_any (bytes_eq []) (with_text texts []) ≡ true
added texts = grind (arith, list_any-append)

gained : (due : Bool) (texts : List (List ℕ)) → due ≡ true
    → list_any (bytes_eq []) (if due then with_text texts [] else texts) ≡ true
gained due texts is = grind (arith, added)

-- no text goes
longer : (texts : List (List ℕ)) → length texts ≤ length (with_text texts [])
longer texts = grind (arith, length-append)

grows : (due : Bool) (texts : List (List ℕ)) → length texts ≤ length (if due then with_text texts [] else texts)
grows due texts = grind (arith, longer)

-- a text that was within the tables is within them once a program is written
pub within_after : (p : Built) (texts : StringTables) (t : LineText) → IsWithin texts t
    → IsWithin (texts_after p texts) t
within_after p texts t within = grind (arith, grows)

-- ---- the empty text in a form

record IsEmpty (texts : StringTables) (t : LineText) : Type 0 where
  ready : IsReady texts t
  none : bytes_in texts t ≡ []

empty_there : (texts : List (List ℕ)) → list_any (bytes_eq []) texts ≡ true
    → slice_get texts (index_of_text texts []) ≡ Some []
empty_there texts has =
    ap (λ l. slice_get l (index_of_text texts [])) (sym (with_text-there _ [] has)) ∙ with_text-found texts _

empty_is : (form : ℕ) (texts : StringTables) → (nat_eq form 0x0e ≡ true → list_any (bytes_eq []) texts.strings ≡ true)
    → (nat_eq form 0x1f ≡ true → list_any (bytes_eq []) texts.line_strings ≡ true)
    → IsEmpty texts (empty_text form texts)
empty_is form texts has has_line = by (nat_eq _ _) refl (nat_eq _ _) refl
  where
    by : (b : Bool) → nat_eq form 0x0e ≡ b → (c : Bool) → nat_eq form 0x1f ≡ c
        → IsEmpty texts
        (if b then InStrings (index_of_text texts.strings [])
        else (if c then InLineStrings (index_of_text texts.line_strings []) else Inline []))
    by true s c l =
        let found = empty_there texts.strings (has s) in
        record { ready = grind (arith, slice_get_within); none = grind arith }
    by false s true l =
        let found = empty_there texts.line_strings (has_line l) in
        record { ready = grind (arith, slice_get_within); none = grind arith }
    by false s false l = grind arith

-- ---- what is read back of a program

-- a source, or the empty text for none
abbrev pub source_of : Built → StringTables → File → LineText
source_of p texts f = unwrap_or f.1.source (empty_text (first_form (sources p.files)) texts)

pub record IsFileReady (p : Built) (texts : StringTables) (f : File) : Type 0 where
  pub path : IsReady texts f.0.0
  pub fits : FitsFile f
  pub source : p.file_has_source ≡ true → IsReady texts (source_of p texts f)
  pub source_bytes : p.file_has_source ≡ true
      → bytes_in texts (source_of p texts f) ≡ option_map_or (bytes_in texts) f.1.source []

pub record AreReady (p : Built) (texts : StringTables) : Type 0 where
  pub directories : All (IsReady texts) p.directories
  pub files : All (IsFileReady p texts) p.files

unmapped : {A B : Type 0} (P : B → Type 0) (f : A → B) (xs : List A) → All P (map f xs) → All (λ x. P (f x)) xs
unmapped P f [] all = All-nil (λ x. P (f x))
unmapped P f (x ∷ xs) all = All-cons (λ x. P (f x)) x _ (All-head P _ _ all) (unmapped P f xs (All-tail P _ _ all))

module _ (p : Built) (old_texts : StringTables) (new : nat_le p.encoding.version 4 ≡ false) (built : IsBuilt p)
    (can : CanWrite p old_texts) where
  abbrev texts : StringTables
  texts = texts_after p old_texts

  abbrev form : ℕ
  form = first_form (sources p.files)

  late : 5 ≤ p.encoding.version
  late = grind arith

  more : length old_texts.strings ≤ length texts.strings
  more = grows _ _

  more_lines : length old_texts.line_strings ≤ length texts.line_strings
  more_lines = grows _ _

  -- where sources are written and a file has none, the empty text is there
  empty_ready : p.file_has_source ≡ true → list_any (λ f. is_none f.1.source) p.files ≡ true
      → IsEmpty texts (empty_text form texts)
  empty_ready flag wanting =
      let needs = both_true (both_true (le-leb 5 p.encoding.version late) flag) wanting in
      empty_is _ _
      (λ same. gained _ old_texts.strings (both_true needs same))
      (λ same. gained _ old_texts.line_strings (both_true needs same))

  file_ready : (f : File) → HasNoZero f.0.0 → IsWithin old_texts f.0.0 → FitsFile f
      → IfSome f.1.source (IsWithin old_texts)
      → (p.file_has_source ≡ true → IfSome f.1.source HasNoZero)
      → (f.1.source ≡ None → list_any (λ f. is_none f.1.source) p.files ≡ true)
      → IsFileReady p texts f
  file_ready f clean within fits source ends wanting = grind (arith, more, more_lines, empty_ready)

  pub tables-ready : AreReady p texts
  tables-ready = record {
    directories = grind (arith, more, more_lines);
    files = λ i d lt. file_ready _ (unmapped (λ k. HasNoZero k.0) (λ f. f.0) p.files built.tables.paths_end i d lt)
        (can.paths i d lt)
        (built.files_fit i d lt) (can.sources i d lt)
        (λ flag. can.sources_end late flag i d lt)
        (λ none. list_any_at _ _ _ _ lt (ap is_none none));
  }

-- ---- what is true of each text that is emitted, directory by directory and file by file

module _ (P : LineText → Type 0) (p : Built) (texts : StringTables) where
  -- of those of a file
  pub record IsOfFile (f : File) : Type 0 where
    pub path : P f.0.0
    pub source : p.file_has_source ≡ true → P (source_of p texts f)

  -- of those of a program of version 5
  pub record AreOfTables : Type 0 where
    pub directories : All P p.directories
    pub files : All IsOfFile p.files

  -- ---- parts of a list

  abbrev IsEmitted : ℕ × LineText → Type 0
  IsEmitted t = P t.1

  first_part : (ts us : List (ℕ × LineText)) → All IsEmitted (ts ++ us) → All IsEmitted ts
  first_part [] us all = All-nil IsEmitted
  first_part (t ∷ ts) us all =
      All-cons IsEmitted t _ (All-head IsEmitted t _ all) (first_part ts us (All-tail IsEmitted t _ all))

  last_part : (ts us : List (ℕ × LineText)) → All IsEmitted (ts ++ us) → All IsEmitted us
  last_part [] us all = all
  last_part (t ∷ ts) us all = last_part ts us (All-tail IsEmitted t _ all)

  of-directories : (own : ℕ) (ts : List LineText) → All IsEmitted (map (λ t. (own, t)) ts) → All P ts
  of-directories own [] all = All-nil P
  of-directories own (t ∷ ts) all = All-cons P t _ (All-head IsEmitted _ _ all)
      (of-directories own ts (All-tail IsEmitted _ _ all))

  of-file : (f : File) → All IsEmitted (file_texts p texts f) → IsOfFile f
  of-file f all =
      let path : ℕ × LineText = (first_form (path_texts p.files), f.0.0) in
      let source : ℕ × LineText = (first_form (sources p.files), source_of p texts f) in
      let last = if p.file_has_source then source ∷ [] else [] in
      record { path = All-head IsEmitted _ _ all; source = by _ _ (All-tail IsEmitted _ _ all) }
    where
      by : (has : Bool) (t : ℕ × LineText) → All IsEmitted (if has then t ∷ [] else []) → has ≡ true → P t.1
      by true t all is = All-head IsEmitted t [] all
      by false t all is = absurd cc

  of-files : (fs : List File) → All IsEmitted (flat_map (file_texts p texts) fs) → All IsOfFile fs
  of-files [] all = All-nil IsOfFile
  of-files (f ∷ fs) all =
      let own = file_texts p texts in
      All-cons IsOfFile f _ (of-file f (first_part (own f) (flat_map own fs) all))
      (of-files fs (last_part (own f) _ all))

  -- ---- all that is emitted

  pub of-tables : nat_le p.encoding.version 4 ≡ false → All IsEmitted (emitted_texts p texts) → AreOfTables
  of-tables new all =
      let form = first_form p.directories in
      let named = map (λ t. (form, t)) p.directories in
      let filed = flat_map (file_texts p texts) p.files in
      let emitted : All IsEmitted (named ++ filed) = rw new at all in
      record { directories = of-directories _ _ (first_part _ _ emitted); files = of-files _ (last_part _ _ emitted) }
