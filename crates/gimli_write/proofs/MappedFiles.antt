-- The tables of a conversion: each id of a directory or a file of the source is that of its paths,
-- with what is known of the last file that has them; and the program can be written.
use Rattle.std.specs.Prelude.{◌≡◌, ◌+◌, ◌||◌, if◌then◌else◌, ◌∷◌, ◌++◌, ◌≤◌, ◌⊎◌, ◌≢◌, ◌<◌}
use Rattle.gimli_write.proofs
use proofs.Common
use Common.{ℕ, zero, suc, Bool, true, false, cond, not, List, [], length, refl, sym, ap, subst, ◌∙◌, arith, nat_le}
use Common.{Some, unwrap_or, slice_get, bytes_eq, list_any, position_or_len, or_parts, eq-eqb, bytes_eq-Decides}
use Common.{with_text, index_of_text, StringTables, texts_in, with_text-found, with_text-there, LineText, Inline}
use Common.{InStrings, InLineStrings, line_text_eq, bytes_in, made_text, made_table, FileKey, key_eq, Option, None}
use Common.{option_map, IfSome, Result, Ok, Err, All, option_map_or, lt-leb, All-nil, All-cons, All-push}
use Common.{slice_get_within, Value, Encoding, LineEncoding, DefineFile, File, Header, Ins, Built, CanWrite, IsWithin}
use Common.{HasNoZero, Details, BuiltFile, with_directory, Sections, ConvertError, ◌>>=◌, source_path, TablesAndTexts}
use Common.{version_of, with_path, directory_added, file_parts, with_parts, file_added, all_added}
use Common.{tables_after_definition, tables_at, SourceFile, working_directory, source_file, line_encoding_of}
use Common.{first_texts, start_of_tables, Handed, encoding_of, lists_added, tables_of_header, KeepsTexts}
use Common.{with_text-KeepsTexts, with_tables, index_of_directory, no_details, inl, inr, append_assoc, directory_of}
use Common.{from_one, IsText, text_of, MissingCompilationDirectory, source_text, first_path, first_ids, needed_from_5}
use Common.{nat_eq, AllByRecursion, true≢false, eqb-true, append-nil, slice_get-map, defined_files, has_file}
use Common.{index_of_file, with_details, with_file, keys_of, OneByOne, FileParts, ok_or, All-from_recursion}
use Common.{IsOptionalText, InvalidDirectoryIndex, if_there, Outcome}
use Rattle.std.proofs.lemmas.List.Folds.{list_any-append}
use proofs.ConvertSteps.{kept_self, kept_then}
use proofs.Writable.{within_kept, source_kept, written_later, written_with_file}
use Rattle.std.proofs.Common.{length-append}
use Rattle.gimli_core.specs.declared.attribute_value.AttributeValue.TheVariants.{String}
use Rattle.gimli_build.specs.FirstTables.{first_directories}
use Rattle.gimli_build.proofs.building.TableLemmas.{
  directory_found,
  file_found_at,
  file_keeps,
  file_others,
  some_within,
}
use Rattle.gimli_write.specs.convert.Mapped
use Mapped.{IsDirectoryPath, IsFileId, HasPaths, IsLastWithPaths, IsMappedFile, AreFilesMapped}
use proofs.ReadTexts.{text_read, one_by_one_push}
use proofs.BuiltAnswers.{text_same}

-- ---- the first index that passes a test, in a list that grows at its end

-- the list after an element is added that may be there
abbrev pub grown : {A : Type 0} → Bool → List A → A → List A
grown there xs x = if there then xs else xs ++ x ∷ []

module _ {A : Type 0} (p : A → Bool) where
  pub index_stays : (xs ys : List A) → list_any p xs ≡ true → position_or_len p (xs ++ ys) ≡ position_or_len p xs
  index_stays [] ys any = absurd cc
  index_stays (x ∷ xs) ys any = by (p x) (index_stays xs ys) any
    where
      by : (b : Bool) → (list_any p xs ≡ true → position_or_len p (xs ++ ys) ≡ position_or_len p xs)
          → (b || list_any p xs) ≡ true
          → cond (not b) (1 + position_or_len p (xs ++ ys)) 0 ≡ cond (not b) (1 + position_or_len p xs) 0
      by true rest any = refl
      by false rest any = grind arith

  pub index_new : (xs : List A) (x : A) → p x ≡ true → list_any p xs ≡ false
      → position_or_len p (xs ++ x ∷ []) ≡ position_or_len p xs
  index_new [] x passes none = rw passes refl
  index_new (y ∷ xs) x passes none =
      let parts = or_parts (p y) (list_any p xs) none in
      rw parts.0 (ap (λ n. 1 + n) (index_new xs x passes parts.1))

  pub any_stays : (xs ys : List A) → list_any p xs ≡ true → list_any p (xs ++ ys) ≡ true
  any_stays xs ys any = grind (arith, list_any-append)

  pub any_new : (xs : List A) (x : A) → p x ≡ true → list_any p (xs ++ x ∷ []) ≡ true
  any_new xs x passes = grind (arith, list_any-append)

  -- another element was there before this one came
  pub grown_index : (there : Bool) (xs : List A) (x : A) → list_any p xs ≡ true
      → position_or_len p (grown there xs x) ≡ position_or_len p xs
  grown_index true xs x any = refl
  grown_index false xs x any = index_stays _ _ any

  pub grown_any : (there : Bool) (xs : List A) (x : A) → list_any p xs ≡ true → list_any p (grown there xs x) ≡ true
  grown_any true xs x any = any
  grown_any false xs x any = any_stays _ _ any

  -- this one came, or was there
  pub own_index : (there : Bool) (xs : List A) (x : A) → list_any p xs ≡ there → p x ≡ true
      → position_or_len p (grown there xs x) ≡ position_or_len p xs
  own_index true xs x is passes = refl
  own_index false xs x is passes = index_new _ x passes is

  pub own_any : (there : Bool) (xs : List A) (x : A) → list_any p xs ≡ there → p x ≡ true
      → list_any p (grown there xs x) ≡ true
  own_any true xs x is passes = is
  own_any false xs x is passes = any_new _ x passes

  -- where none passes, the index is the end
  pub index_none : (xs : List A) → list_any p xs ≡ false → position_or_len p xs ≡ length xs
  index_none [] none = refl
  index_none (x ∷ xs) none =
      let parts = or_parts (p x) (list_any p xs) none in
      let rest = index_none xs parts.1 in
      rw parts.0 (omega arith)

pub last_element : {A : Type 0} (xs : List A) (x : A) (i : ℕ) → i ≡ length xs → slice_get (xs ++ x ∷ []) i ≡ Some x
last_element [] x zero is = refl
last_element [] x (suc i) is = absurd (omega arith)
last_element (y ∷ xs) x zero is = absurd (omega arith)
last_element (y ∷ xs) x (suc i) is = last_element xs x i (omega arith)

-- ---- tests of equality

same_bytes : (text : List ℕ) → bytes_eq text text ≡ true
same_bytes text = (bytes_eq-Decides text _).1 refl

pub same_text : (t : LineText) → line_text_eq t t ≡ true
same_text (Inline bytes) = same_bytes bytes
same_text (InStrings i) = eq-eqb i i refl
same_text (InLineStrings i) = eq-eqb i i refl

pub same_key : (k : FileKey) → key_eq k k ≡ true
same_key k = grind (arith, same_text)

-- ---- texts

-- a text of a program of this version is there, in a table of line strings
pub record IsMade (version : ℕ) (line_strings : List (List ℕ)) (text : List ℕ) : Type 0 where
  pub any : nat_le version 4 ≡ false → list_any (bytes_eq text) line_strings ≡ true

-- a table has the texts of another, at their indices
pub record HasMade (version : ℕ) (old new : List (List ℕ)) : Type 0 where
  pub there : (text : List ℕ) → IsMade version old text → IsMade version new text
  pub same : (text : List ℕ) → IsMade version old text → made_text version new text ≡ made_text version old text

pub has_itself : {version : ℕ} {line_strings : List (List ℕ)} → HasMade version line_strings line_strings
has_itself = grind arith

pub has_then : {version : ℕ} {old between new : List (List ℕ)} → HasMade version old between
    → HasMade version between new → HasMade version old new
has_then a b = grind arith

module _ (version : ℕ) (line_strings : List (List ℕ)) (text : List ℕ) where
  -- the table has it
  made_any : (old : Bool) → old ≡ false
      → list_any (bytes_eq text) (if old then line_strings else with_text line_strings text) ≡ true
  made_any true is = absurd cc
  made_any false is = grind (arith, own_any, same_bytes)

  pub is_made : IsMade version (made_table version line_strings text) text
  is_made = grind (arith, made_any)

  made_same : (old : Bool) → (if old then Inline text
      else InLineStrings (index_of_text (if old then line_strings else with_text line_strings text) text))
      ≡ (if old then Inline text else InLineStrings (index_of_text line_strings text))
  made_same true = refl
  made_same false = grind (arith, own_index, same_bytes)

  -- at the index at which it was made
  pub is_same : made_text version (made_table version line_strings text) text ≡ made_text version line_strings text
  is_same = made_same _

  -- and those that were there
  others_any : (other : List ℕ) (old : Bool) → list_any (bytes_eq other) line_strings ≡ true
      → list_any (bytes_eq other) (if old then line_strings else with_text line_strings text) ≡ true
  others_any other true any = any
  others_any other false any = grind (arith, grown_any)

  others_same : (other : List ℕ) (old : Bool) → (old ≡ false → list_any (bytes_eq other) line_strings ≡ true)
      → (if old then Inline other
      else InLineStrings (index_of_text (if old then line_strings else with_text line_strings text) other))
      ≡ (if old then Inline other else InLineStrings (index_of_text line_strings other))
  others_same other true any = refl
  others_same other false any = grind (arith, grown_index)

  pub table_has : HasMade version line_strings (made_table version line_strings text)
  table_has = grind (arith, others_any, others_same)

-- the bytes of a text that is there
pub made_bytes : {version : ℕ} (texts : StringTables) {text : List ℕ} → IsMade version texts.line_strings text
    → bytes_in texts (made_text version texts.line_strings text) ≡ text
made_bytes texts {text} so = by _ so.any
  where
    by : (old : Bool) → (old ≡ false → list_any (bytes_eq text) texts.line_strings ≡ true)
        → bytes_in texts (if old then Inline text else InLineStrings (index_of_text texts.line_strings text)) ≡ text
    by true any = refl
    by false any =
        let found =
        subst (λ ts. slice_get ts (index_of_text texts.line_strings text) ≡ Some text)
        (with_text-there _ _ (any refl)) (with_text-found _ _) in
        ap (λ o. unwrap_or o []) found

-- so texts that are made the same are the same
pub made_differ : {version : ℕ} {line_strings : List (List ℕ)} {a b : List ℕ} → IsMade version line_strings a
    → IsMade version line_strings b → made_text version line_strings a ≡ made_text version line_strings b → a ≡ b
made_differ {line_strings} x y is =
    sym (made_bytes (texts_in [] line_strings) x) ∙ ap (bytes_in (texts_in [] line_strings)) is
    ∙ made_bytes (texts_in [] line_strings) y

-- ---- steps that were done

-- of two steps one after the other both were done
pub took : {A B : Type 0} (r : Result A ConvertError) (f : A → Result B ConvertError) {y : B} → (r >>= f) ≡ Ok y
    → (x : A) × (r ≡ Ok x) × (f x ≡ Ok y)
took (Ok x) f is = (x, refl, is)
took (Err e) f is = absurd cc

pub same_ok : {A : Type 0} (x : A) {y : A} → (let r : Result A ConvertError = Ok x in r) ≡ Ok y → x ≡ y
same_ok x is = cc

-- a header was prepared: its steps one by one
pub record IsPrepared (sections : Sections) (h : Header) (given : Handed) (line_strings : List (List ℕ))
    (tables : TablesAndTexts) : Type 0 where
  pub directory : List ℕ
  pub directory_is : working_directory (encoding_of h given).version sections h ≡ Ok directory
  pub file : SourceFile
  pub file_is : source_file (encoding_of h given).version sections h given.name ≡ Ok file
  pub line_encoding : LineEncoding
  pub with_directories : TablesAndTexts
  pub directories : all_added (directory_added sections) h.directories
      (start_of_tables (encoding_of h given) line_encoding h
      (first_texts (encoding_of h given).version line_strings directory file))
      ≡ Ok with_directories
  pub files : all_added (file_added sections) h.files with_directories ≡ Ok tables

pub is_prepared : (sections : Sections) (h : Header) (given : Handed) (line_strings : List (List ℕ))
    {tables : TablesAndTexts} → tables_of_header sections h given line_strings ≡ Ok tables
    → IsPrepared sections h given line_strings tables
is_prepared sections h given line_strings {tables} is =
    let encoding = encoding_of h given in
    let begin =
    λ (directory : List ℕ) (file : SourceFile) (line_encoding : LineEncoding).
    start_of_tables encoding line_encoding h (first_texts encoding.version line_strings directory file) in
    let start = took _ _ is in
    let a = took _ _ start.1 in
    let b = took _ _ a.2 in
    let l = took (line_encoding_of h.parameters.line_encoding given.line_encoding) _ b.2 in
    let listed : lists_added sections h (begin a.0 b.0 l.0) ≡ Ok tables =
    subst (λ t. lists_added sections h t ≡ Ok tables) (sym (same_ok _ l.2)) start.2 in
    let d = took _ _ listed in
    record {
      directory = a.0;
      directory_is = a.1;
      file = b.0;
      file_is = b.1;
      line_encoding = l.0;
      with_directories = d.0;
      directories = d.1;
      files = d.2;
    }

-- ---- what each step keeps

module _ (P : TablesAndTexts → Type 0) where
  pub all_added_keeps : {A : Type 0} (add : TablesAndTexts → A → Result TablesAndTexts ConvertError)
      → ((tables next : TablesAndTexts) (x : A) → add tables x ≡ Ok next → P tables → P next)
      → (xs : List A) (tables : TablesAndTexts) {last : TablesAndTexts} → all_added add xs tables ≡ Ok last → P tables
      → P last
  all_added_keeps add step [] tables is p = subst P (same_ok _ is) p
  all_added_keeps add step (x ∷ xs) tables is p =
      let t = took _ _ is in
      all_added_keeps add step xs t.0 t.2 (step tables t.0 x t.1 p)

  pub lists_at_keeps : (sections : Sections) (first : TablesAndTexts)
      → ((tables next : TablesAndTexts) (f : File) → file_added sections tables f ≡ Ok next → P tables → P next)
      → (past : List Ins) {tables : TablesAndTexts} → tables_at sections first past ≡ Ok tables → P first → P tables
  lists_at_keeps sections first step [] is p = subst P (same_ok _ is) p
  lists_at_keeps sections first step (i ∷ past) {tables} is p =
      let t = took _ _ is in
      one i t.0 t.2 (lists_at_keeps sections first step past t.1 p)
    where
      one : (i : Ins) (before : TablesAndTexts) → tables_after_definition sections before i ≡ Ok tables → P before
          → P tables
      one (DefineFile f) before so q = step before tables f so q
      one i before so q = subst P (same_ok _ so) q

-- ---- texts are there

pub made_keeps : (version : ℕ) (line_strings : List (List ℕ)) (text : List ℕ)
    → KeepsTexts line_strings (made_table version line_strings text)
made_keeps version line_strings text = by _
  where
    by : (old : Bool) → KeepsTexts line_strings (if old then line_strings else with_text line_strings text)
    by true = kept_self _
    by false = with_text-KeepsTexts _ _

-- the line strings after a text that may be there
abbrev pub sources_table : ℕ → List (List ℕ) → Option (List ℕ) → List (List ℕ)
sources_table version paths source = option_map_or (made_table version paths) source paths

sources_keep : (version : ℕ) (paths : List (List ℕ)) (source : Option (List ℕ))
    → KeepsTexts paths (sources_table version paths source)
sources_keep version paths (Some text) = made_keeps _ _ _
sources_keep version paths None = kept_self _

module _ (strings : List (List ℕ)) (version : ℕ) (line_strings : List (List ℕ)) where
  made_within : (text : List ℕ)
      → IsWithin (texts_in strings (made_table version line_strings text)) (made_text version line_strings text)
  made_within text = by (nat_le version 4)
    where
      by : (old : Bool) → IsWithin (texts_in strings (if old then line_strings else with_text line_strings text))
          (if old then Inline text else InLineStrings (index_of_text line_strings text))
      by true = tt
      by false =
          slice_get_within (with_text line_strings text) (index_of_text line_strings text) text (with_text-found _ _)

  source_within : (source : Option (List ℕ)) → IfSome (option_map (made_text version line_strings) source)
      (IsWithin (texts_in strings (sources_table version line_strings source)))
  source_within (Some text) = made_within text
  source_within None = tt

-- from version 5 on no text lies in the program, so none can have a zero byte there
source_ends : (version : ℕ) (line_strings : List (List ℕ)) (source : Option (List ℕ)) → 5 ≤ version
    → IfSome (option_map (made_text version line_strings) source) HasNoZero
source_ends version line_strings (Some text) new = rw (lt-leb version 4 new) tt
source_ends version line_strings None new = tt

-- ---- tables that can be written

-- a program whose sources are written
abbrev pub with_sources : Built → Built
with_sources p = record p { file_has_source = true }

-- nothing is built yet; and the program can be written, its sources too
pub record IsReady (strings : List (List ℕ)) (encoding : Encoding) (tables : TablesAndTexts) : Type 0 where
  pub items : tables.program.items ≡ []
  pub encoding_is : tables.program.encoding ≡ encoding
  pub can : CanWrite (with_sources tables.program) (texts_in strings tables.line_strings)

-- so can one of the same encoding that has these tables
pub written_with_tables : (p : Built) {texts : StringTables} (tables : TablesAndTexts) → p.is_none ≡ false
    → tables.program.encoding ≡ p.encoding → CanWrite (with_sources tables.program) texts
    → CanWrite (with_tables tables p) texts
written_with_tables p tables program encoding can = record {
  program = program;
  directories = can.directories;
  paths = can.paths;
  sources = can.sources;
  sources_end = grind arith;
}

pub ready_written : (strings : List (List ℕ)) (encoding : Encoding) (tables : TablesAndTexts)
    → IsReady strings encoding tables → CanWrite tables.program (texts_in strings tables.line_strings)
ready_written strings encoding tables so = record {
  program = so.can.program;
  directories = so.can.directories;
  paths = so.can.paths;
  sources = so.can.sources;
  sources_end = λ new has. so.can.sources_end new refl;
}

directories_with : (texts : StringTables) (ds : List LineText) (t : LineText) → All (IsWithin texts) ds
    → IsWithin texts t → All (IsWithin texts) (with_directory ds t)
directories_with texts ds t all one = by (list_any _ ds)
  where
    by : (b : Bool) → All (IsWithin texts) (if b then ds else ds ++ t ∷ [])
    by true = all
    by false = All-push (IsWithin texts) _ t all one

-- ---- a directory, and a file

module _ (strings : List (List ℕ)) (encoding : Encoding) (sections : Sections) (tables next : TablesAndTexts) where
  pub directory_ready : (v : Value) → directory_added sections tables v ≡ Ok next
      → IsReady strings encoding tables → IsReady strings encoding next
  directory_ready v is so =
      let version = version_of tables in
      let t = took (source_path version sections v) (λ path. Ok (with_path tables path)) is in
      let path = t.0 in
      let after = made_table version tables.line_strings path in
      let can = written_later strings tables.line_strings after (made_keeps version tables.line_strings path) so.can in
      subst (IsReady strings encoding) (same_ok (with_path tables path) t.2) (record {
        items = so.items;
        encoding_is = so.encoding_is;
        can = record {
          program = can.program;
          directories =
              directories_with (texts_in strings after) tables.program.directories
              (made_text version tables.line_strings path) can.directories
              (made_within strings version tables.line_strings path);
          paths = can.paths;
          sources = can.sources;
          sources_end = can.sources_end;
        };
      })

  pub file_ready : (f : File) → file_added sections tables f ≡ Ok next
      → IsReady strings encoding tables → IsReady strings encoding next
  file_ready f is so =
      let version = version_of tables in
      let t = took (file_parts version sections tables.directory_ids f) (λ parts. Ok (with_parts tables f parts)) is in
      let parts = t.0 in
      let paths = made_table version tables.line_strings parts.path in
      let after = sources_table version paths parts.source in
      let details : Details = record {
        timestamp = f.timestamp;
        size = f.size;
        md5 = f.md5;
        source = option_map (made_text version paths) parts.source;
      } in
      let first = made_keeps version tables.line_strings parts.path in
      let second = sources_keep version paths parts.source in
      subst (IsReady strings encoding) (same_ok (with_parts tables f parts) t.2) (record {
        items = so.items;
        encoding_is = so.encoding_is;
        can =
            written_with_file (made_text version tables.line_strings parts.path) parts.directory details
            (within_kept strings paths after second _ (made_within strings version tables.line_strings parts.path))
            (source_within strings version paths parts.source) (source_ends version paths parts.source)
            (written_later strings tables.line_strings after (kept_then first second) so.can);
      })

-- ---- the tables of a header

started_ready : (strings : List (List ℕ)) (encoding : Encoding) (line_encoding : LineEncoding) (h : Header)
    (line_strings : List (List ℕ)) (directory : List ℕ) (file : SourceFile) → IsReady strings encoding
    (start_of_tables encoding line_encoding h (first_texts encoding.version line_strings directory file))
started_ready strings encoding line_encoding h line_strings directory file =
    let texts = first_texts encoding.version line_strings directory file in
    let second = made_table encoding.version line_strings directory in
    let third = sources_table encoding.version second file.directory in
    let last = made_table encoding.version third file.path in
    let second_keeps = sources_keep encoding.version _ file.directory in
    let third_keeps = made_keeps encoding.version _ file.path in
    let working : IsWithin (texts_in strings last) texts.working_directory =
    within_kept strings second last (kept_then second_keeps third_keeps) _
    (made_within strings encoding.version line_strings directory) in
    let own : IfSome texts.source_directory (IsWithin (texts_in strings last)) =
    source_kept strings third last third_keeps _ (source_within strings encoding.version second file.directory) in
    let old = nat_le encoding.version 4 in
    let first : BuiltFile = (
      (
        texts.source_file,
        option_map_or (index_of_directory (texts.working_directory ∷ [])) texts.source_directory 0,
      ),
      no_details,
    ) in
    record {
      items = refl;
      encoding_is = refl;
      can = record {
        program = refl;
        directories = both _ _ _ old working own;
        paths =
            one (λ f. IsWithin (texts_in strings last) f.0.0) _ old
            (made_within strings encoding.version third file.path);
        sources = grind (arith, one);
        sources_end = λ new has. one (λ f. IfSome f.1.source HasNoZero) first old tt;
      };
    }
  where
    alone : (texts : StringTables) (t : LineText) → IsWithin texts t → All (IsWithin texts) (t ∷ [])
    alone texts t w = All-cons (IsWithin texts) t [] w (All-nil (IsWithin texts))

    both : (texts : StringTables) (working : LineText) (own : Option LineText) (old : Bool) → IsWithin texts working
        → IfSome own (IsWithin texts) → All (IsWithin texts)
        (if old then working ∷ [] else option_map_or (with_directory (working ∷ [])) own (working ∷ []))
    both texts working own true w o = alone _ _ w
    both texts working (Some t) false w o = directories_with _ (working ∷ []) t (alone _ _ w) o
    both texts working None false w o = alone _ _ w

    one : (Q : BuiltFile → Type 0) (f : BuiltFile) (old : Bool) → Q f → All Q (if old then [] else f ∷ [])
    one Q f true q = All-nil Q
    one Q f false q = All-cons Q f [] q (All-nil Q)

-- what `new` makes of a header can be written, and nothing is built in it
pub prepared_ready : (strings : List (List ℕ)) (sections : Sections) (h : Header) (given : Handed)
    (line_strings : List (List ℕ)) {tables : TablesAndTexts}
    → tables_of_header sections h given line_strings ≡ Ok tables → IsReady strings (encoding_of h given) tables
prepared_ready strings sections h given line_strings is =
    let p = is_prepared sections h given line_strings is in
    let encoding = encoding_of h given in
    all_added_keeps (IsReady strings encoding) (file_added sections)
    (λ l n f a so. file_ready strings encoding sections l n f a so) h.files p.with_directories p.files
    (all_added_keeps (IsReady strings encoding) (directory_added sections)
    (λ l n v a so. directory_ready strings encoding sections l n v a so) h.directories _ p.directories
    (started_ready strings encoding p.line_encoding h line_strings p.directory p.file))

-- ---- texts of a source

pub source_path_of : (version : ℕ) (sections : Sections) (v : Value) {path : List ℕ}
    → source_path version sections v ≡ Ok path → text_of sections v ≡ Ok path
source_path_of version sections v is = grind arith

first_path_of : (version : ℕ) (sections : Sections) (h : Header) (v : Value) (path : List ℕ)
    → first_path version sections h v ≡ Ok path → text_of sections v ≡ Ok path
first_path_of version sections h v path is = grind arith

-- ---- entries of tables

pub at_seam : {A : Type 0} (done rest : List A) (x : A) (i : ℕ) → i ≡ length done
    → slice_get (done ++ x ∷ rest) i ≡ Some x
at_seam [] rest x zero is = refl
at_seam [] rest x (suc i) is = absurd (omega arith)
at_seam (y ∷ done) rest x zero is = absurd (omega arith)
at_seam (y ∷ done) rest x (suc i) is = at_seam done rest x i (omega arith)

-- where the numbers of a table begin: up to version 4 at 1
abbrev pub begins_at : Bool → ℕ
begins_at true = 1
begins_at false = 0

-- an entry after others, in a table that begins there
pub entry_at : {A : Type 0} (old : Bool) (handed : Option A) (done rest : List A) (x : A) (i : ℕ)
    → i ≡ begins_at old + length done
    → (if old then from_one handed (done ++ x ∷ rest) i else slice_get (done ++ x ∷ rest) i) ≡ Some x
entry_at true handed done rest x zero is = absurd (omega arith)
entry_at true handed done rest x (suc i) is = grind (arith, at_seam)
entry_at false handed done rest x i is = grind (arith, at_seam)

pub first_count : (version : ℕ) → length (first_ids version) ≡ begins_at (nat_le version 4)
first_count version = by _
  where
    by : (old : Bool) → length {A = ℕ} (if old then 0 ∷ [] else []) ≡ begins_at old
    by true = refl
    by false = refl

-- an element of a list that grew is an old one, or the new one
pub grown_cases : {A : Type 0} (xs : List A) (x y : A) (i : ℕ) → slice_get (xs ++ x ∷ []) i ≡ Some y
    → (slice_get xs i ≡ Some y) ⊎ ((i ≡ length xs) × (x ≡ y))
grown_cases [] x y zero is = inr (refl, cc)
grown_cases [] x y (suc i) is = absurd cc
grown_cases (z ∷ xs) x y zero is = inl is
grown_cases (z ∷ xs) x y (suc i) is =
    elim (grown_cases xs x y i is) [ inl so ↦ inl so | inr so ↦ inr (omega (arith, so.0), so.1) ]

-- ---- one directory

-- a directory of this text has this id
pub record IsAt (directories : List LineText) (t : LineText) (id : ℕ) : Type 0 where
  pub present : list_any (line_text_eq t) directories ≡ true
  pub index : id ≡ index_of_directory directories t

-- an id is that of the directory with this path
pub record IsDirectoryId (version : ℕ) (line_strings : List (List ℕ)) (directories : List LineText) (path : List ℕ)
    (id : ℕ) : Type 0 where
  pub made : IsMade version line_strings path
  pub at : IsAt directories (made_text version line_strings path) id

longer_texts : {version : ℕ} {old new : List (List ℕ)} {directories : List LineText} {path : List ℕ} {id : ℕ}
    → HasMade version old new
    → IsDirectoryId version old directories path id → IsDirectoryId version new directories path id
longer_texts has so = grind arith

more_directories : {version : ℕ} {line_strings : List (List ℕ)} {directories : List LineText} (t : LineText)
    {path : List ℕ} {id : ℕ} → IsDirectoryId version line_strings directories path id
    → IsDirectoryId version line_strings (with_directory directories t) path id
more_directories t so = grind (arith, grown_any, grown_index)

-- one that is added has its id
new_id : (version : ℕ) (line_strings : List (List ℕ)) (directories : List LineText) (path : List ℕ)
    → (let text = made_text version line_strings path in
    IsDirectoryId version (made_table version line_strings path) (with_directory directories text) path
    (index_of_directory directories text))
new_id version line_strings directories path =
    let text = made_text version line_strings path in
    let there = list_any (line_text_eq text) directories in
    record {
      made = grind (arith, is_made);
      at = grind (arith, is_same, own_any, same_text, own_index);
    }

-- it is found there
pub directory_there : {version : ℕ} {line_strings : List (List ℕ)} {directories : List LineText} {path : List ℕ}
    {id : ℕ} → IsDirectoryId version line_strings directories path id
    → slice_get directories id ≡ Some (made_text version line_strings path)
directory_there {version} {line_strings} {directories} {path} so =
    let t = made_text version line_strings path in
    ap (slice_get directories) so.at.index ∙ subst (λ ds. slice_get ds (index_of_directory directories t) ≡ Some t)
    (ap (λ b. if b then directories else directories ++ t ∷ []) so.at.present) (directory_found _ t)

-- so one id has one path
pub one_path : (version : ℕ) (line_strings : List (List ℕ)) {directories : List LineText} (a b : List ℕ) {id : ℕ}
    → IsDirectoryId version line_strings directories a id → IsDirectoryId version line_strings directories b id → a ≡ b
one_path version line_strings a b x y =
    let first = directory_there x in
    let second = directory_there y in
    let same : made_text version line_strings a ≡ made_text version line_strings b = cc in
    made_differ x.made y.made same

-- the texts that were there are there after a source, if one is made
pub sources_has : (version : ℕ) (paths : List (List ℕ)) (source : Option (List ℕ))
    → HasMade version paths (sources_table version paths source)
sources_has version paths (Some text) = table_has version paths text
sources_has version paths None = has_itself

-- ---- all directories

-- each id of a directory of the source is that of its path
pub record AreDirectories (sections : Sections) (h : Header) (tables : TablesAndTexts) : Type 0 where
  pub each : (d id : ℕ) → slice_get tables.directory_ids d ≡ Some id
      → (path : List ℕ) × IsDirectoryPath sections (directory_of h d) path
      × IsDirectoryId (version_of tables) tables.line_strings tables.program.directories path id

module _ (sections : Sections) (h : Header) where
  -- the next directory of a header is added
  directory_next : (tables next : TablesAndTexts) (v : Value) → directory_of h (length tables.directory_ids) ≡ Some v
      → directory_added sections tables v ≡ Ok next → AreDirectories sections h tables
      → AreDirectories sections h next × (length next.directory_ids ≡ length tables.directory_ids + 1)
  directory_next tables next v here is so =
      let version = version_of tables in
      let t = took _ _ is in
      let path = t.0 in
      let after = made_table version tables.line_strings path in
      let text = made_text version tables.line_strings path in
      let new = new_id version tables.line_strings tables.program.directories path in
      let read : IsText sections v path = text_read _ v (source_path_of _ _ v t.1) in
      subst (λ l. AreDirectories sections h l × (length l.directory_ids ≡ length tables.directory_ids + 1))
      (same_ok _ t.2) (
        record {
          each =
              λ d id at.
              elim (grown_cases tables.directory_ids (index_of_directory tables.program.directories text) id d at) [
                | inl old ↦
                    let before = so.each d id old in (
                      before.0,
                      before.1,
                      longer_texts (table_has version tables.line_strings path) (more_directories _ before.2),
                    )
                | inr here_it_is ↦ (
                  path,
                  subst (λ o. IsDirectoryPath sections o path) (sym (ap (directory_of h) here_it_is.0 ∙ here)) read,
                  subst (IsDirectoryId version after (with_directory tables.program.directories text) path) here_it_is.1
                      new,
                )
              ];
        },
        length-append tables.directory_ids (index_of_directory tables.program.directories text ∷ []),
      )

  directories_next : (done rest : List Value) (tables : TablesAndTexts) {last : TablesAndTexts}
      → h.directories ≡ done ++ rest
      → length tables.directory_ids ≡ begins_at (nat_le h.parameters.encoding.version 4) + length done
      → all_added (directory_added sections) rest tables ≡ Ok last → AreDirectories sections h tables
      → AreDirectories sections h last
  directories_next done [] tables parts count is so = grind (arith, same_ok)
  directories_next done (v ∷ rest) tables parts count is so =
      let t = took _ _ is in
      let here : directory_of h (length tables.directory_ids) ≡ Some v =
      ap (λ ds. if nat_le h.parameters.encoding.version 4
      then from_one (option_map String h.comp_dir) ds (length tables.directory_ids)
      else slice_get ds (length tables.directory_ids)) parts ∙ entry_at _ _ _ _ v _ count in
      let next = directory_next _ _ v here t.1 so in
      directories_next (done ++ v ∷ []) rest t.0 (parts ∙ sym (append_assoc done (v ∷ []) rest))
      (omega (arith, next.1, count, length-append done (v ∷ []))) t.2 next.0

  -- the working directory, up to version 4 of the source
  working_read : (version : ℕ) {directory : List ℕ} → working_directory version sections h ≡ Ok directory
      → IsDirectoryPath sections (directory_of h 0) directory
  working_read version {directory} is = by _ is
    where
      none : (b : Bool) → (if b then Ok [] else Err MissingCompilationDirectory) ≡ Ok directory → directory ≡ []
      none true so = cc
      none false so = absurd cc

      by : (o : Option Value)
          → option_map_or (first_path version sections h) o (needed_from_5 version [] MissingCompilationDirectory)
          ≡ Ok directory → IsDirectoryPath sections o directory
      by (Some v) so = text_read _ v (first_path_of _ _ h v _ so)
      by None so = none _ so

  directories_first : (encoding : Encoding) (line_encoding : LineEncoding) (line_strings : List (List ℕ))
      (directory : List ℕ) (file : SourceFile) → IsDirectoryPath sections (directory_of h 0) directory
      → AreDirectories sections h
      (start_of_tables encoding line_encoding h (first_texts encoding.version line_strings directory file))
  directories_first encoding line_encoding line_strings directory file read = record { each = each _ }
    where
      working : LineText
      working = made_text encoding.version line_strings directory

      own : Option LineText
      own = (first_texts encoding.version line_strings directory file).source_directory

      with_own : {last : List (List ℕ)} (working : LineText) (own : Option LineText) (old : Bool)
          → IsDirectoryId encoding.version last (working ∷ []) directory 0 → IsDirectoryId encoding.version last
          (if old then working ∷ [] else option_map_or (with_directory (working ∷ [])) own (working ∷ [])) directory 0
      with_own working own true so = so
      with_own working (Some t) false so = more_directories t so
      with_own working None false so = so

      each : (old : Bool) (d id : ℕ) → slice_get (if old then 0 ∷ [] else []) d ≡ Some id
          → (path : List ℕ) × IsDirectoryPath sections (directory_of h d) path
          × IsDirectoryId encoding.version (first_texts encoding.version line_strings directory file).line_strings
          (first_directories encoding.version (made_text encoding.version line_strings directory)
          (first_texts encoding.version line_strings directory file).source_directory) path id
      each true zero id at =
          let second = made_table encoding.version line_strings directory in
          let third = sources_table encoding.version second file.directory in
          let last = made_table encoding.version third file.path in
          let zero_is : 0 ≡ id = cc in (
            directory,
            read,
            subst (IsDirectoryId encoding.version last (first_directories encoding.version working own) directory)
                zero_is (with_own _ _ _ (longer_texts (table_has encoding.version third file.path)
                (longer_texts (sources_has _ _ _) (new_id encoding.version line_strings [] directory)))),
          )
      each true (suc d) id at = absurd cc
      each false d id at = absurd cc

  -- those of a header
  pub directories_prepared : (given : Handed) (line_strings : List (List ℕ)) (tables : TablesAndTexts)
      (p : IsPrepared sections h given line_strings tables) → AreDirectories sections h p.with_directories
  directories_prepared given line_strings tables p =
      directories_next [] h.directories _ refl (first_count h.parameters.encoding.version ∙ omega arith) p.directories
      (directories_first (encoding_of h given) p.line_encoding line_strings _ p.file (working_read _ p.directory_is))

  -- a file changes none of them
  pub directories_stay : (tables : TablesAndTexts) {next : TablesAndTexts} (f : File)
      → file_added sections tables f ≡ Ok next → AreDirectories sections h tables → AreDirectories sections h next
  directories_stay tables f is so =
      let version = version_of tables in
      let t = took (file_parts version sections tables.directory_ids f) (λ parts. Ok (with_parts tables f parts)) is in
      let parts = t.0 in
      let paths = made_table version tables.line_strings parts.path in
      let after = sources_table version paths parts.source in
      let has : HasMade version tables.line_strings after =
      has_then (table_has version tables.line_strings parts.path) (sources_has version paths parts.source) in
      subst (AreDirectories sections h) (same_ok (with_parts tables f parts) t.2) (record {
        each = grind (arith, longer_texts);
      })

-- ---- elements one by one

pub one_by_one_map : {A B : Type 0} (R S : A → B → Type 0) → ((x : A) (y : B) → R x y → S x y)
    → (xs : List A) (ys : List B) → OneByOne R xs ys → OneByOne S xs ys
one_by_one_map R S f [] [] all = tt
one_by_one_map R S f [] (y ∷ ys) all = elim all [ ]
one_by_one_map R S f (x ∷ xs) [] all = elim all [ ]
one_by_one_map R S f (x ∷ xs) (y ∷ ys) all = (f x y all.0, one_by_one_map R S f xs ys all.1)

pub one_by_one_at : {A B : Type 0} (R : A → B → Type 0) (xs : List A) (ys : List B) (i : ℕ) {x : A} → OneByOne R xs ys
    → slice_get xs i ≡ Some x → (y : B) × (slice_get ys i ≡ Some y) × R x y
one_by_one_at R [] ys i all is = absurd cc
one_by_one_at R (a ∷ xs) [] i all is = elim all [ ]
one_by_one_at R (a ∷ xs) (b ∷ ys) zero {x} all is =
    let same : a ≡ x = cc in (b, refl, subst (λ z. R z b) same all.0)
one_by_one_at R (a ∷ xs) (b ∷ ys) (suc i) all is = one_by_one_at R xs ys i all.1 is

pub one_by_one_back : {A B : Type 0} (R : A → B → Type 0) (xs : List A) (ys : List B) (i : ℕ) {y : B} → OneByOne R xs ys
    → slice_get ys i ≡ Some y → (x : A) × (slice_get xs i ≡ Some x)
one_by_one_back R [] [] i all is = absurd cc
one_by_one_back R [] (b ∷ ys) i all is = elim all [ ]
one_by_one_back R (a ∷ xs) [] i all is = elim all [ ]
one_by_one_back R (a ∷ xs) (b ∷ ys) zero all is = (a, refl)
one_by_one_back R (a ∷ xs) (b ∷ ys) (suc i) all is = one_by_one_back R xs ys i all.1 is

all_push : {A : Type 0} (P : A → Type 0) (xs : List A) (x : A) → AllByRecursion P xs → P x
    → AllByRecursion P (xs ++ x ∷ [])
all_push P [] x all one = (one, tt)
all_push P (y ∷ xs) x all one = (all.0, all_push P xs x all.1 one)

-- ---- a file is added to a table

module _ (q : FileKey → Bool) where
  details_any : (files : List BuiltFile) (i : ℕ) (d : Details)
      → list_any (λ f. q f.0) (with_details files i d) ≡ list_any (λ f. q f.0) files
  details_any [] i d = refl
  details_any (f ∷ files) zero d = refl
  details_any (f ∷ files) (suc i) d = ap (λ b. q f.0 || b) (details_any files i d)

  details_index : (files : List BuiltFile) (i : ℕ) (d : Details)
      → position_or_len (λ f. q f.0) (with_details files i d) ≡ position_or_len (λ f. q f.0) files
  details_index [] i d = refl
  details_index (f ∷ files) zero d = refl
  details_index (f ∷ files) (suc i) d = ap (λ n. cond (not (q f.0)) (1 + n) 0) (details_index files i d)

details_at : (files : List BuiltFile) (i : ℕ) (d : Details)
    → slice_get (with_details files i d) i ≡ option_map (λ f. (f.0, d)) (slice_get files i)
details_at [] i d = refl
details_at (f ∷ files) zero d = refl
details_at (f ∷ files) (suc i) d = details_at files i d

-- an entry with this key and these details has this index
pub record IsEntry (files : List BuiltFile) (k : FileKey) (d : Details) (i : ℕ) : Type 0 where
  pub present : has_file files k ≡ true
  pub index : i ≡ index_of_file files k
  pub there : slice_get files i ≡ Some (k, d)

module _ (files : List BuiltFile) (k : FileKey) (d : Details) where
  abbrev after : Bool → List BuiltFile
  after b = if b then with_details files (index_of_file files k) d else files ++ (k, d) ∷ []

  -- a file that was there keeps its index
  old_any : (l : FileKey) → has_file files l ≡ true → has_file (with_file files k (Some d)) l ≡ true
  old_any l is = by _
    where
      by : (b : Bool) → has_file (after b) l ≡ true
      by true = details_any (key_eq l) _ _ d ∙ is
      by false = any_stays (λ f. key_eq l f.0) _ _ is

  old_index : (l : FileKey) → has_file files l ≡ true
      → index_of_file (with_file files k (Some d)) l ≡ index_of_file files l
  old_index l is = by _
    where
      by : (b : Bool) → index_of_file (after b) l ≡ index_of_file files l
      by true = details_index (key_eq l) _ _ d
      by false = index_stays (λ f. key_eq l f.0) _ _ is

  -- the one that is added is there, at its index
  new_any : has_file (with_file files k (Some d)) k ≡ true
  new_any = by _ refl
    where
      by : (b : Bool) → has_file files k ≡ b → has_file (after b) k ≡ true
      by true is = details_any (key_eq k) _ _ d ∙ is
      by false is = any_new (λ f. key_eq k f.0) _ _ (same_key k)

  new_index : index_of_file (with_file files k (Some d)) k ≡ index_of_file files k
  new_index = by _ refl
    where
      by : (b : Bool) → has_file files k ≡ b → index_of_file (after b) k ≡ index_of_file files k
      by true is = details_index (key_eq k) _ _ d
      by false is = index_new (λ f. key_eq k f.0) _ _ (same_key k) is

  -- with the details that are handed
  new_there : slice_get (with_file files k (Some d)) (index_of_file files k) ≡ Some (k, d)
  new_there = by (has_file files k) refl (file_found_at files k (Some d))
    where
      there : (o : Option BuiltFile)
          → option_map (λ f. f.0) (option_map (λ f. let g : BuiltFile = (f.0, d) in g) o) ≡ Some k
          → option_map (λ f. let g : BuiltFile = (f.0, d) in g) o ≡ Some (k, d)
      there (Some f) is =
          let same : f.0 ≡ k = cc in ap (λ (l : FileKey). let o : Option BuiltFile = Some (l, d) in o) same
      there None is = absurd cc

      by : (b : Bool) → has_file files k ≡ b → slice_get (keys_of (after b)) (index_of_file files k) ≡ Some k
          → slice_get (after b) (index_of_file files k) ≡ Some (k, d)
      by true is found =
          let n = index_of_file files k in
          details_at files n d ∙ there (slice_get files n) (ap (option_map (λ f. f.0)) (sym (details_at files n d))
          ∙ sym (slice_get-map (λ (f : BuiltFile). f.0) (with_details files n d) n) ∙ found)
      by false is found = last_element files (k, d) (index_of_file files k) (index_none (λ f. key_eq k f.0) files is)

  -- another file keeps its details
  other_there : (l : FileKey) (e : Details) (i : ℕ) → slice_get files i ≡ Some (l, e) → l ≢ k
      → slice_get (with_file files k (Some d)) i ≡ Some (l, e)
  other_there l e i is other =
      let lt : i < length files = some_within files i (l, e) is in
      let keys : slice_get (keys_of files) i ≡ Some l = slice_get-map (λ (f : BuiltFile). f.0) files i
      ∙ ap (option_map (λ f. f.0)) is in
      let stays = (file_keeps files k (Some d)).stays i (some_within (keys_of files) i l keys) in
      file_others files k (Some d) i lt (λ here.
      let found =
      subst (λ (n : ℕ). slice_get (keys_of (with_file files k (Some d))) n ≡ Some k) (sym here)
      (file_found_at files k (Some d)) in
      let same : l ≡ k = cc in
      other same) ∙ is

  entry_new : IsEntry (with_file files k (Some d)) k d (index_of_file files k)
  entry_new = record { present = new_any; index = sym new_index; there = new_there }

  entry_replaced : {e : Details} {i : ℕ} → IsEntry files k e i → IsEntry (with_file files k (Some d)) k d i
  entry_replaced so = subst (IsEntry (with_file files k (Some d)) k d) (sym so.index) entry_new

  entry_kept : {l : FileKey} {e : Details} {i : ℕ} → l ≢ k → IsEntry files l e i
      → IsEntry (with_file files k (Some d)) l e i
  entry_kept {l} other so = record {
    present = old_any l so.present;
    index = grind (arith, old_index);
    there = grind (arith, other_there);
  }

-- ---- one file of a source

-- two files have the same path and the same directory
abbrev pub SamePaths : FileParts → FileParts → Type 0
SamePaths a b = (a.path ≡ b.path) × (a.directory ≡ b.directory)

same_paths : (a b : FileParts) → SamePaths a b ⊎ (SamePaths a b → ⊥)
same_paths a b = by (bytes_eq a.path b.path) (nat_eq a.directory b.directory) refl refl
  where
    by : (p d : Bool) → bytes_eq a.path b.path ≡ p → nat_eq a.directory b.directory ≡ d
        → SamePaths a b ⊎ (SamePaths a b → ⊥)
    by true true path directory = inl ((bytes_eq-Decides _ _).0 path, eqb-true a.directory b.directory directory)
    by true false path directory = inr (λ same. true≢false (sym (eq-eqb a.directory b.directory same.1) ∙ directory))
    by false d path directory = inr (λ same. true≢false (sym ((bytes_eq-Decides _ _).1 same.0) ∙ path))

-- what a built file has of a file of the source
pub record IsKnown (version : ℕ) (line_strings : List (List ℕ)) (f : File) (source : Option (List ℕ)) (d : Details)
    : Type 0 where
  pub timestamp : d.timestamp ≡ f.timestamp
  pub size : d.size ≡ f.size
  pub md5 : d.md5 ≡ f.md5
  pub source_is : d.source ≡ option_map (made_text version line_strings) source
  pub source_made : IfSome source (IsMade version line_strings)

module _ (sections : Sections) (version : ℕ) (directory_ids : List ℕ) where
  -- the parts of a file, in a program of this version with these ids of directories
  abbrev pub HasParts : FileParts → File → Type 0
  HasParts parts f = file_parts version sections directory_ids f ≡ Ok parts

  -- a file has other paths
  pub record HasOthers (parts : FileParts) (g : File) : Type 0 where
    pub own : FileParts
    pub own_is : HasParts own g
    pub other : SamePaths own parts → ⊥

module _ (sections : Sections) (tables : TablesAndTexts) where
  abbrev pub Has : FileParts → File → Type 0
  Has = HasParts sections (version_of tables) tables.directory_ids

  -- what is known is of the last of these files that has the paths of these parts
  pub record IsOfLast (source : List File) (parts : FileParts) (d : Details) : Type 0 where
    pub last : File
    pub last_parts : FileParts
    pub last_are : Has last_parts last
    pub same : SamePaths last_parts parts
    pub known : IsKnown (version_of tables) tables.line_strings last last_parts.source d
    pub before : List File
    pub later : List File
    pub split : source ≡ before ++ last ∷ later
    pub none_after : AllByRecursion (HasOthers sections (version_of tables) tables.directory_ids parts) later

  abbrev pub key_of : FileParts → FileKey
  key_of parts = (made_text (version_of tables) tables.line_strings parts.path, parts.directory)

  -- an id is that of the paths of a file
  pub record IsFileOf (source : List File) (f : File) (id : ℕ) : Type 0 where
    pub parts : FileParts
    pub parts_are : Has parts f
    pub made : IsMade (version_of tables) tables.line_strings parts.path
    pub details : Details
    pub entry : IsEntry tables.program.files (key_of parts) details id
    pub of_last : IsOfLast source parts details

known_longer : {version : ℕ} {old new : List (List ℕ)} {f : File} (source : Option (List ℕ)) {d : Details}
    → HasMade version old new → IsKnown version old f source d → IsKnown version new f source d
known_longer (Some text) has so = record {
  timestamp = so.timestamp;
  size = so.size;
  md5 = so.md5;
  source_is = grind arith;
  source_made = has.there text so.source_made;
}
known_longer None has so = record {
  timestamp = so.timestamp;
  size = so.size;
  md5 = so.md5;
  source_is = so.source_is;
  source_made = tt;
}

source_known : (version : ℕ) (paths : List (List ℕ)) (source : Option (List ℕ))
    → option_map (made_text version paths) source
    ≡ option_map (made_text version (sources_table version paths source)) source
source_known version paths (Some text) = ap Some (sym (is_same version paths text))
source_known version paths None = refl

source_there : (version : ℕ) (paths : List (List ℕ)) (source : Option (List ℕ))
    → IfSome source (IsMade version (sources_table version paths source))
source_there version paths (Some text) = is_made version paths text
source_there version paths None = tt

-- ---- one more file

module _ (sections : Sections) (tables : TablesAndTexts) (g : File) (added : FileParts)
    (added_are : HasParts sections (version_of tables) tables.directory_ids added g) (source : List File) where
  abbrev with_it : TablesAndTexts
  with_it = with_parts tables g added

  abbrev paths : List (List ℕ)
  paths = made_table (version_of tables) tables.line_strings added.path

  abbrev details_of : Details
  details_of = record {
    timestamp = g.timestamp;
    size = g.size;
    md5 = g.md5;
    source = option_map (made_text (version_of tables) paths) added.source;
  }

  paths_stay : HasMade (version_of tables) paths with_it.line_strings
  paths_stay = sources_has _ _ _

  texts_stay : HasMade (version_of tables) tables.line_strings with_it.line_strings
  texts_stay = has_then (table_has (version_of tables) tables.line_strings added.path) paths_stay

  own_made : IsMade (version_of tables) with_it.line_strings added.path
  own_made = paths_stay.there added.path (is_made (version_of tables) tables.line_strings added.path)

  own_key : key_of sections with_it added ≡ key_of sections tables added
  own_key =
      ap (λ t. let k : FileKey = (t, added.directory) in k)
      (paths_stay.same added.path (is_made (version_of tables) tables.line_strings added.path)
      ∙ is_same (version_of tables) tables.line_strings added.path)

  -- it is the last one with its paths
  own_last : (parts : FileParts) → SamePaths added parts → IsOfLast sections with_it (source ++ g ∷ []) parts details_of
  own_last parts same = record {
    last = g;
    last_parts = added;
    last_are = added_are;
    same = same;
    known = record {
      timestamp = refl;
      size = refl;
      md5 = refl;
      source_is = grind (arith, source_known);
      source_made = grind (arith, source_there);
    };
    before = source;
    later = [];
    split = refl;
    none_after = tt;
  }

  -- the new file
  file_new : IsFileOf sections with_it (source ++ g ∷ []) g
      (index_of_file tables.program.files (key_of sections tables added))
  file_new = record {
    parts = added;
    parts_are = added_are;
    made = own_made;
    details = details_of;
    entry =
        subst (λ k. IsEntry with_it.program.files k details_of
        (index_of_file tables.program.files (key_of sections tables added))) (sym own_key)
        (entry_new tables.program.files (key_of sections tables added) details_of);
    of_last = own_last _ (refl, refl);
  }

  -- a file that was there
  file_old : (f : File) (id : ℕ) → IsFileOf sections tables source f id
      → IsFileOf sections with_it (source ++ g ∷ []) f id
  file_old f id so = elim (same_paths added so.parts) [ inl same ↦ taken same | inr other ↦ left other ]
    where
      old_key : FileKey
      old_key = key_of sections tables so.parts

      key_same : key_of sections with_it so.parts ≡ old_key
      key_same = ap (λ t. let k : FileKey = (t, so.parts.directory) in k) (texts_stay.same so.parts.path so.made)

      with_entry : {d : Details} → IsEntry with_it.program.files old_key d id
          → IsOfLast sections with_it (source ++ g ∷ []) so.parts d → IsFileOf sections with_it (source ++ g ∷ []) f id
      with_entry {d} entry of_last = record {
        parts = so.parts;
        parts_are = so.parts_are;
        made = texts_stay.there so.parts.path so.made;
        details = d;
        entry = subst (λ k. IsEntry with_it.program.files k d id) (sym key_same) entry;
        of_last = of_last;
      }

      -- the added file has its paths
      taken : SamePaths added so.parts → IsFileOf sections with_it (source ++ g ∷ []) f id
      taken same =
          let is : key_of sections tables added ≡ old_key = cc in
          with_entry (subst (λ k. IsEntry with_it.program.files k details_of id) is
          (entry_replaced tables.program.files (key_of sections tables added) details_of
          (subst (λ k. IsEntry tables.program.files k so.details id) (sym is) so.entry))) (own_last _ same)

      -- the added file has others
      left : (SamePaths added so.parts → ⊥) → IsFileOf sections with_it (source ++ g ∷ []) f id
      left other =
          let other_key : old_key ≢ key_of sections tables added = λ is.
          let keys : key_of sections with_it so.parts ≡ key_of sections with_it added = key_same ∙ is ∙ sym own_key in
          other (
            sym (made_differ (texts_stay.there so.parts.path so.made) own_made (ap (λ k. k.0) keys)),
            sym (ap (λ k. k.1) is),
          ) in
          let l = so.of_last in
          with_entry (entry_kept tables.program.files (key_of sections tables added) details_of other_key so.entry)
          (record {
            last = l.last;
            last_parts = l.last_parts;
            last_are = l.last_are;
            same = l.same;
            known = known_longer _ texts_stay l.known;
            before = l.before;
            later = l.later ++ g ∷ [];
            split = ap (λ xs. xs ++ g ∷ []) l.split ∙ append_assoc l.before (l.last ∷ l.later) (g ∷ []);
            none_after = grind (arith, all_push);
          })

-- ---- all files

-- each id of a file of the source is that of its paths
pub record AreFiles (sections : Sections) (h : Header) (tables : TablesAndTexts) (source : List File) : Type 0 where
  pub ids : List ℕ
  pub ids_are : tables.file_ids ≡ first_ids h.parameters.encoding.version ++ ids
  pub each : OneByOne (IsFileOf sections tables source) source ids

pub file_next : {sections : Sections} (h : Header) {tables next : TablesAndTexts} (g : File) {source : List File}
    → file_added sections tables g ≡ Ok next
    → AreFiles sections h tables source → AreFiles sections h next (source ++ g ∷ [])
file_next {sections} h {tables} g {source} is so =
    let t = took _ _ is in
    let parts = t.0 in
    let id = index_of_file tables.program.files (key_of sections tables parts) in
    let R = IsFileOf sections (with_parts tables g parts) (source ++ g ∷ []) in
    subst (λ l. AreFiles sections h l (source ++ g ∷ [])) (same_ok _ t.2) (record {
      ids = so.ids ++ id ∷ [];
      ids_are = grind arith;
      each =
          one_by_one_push R _ _ g _ (one_by_one_map _ R (file_old sections tables g parts t.1 source) _ _ so.each)
          (file_new sections tables g parts t.1 source);
    })

-- those of a header
pub files_next : (sections : Sections) (h : Header) (done rest : List File) {tables last : TablesAndTexts}
    → all_added (file_added sections) rest tables ≡ Ok last
    → AreFiles sections h tables done → AreFiles sections h last (done ++ rest)
files_next sections h done [] {last} is so =
    subst (AreFiles sections h last) (sym (append-nil done)) (subst (λ l. AreFiles sections h l done) (same_ok _ is) so)
files_next sections h done (g ∷ rest) {last} is so =
    let t = took _ _ is in
    subst (AreFiles sections h last) (append_assoc done (g ∷ []) rest)
    (files_next sections h (done ++ g ∷ []) rest t.2 (file_next h g t.1 so))

-- and those that a program defines
pub files_defined : {sections : Sections} {h : Header} {first : TablesAndTexts} (past : List Ins)
    {tables : TablesAndTexts} → tables_at sections first past ≡ Ok tables
    → AreFiles sections h first h.files → AreFiles sections h tables (defined_files h.files past)
files_defined {sections} {h} [] is so = subst (λ l. AreFiles sections h l h.files) (same_ok _ is) so
files_defined {sections} {h} (i ∷ past) {tables} is so =
    let t = took _ _ is in
    one i t.2 (files_defined past t.1 so)
  where
    one : (i : Ins) {before : TablesAndTexts} → tables_after_definition sections before i ≡ Ok tables
        → AreFiles sections h before (defined_files h.files past)
        → AreFiles sections h tables (defined_files h.files (i ∷ past))
    one (DefineFile f) at q = file_next h f at q
    one i at q = subst (λ l. AreFiles sections h l (defined_files h.files past)) (same_ok _ at) q

-- ---- one text

one_directory : (sections : Sections) (o : Option Value) {a b : List ℕ} → IsDirectoryPath sections o a
    → IsDirectoryPath sections o b → a ≡ b
one_directory sections (Some v) {a} {b} x y = text_same _ v b a y x
one_directory sections None x y = cc

there_ok : (o : Option ℕ) {id : ℕ} → ok_or o InvalidDirectoryIndex ≡ Ok id → o ≡ Some id
there_ok (Some n) is = cc
there_ok None is = absurd cc

-- ---- the parts of a file

-- what they are read of
record AreRead (sections : Sections) (directory_ids : List ℕ) (parts : FileParts) (f : File) : Type 0 where
  path : IsText sections f.path_name parts.path
  directory : slice_get directory_ids f.directory_index ≡ Some parts.directory
  source : if_there (source_text sections) f.source ≡ Ok parts.source

are_read : (sections : Sections) (version : ℕ) (directory_ids : List ℕ) (parts : FileParts) (f : File)
    → HasParts sections version directory_ids parts f → AreRead sections directory_ids parts f
are_read sections version directory_ids parts f is = grind (arith, same_ok, text_read, there_ok)

-- a source that is known stands for the text of the source
source_is_text : (sections : Sections) (version : ℕ) (texts : StringTables) (o : Option Value)
    (source : Option (List ℕ))
    → if_there (source_text sections) o ≡ Ok source → IfSome source (IsMade version texts.line_strings)
    → IsOptionalText sections o (option_map (bytes_in texts) (option_map (made_text version texts.line_strings) source))
source_is_text sections version texts (Some v) (Some text) is made = grind (arith, made_bytes, text_read)
source_is_text sections version texts (Some v) None is made = grind arith
source_is_text sections version texts None (Some text) is made = absurd cc
source_is_text sections version texts None None is made = tt

-- ---- a file that is mapped

-- what a conversion answers of a program, with the tables at its end
abbrev pub finished : TablesAndTexts → Built → Outcome
finished tables p = record {
  program = with_tables tables p;
  file_ids = tables.file_ids;
  line_strings = tables.line_strings;
}

module _ (sections : Sections) (h : Header) (strings : List (List ℕ)) (tables : TablesAndTexts)
    (directories : AreDirectories sections h tables) where
  abbrev IsDirectory : List ℕ → ℕ → Type 0
  IsDirectory = IsDirectoryId (version_of tables) tables.line_strings tables.program.directories

  -- the paths of a file by its parts
  paths_of : (parts : FileParts) (f : File) (directory : List ℕ) → Has sections tables parts f
      → IsDirectory directory parts.directory → HasPaths sections h parts.path directory f
  paths_of parts f directory is at =
      let read = are_read _ _ _ _ f is in
      let own = directories.each f.directory_index parts.directory read.directory in
      let same : own.0 ≡ directory = one_path _ _ _ _ own.2 at in
      record {
        own = read.path;
        of_directory = grind arith;
      }

  -- so a file with these paths has these parts
  parts_of : (parts own : FileParts) (g : File) (directory : List ℕ) → Has sections tables own g
      → IsDirectory directory parts.directory → HasPaths sections h parts.path directory g → SamePaths own parts
  parts_of parts own g directory is at has =
      let read = are_read _ _ _ _ g is in
      let there = directories.each g.directory_index own.directory read.directory in
      let same : there.0 ≡ directory = one_directory _ _ there.1 has.of_directory in
      let moved : IsDirectory directory own.directory = subst (λ path. IsDirectory path own.directory) same there.2 in
      (text_same _ _ _ _ has.own read.path, moved.at.index ∙ sym at.at.index)

  others_after : (parts : FileParts) (directory : List ℕ) → IsDirectory directory parts.directory
      → (later : List File) → AllByRecursion (HasOthers sections (version_of tables) tables.directory_ids parts) later
      → AllByRecursion (λ g. HasPaths sections h parts.path directory g → ⊥) later
  others_after parts directory at [] all = tt
  others_after parts directory at (g ∷ later) all = (
    λ has. all.0.other (parts_of parts _ g directory all.0.own_is at has),
    others_after parts directory at later all.1,
  )

  module _ (p : Built) (source : List File) where
    file_mapped : (f : File) {id : ℕ} → IsFileOf sections tables source f id
        → IsMappedFile sections h source strings (finished tables p) f id
    file_mapped f so =
        let version = version_of tables in
        let texts = texts_in strings tables.line_strings in
        let l = so.of_last in
        let d =
        directories.each f.directory_index so.parts.directory
        (are_read sections version tables.directory_ids so.parts f so.parts_are).directory in
        let text = made_text version tables.line_strings so.parts.path in
        let directory = made_text version tables.line_strings d.0 in
        let to =
        λ (P : List ℕ → List ℕ → Type 0) (p : P so.parts.path d.0).
        subst (λ (x : List ℕ). P x (bytes_in texts directory)) (sym (made_bytes texts so.made))
        (subst (P so.parts.path) (sym (made_bytes texts d.2.made)) p) in
        let at_last : IsDirectory d.0 l.last_parts.directory = subst (IsDirectory d.0) (sym l.same.1) d.2 in
        let is_last : IsLastWithPaths sections h so.parts.path d.0 source l.last = record {
          before = l.before;
          later = l.later;
          parts = l.split;
          has =
              subst (λ (path : List ℕ). HasPaths sections h path d.0 l.last) l.same.0
              (paths_of l.last_parts l.last d.0 l.last_are at_last);
          none_after = All-from_recursion _ l.later (others_after so.parts d.0 d.2 l.later l.none_after);
        } in
        record {
          built = ((text, so.parts.directory), so.details);
          there = so.entry.there;
          directory = directory;
          directory_there = directory_there d.2;
          has = to (λ path directory. HasPaths sections h path directory f) (paths_of so.parts f d.0 so.parts_are d.2);
          last = l.last;
          is_last = to (λ path directory. IsLastWithPaths sections h path directory source l.last) is_last;
          timestamp = l.known.timestamp;
          size = l.known.size;
          md5 = l.known.md5;
          source =
              subst (λ (o : Option LineText). IsOptionalText sections l.last.source (option_map (bytes_in texts) o))
              (sym l.known.source_is) (source_is_text sections version texts l.last.source l.last_parts.source
              (are_read sections version tables.directory_ids l.last_parts l.last l.last_are).source
              l.known.source_made);
        }

-- ---- file numbers

module _ (version : ℕ) (R : File → ℕ → Type 0) (files : List File) (ids file_ids : List ℕ)
    (all : OneByOne R files ids) where
  -- each number has an id
  each_number : (old : Bool) → nat_le version 4 ≡ old → file_ids ≡ (if old then 0 ∷ [] else []) ++ ids
      → (n : ℕ) (f : File) → (if old then from_one None files n else slice_get files n) ≡ Some f
      → (id : ℕ) × IsFileId version file_ids n id × R f id
  each_number true is ids_are zero f at = absurd cc
  each_number true is ids_are (suc i) f at = grind (arith, one_by_one_at)
  each_number false is ids_are n f at = grind (arith, one_by_one_at)

  -- and no other
  only_number : (old : Bool) → nat_le version 4 ≡ old → file_ids ≡ (if old then 0 ∷ [] else []) ++ ids
      → (n id : ℕ) → IsFileId version file_ids n id
      → (f : File) × ((if old then from_one None files n else slice_get files n) ≡ Some f)
  only_number true is ids_are zero id so = grind arith
  only_number true is ids_are (suc i) id so = grind (arith, one_by_one_back)
  only_number false is ids_are n id so = grind (arith, one_by_one_back)

-- ---- all files

pub files_mapped : {sections : Sections} {h : Header} (strings : List (List ℕ)) {tables : TablesAndTexts} (p : Built)
    {source : List File} → AreDirectories sections h tables → AreFiles sections h tables source
    → AreFilesMapped sections h source strings (finished tables p)
files_mapped {sections} {h} strings {tables} p {source} directories so =
    let version = h.parameters.encoding.version in
    let R = IsMappedFile sections h source strings (finished tables p) in
    let all =
    one_by_one_map _ R (λ f id is. file_mapped sections h strings tables directories p source f is) _ _ so.each in
    record {
      each = each_number version R source so.ids tables.file_ids all _ refl so.ids_are;
      only = only_number version R source so.ids tables.file_ids all _ refl so.ids_are;
    }
