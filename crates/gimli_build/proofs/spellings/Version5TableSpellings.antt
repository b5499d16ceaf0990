-- The formats of a table of version 5: their bytes spell them, and one of them is a path.
use Rattle.std.specs.Prelude.{◌≡◌, ◌<◌, ◌^◌, ◌∷◌, ◌++◌, if◌then◌else◌, ◌≤◌}
use Rattle.gimli_build.proofs
use proofs.Common
use Common.{ℕ, Bool, true, false, List, [], length, map, refl, sym, ◌∙◌, subst, append_assoc, arith, lit<, min}
use Common.{flat_map, count_by, lt-ltb, append-nil, times, SpellsUleb128, uleb_shortest, SpellsFormats, FileEntryFormat}
use Common.{LineText, when, text_form, first_form, path_texts, sources, formats_bytes}
use Common.{directory_formats, file_formats, Built, Some, None, ap, nat_eq, replicate, OrderAndLimit, Value, SpellsForm}
use Common.{Format, Block, Udata, uleb, ReadFile, Ok, length-append, Result, nat_le, All, option_map_or, All-head}
use Common.{All-tail, Placement, counted, AreTexts, StringTables, Error, bytes_in, File, Details, Sections, IsText}
use Common.{IsOptionalText, OneByOne, result_append, result_concat, IsDirectory, IsFile, IsFound}
use Common.{text_in_form, directory_table_bytes, source_bytes, file_entry_bytes, file_table_bytes}
use Rattle.gimli_bytes.specs.Number.{uleb}
use Rattle.gimli_line.specs.header.HeaderGrammar.{
  format_production,
  is_content,
  TableEntry,
  formats_production,
  entry_production,
  entries_production,
  digest,
  file_of_entry,
  table_production,
  path_of,
}
use Rattle.gimli_build.specs.Stored.{stored_details}
use proofs.writing.WrittenParts.{same_written, both_written, after_written}
use proofs.spellings.TextForms.{read_text, IsReady, IsHeld, text-spelled, text-long, text-back}
use proofs.reading.ReadyTexts.{source_of, IsFileReady, AreReady, IsOfFile, AreOfTables}

-- a content type and a form as they are read
abbrev pub read_format : ℕ × ℕ → FileEntryFormat
read_format f = record { content_type = record { 0 = f.0 }; form = record { 0 = f.1 } }

-- ---- one format

-- a content type that two bytes hold, and a form that is one byte
record IsFormat (f : ℕ × ℕ) : Type 0 where
  fits : f.0 < 2 ^ 64
  content : min f.0 0xffff ≡ f.0
  form : f.1 < 128

-- a number below 128 is its own LEB128
small_bytes : (n : ℕ) → n < 128 → uleb n ≡ n ∷ []
unfolding uleb
small_bytes n small = rw (lt-ltb n 128 small) refl

small_spelled : (n : ℕ) → n < 128 → SpellsUleb128 16 (uleb n) n
small_spelled n small = grind (arith, small_bytes)

abbrev one_bytes : ℕ × ℕ → List ℕ
one_bytes f = uleb f.0 ++ uleb f.1

one_spelled : (f : ℕ × ℕ) → IsFormat f → format_production.Spells (one_bytes f) (read_format f)
unfolding format_production
one_spelled f is = (
  f.0,
  uleb f.0,
  uleb f.1,
  refl,
  (uleb_shortest _ is.fits).spells,
  (f.1, uleb f.1, [], sym (append-nil _), small_spelled _ is.form, (refl, whole _ _ is.content)),
)
  where
    whole : (content least : ℕ) → least ≡ content
        → read_format (content, f.1) ≡ record { content_type = record { 0 = least }; form = record { 0 = f.1 } }
    whole content least same = rw same refl

-- ---- some formats

abbrev AreSpelled : List (ℕ × ℕ) → Type 0
AreSpelled formats =
    (times (length formats) format_production).Spells (flat_map one_bytes formats) (map read_format formats)

more_spelled : (f : ℕ × ℕ) (formats : List (ℕ × ℕ)) → IsFormat f → AreSpelled formats → AreSpelled (f ∷ formats)
more_spelled f formats is rest = grind (arith, one_spelled, append-nil)

when_spelled : (due : Bool) (f : ℕ × ℕ) (formats : List (ℕ × ℕ)) → IsFormat f → AreSpelled formats
    → AreSpelled (when due f ++ formats)
when_spelled true f formats is rest = more_spelled f _ is rest
when_spelled false f formats is rest = rest

last_spelled : (due : Bool) (f : ℕ × ℕ) → IsFormat f → AreSpelled (when due f)
last_spelled true f is = more_spelled f [] is (refl, refl)
last_spelled false f is = (refl, refl)

-- formats one of which is a path, after their number
formats_spelled : (formats : List (ℕ × ℕ)) → AreSpelled formats
    → count_by (is_content 0x0001) (map read_format formats) ≡ 1
    → SpellsFormats (formats_bytes formats) (map read_format formats)
unfolding formats_production
formats_spelled formats spelled one = grind (arith, append-nil)

-- ---- the tables

text_form_small : (t : LineText) → text_form t < 128
text_form_small t = grind arith

pub first_form_small : (texts : List LineText) → first_form texts < 128
first_form_small texts = grind (arith, text_form_small)

is_format : (content form : ℕ) → content < 2 ^ 64 → min content 0xffff ≡ content → form < 128 → IsFormat (content, form)
is_format content form fits held small = grind arith

pub directory-formats : (p : Built)
    → SpellsFormats (formats_bytes (directory_formats p)) (map read_format (directory_formats p))
directory-formats p =
    let path = is_format 0x0001 (first_form p.directories) (lit< tt) refl (first_form_small _) in
    formats_spelled (directory_formats p) (more_spelled (0x0001, first_form p.directories) [] path (refl, refl)) refl

-- the formats of files, where the flags are these
abbrev pub formats_of : (time size digest source : Bool) (path_form source_form : ℕ) → List (ℕ × ℕ)
formats_of time size digest source path_form source_form = (0x0001, path_form) ∷ (0x0002, 0x0f)
    ∷ (when time (0x0003, 0x0f)
    ++ (when size (0x0004, 0x0f) ++ (when digest (0x0005, 0x1e) ++ when source (0x2001, source_form))))

-- four parts one after the other
pub nested : {A : Type 0} (a b c d : List A) → a ++ b ++ c ++ d ≡ a ++ (b ++ (c ++ d))
nested a b c d = grind (arith, append_assoc)

pub formats-same : (p : Built)
    → file_formats p
    ≡ formats_of p.file_has_timestamp p.file_has_size p.file_has_md5 p.file_has_source (first_form (path_texts p.files))
    (first_form (sources p.files))
formats-same p = grind arith

one_path : (time size digest source : Bool) (path_form source_form : ℕ)
    → count_by (is_content 0x0001) (map read_format (formats_of time size digest source path_form source_form)) ≡ 1
one_path time size digest source a b = grind arith

of_spelled : (time size digest source : Bool) (path_form source_form : ℕ) → path_form < 128 → source_form < 128
    → AreSpelled (formats_of time size digest source path_form source_form)
of_spelled time size digest source path_form source_form path_small source_small =
    more_spelled _ ((0x0002, 0x0f) ∷ (when time (0x0003, 0x0f)
    ++ (when size (0x0004, 0x0f) ++ (when digest (0x0005, 0x1e) ++ when source (0x2001, source_form)))))
    (is_format 0x0001 path_form (lit< tt) refl path_small)
    (more_spelled _ _ (is_format 0x0002 0x0f (lit< tt) refl (lit< tt))
    (when_spelled time _ _ (is_format 0x0003 0x0f (lit< tt) refl (lit< tt))
    (when_spelled size _ _ (is_format 0x0004 0x0f (lit< tt) refl (lit< tt))
    (when_spelled digest _ _ (is_format 0x0005 0x1e (lit< tt) refl (lit< tt))
    (last_spelled source _ (is_format 0x2001 source_form (lit< tt) refl source_small))))))

pub file-formats : (p : Built) → SpellsFormats (formats_bytes (file_formats p)) (map read_format (file_formats p))
file-formats p =
    let path_form = first_form (path_texts p.files) in
    let source_form = first_form (sources p.files) in
    subst (λ l. SpellsFormats (formats_bytes l) (map read_format l)) (sym (formats-same p))
    (formats_spelled
    (formats_of p.file_has_timestamp p.file_has_size p.file_has_md5 p.file_has_source path_form source_form)
    (of_spelled _ _ _ _ path_form source_form (first_form_small _) (first_form_small _))
    (one_path p.file_has_timestamp p.file_has_size p.file_has_md5 p.file_has_source path_form source_form))

-- ---- an entry of the files of version 5: its bytes spell it, and a file is read of it

-- ---- what is read

-- an entry with these values, where the flags are these
abbrev pub entry_of : (time size has_digest source : Bool) → Value → ℕ → ℕ → ℕ → List ℕ → Value → TableEntry
entry_of time size has_digest source path directory timestamp bytes md5 text =
    (0x0001, path) ∷ (0x0002, Udata directory)
    ∷ (when time (0x0003, Udata timestamp)
    ++ (when size (0x0004, Udata bytes) ++ (when has_digest (0x0005, Block md5) ++ when source (0x2001, text))))

abbrev pub file_with : (time size has_digest source : Bool) → Value → ℕ → ℕ → ℕ → List ℕ → Value → ReadFile
file_with time size has_digest source path directory timestamp bytes md5 text = record {
  path_name = path;
  directory_index = directory;
  timestamp = if time then timestamp else 0;
  size = if size then bytes else 0;
  md5 = if has_digest then md5 else replicate 16 0;
  source = if source then Some text else None;
}

-- a digest of sixteen bytes is read as it is
pub file-read : (time size has_digest source : Bool) (path : Value) (directory timestamp bytes : ℕ) (md5 : List ℕ)
    (text : Value)
    → length md5 ≡ 16
    → file_of_entry (entry_of time size has_digest source path directory timestamp bytes md5 text)
    ≡ file_with time size has_digest source path directory timestamp bytes md5 text
file-read time size has_digest source path directory timestamp bytes md5 text whole = by time size has_digest source
  where
    digested : (t s o : Bool)
        → file_with t s true o path directory timestamp bytes
        (elim (digest (Block md5)) [ Some x ↦ x | None ↦ replicate 16 0 ]) text
        ≡ file_with t s true o path directory timestamp bytes md5 text
    digested t s o = ap (λ n. file_with t s true o path directory timestamp bytes
        (elim (if nat_eq n 16 then Some md5 else None) [ Some x ↦ x | None ↦ replicate 16 0 ]) text) whole

    by : (t s d o : Bool) → file_of_entry (entry_of t s d o path directory timestamp bytes md5 text)
        ≡ file_with t s d o path directory timestamp bytes md5 text
    by true true true true = digested true true true
    by true true true false = digested true true false
    by true true false true = refl
    by true true false false = refl
    by true false true true = digested true false true
    by true false true false = digested true false false
    by true false false true = refl
    by true false false false = refl
    by false true true true = digested false true true
    by false true true false = digested false true false
    by false true false true = refl
    by false true false false = refl
    by false false true true = digested false false true
    by false false true false = digested false false false
    by false false false true = refl
    by false false false false = refl

-- ---- what spells it

-- bytes in five parts
regrouped : (a b c d e : List ℕ) → (a ++ b ++ c ++ d) ++ e ≡ a ++ (b ++ (c ++ (d ++ e)))
regrouped a b c d e = append_assoc (a ++ b ++ c) d e ∙ nested a b c _

module _ (layout : OrderAndLimit) (format : Format) where
  udata_spelled : (n : ℕ) → n < 2 ^ 64 → SpellsForm layout format 0x0f (uleb n) (Udata n)
  udata_spelled n lt = (n, uleb n, [], sym (append-nil _), (uleb_shortest _ lt).spells, (refl, refl))

  digest_spelled : (md5 : List ℕ) → length md5 ≡ 16 → SpellsForm layout format 0x1e md5 (Block md5)
  digest_spelled md5 whole = (md5, md5, [], sym (append-nil md5), (whole, refl), (refl, refl))

  abbrev pub IsSpelled : List (ℕ × ℕ) → List ℕ → TableEntry → Type 0
  IsSpelled formats bytes entry = (entry_production layout format (map read_format formats)).Spells bytes entry

  -- a value, and the values after it
  pub value-spelled : (content form : ℕ) (bytes : List ℕ) (v : Value) (formats : List (ℕ × ℕ)) (rest : List ℕ)
      (entry : TableEntry)
      → SpellsForm layout format form bytes v → IsSpelled formats rest entry
      → IsSpelled ((content, form) ∷ formats) (bytes ++ rest) ((content, v) ∷ entry)
  unfolding entry_production
  value-spelled content form bytes v formats rest entry own after = grind (arith, append-nil)

  -- a value where a flag asks for it
  value_when : (due : Bool) (content form : ℕ) (bytes : List ℕ) (v : Value) (formats : List (ℕ × ℕ)) (rest : List ℕ)
      (entry : TableEntry)
      → SpellsForm layout format form bytes v → IsSpelled formats rest entry
      → IsSpelled (when due (content, form) ++ formats) ((if due then bytes else []) ++ rest)
      (when due (content, v) ++ entry)
  value_when true content form bytes v formats rest entry own after = value-spelled _ form _ v _ _ _ own after
  value_when false content form bytes v formats rest entry own after = after

  -- a value alone
  pub last-spelled : (content form : ℕ) (bytes : List ℕ) (v : Value) → SpellsForm layout format form bytes v
      → IsSpelled ((content, form) ∷ []) bytes ((content, v) ∷ [])
  unfolding entry_production
  last-spelled content form bytes v own = grind (arith, append-nil)

  source_spelled : (due : Bool) (form : ℕ) (bytes : List ℕ) (v : Value)
      → (due ≡ true → SpellsForm layout format form bytes v) → (due ≡ false → bytes ≡ [])
      → IsSpelled (when due (0x2001, form)) bytes (when due (0x2001, v))
  unfolding entry_production
  source_spelled true form bytes v own none = last-spelled _ form _ v (own refl)
  source_spelled false form bytes v own none = (none refl, refl)

  pub entry-spelled : (time size has_digest source : Bool) (path_form source_form : ℕ) (path : Value)
      (directory timestamp count : ℕ) (md5 : List ℕ)
      (text : Value) (path_bytes source_bytes : List ℕ)
      → SpellsForm layout format path_form path_bytes path → directory < 2 ^ 64 → timestamp < 2 ^ 64 → count < 2 ^ 64
      → length md5 ≡ 16
      → (source ≡ true → SpellsForm layout format source_form source_bytes text)
      → (source ≡ false → source_bytes ≡ [])
      → IsSpelled (formats_of time size has_digest source path_form source_form)
      (path_bytes ++ ((uleb directory ++ (if time then uleb timestamp else []) ++ (if size then uleb count else [])
      ++ (if has_digest then md5 else [])) ++ source_bytes))
      (entry_of time size has_digest source path directory timestamp count md5 text)
  entry-spelled time size has_digest source path_form source_form path directory timestamp count md5 text path_bytes
      source_bytes path_own d t s m source_own source_none =
      rw (regrouped (uleb directory) (if time then uleb timestamp else []) (if size then uleb count else [])
      (if has_digest then md5 else []) source_bytes)
      (value-spelled 0x0001 path_form _ path ((0x0002, 0x0f) ∷ (when time (0x0003, 0x0f)
      ++ (when size (0x0004, 0x0f) ++ (when has_digest (0x0005, 0x1e) ++ when source (0x2001, source_form))))) _ _
      path_own
      (value-spelled 0x0002 0x0f _ (Udata directory) _ _ _ (udata_spelled _ d)
      (value_when time 0x0003 0x0f _ (Udata timestamp) _ _ _ (udata_spelled _ t)
      (value_when size 0x0004 0x0f _ (Udata count) _ _ _ (udata_spelled _ s)
      (value_when has_digest 0x0005 0x1e _ (Block md5) _ _ _ (digest_spelled _ m)
      (source_spelled source source_form _ text source_own source_none))))))

-- ---- the bytes of the tables of version 5 spell them, and what is read of them stands for what was built

-- ---- a table of entries

module _ (layout : OrderAndLimit) (format : Format) {X : Type 0} (formats : List (ℕ × ℕ)) (P : X → Type 0)
    (part : X → Result (List ℕ) Error) (entry : X → TableEntry)
    (spelled : (x : X) (bytes : List ℕ) → P x → part x ≡ Ok bytes → IsSpelled layout format formats bytes (entry x))
    (long : (x : X) (bytes : List ℕ) → part x ≡ Ok bytes → 0 < length bytes) where
  each_spelled : (xs : List X) (bytes : List ℕ) → All P xs → result_concat part xs ≡ Ok bytes
      → (times (length xs) (entry_production layout format (map read_format formats))).Spells bytes (map entry xs)
  each_spelled [] bytes all is = (same_written _ _ is, refl)
  each_spelled (x ∷ xs) bytes all is =
      let b = both_written _ _ _ is in
      let rest = each_spelled xs b.rest (All-tail P x _ all) b.rest_is in (
        entry x,
        b.first,
        b.rest,
        b.whole,
        spelled x b.first (All-head P x _ all) b.first_is,
        (map entry xs, b.rest, [], sym (append-nil _), rest, (refl, refl)),
      )

  -- there are no more entries than bytes
  few : (xs : List X) (bytes : List ℕ) → result_concat part xs ≡ Ok bytes → length xs ≤ length bytes
  few [] bytes is = omega arith
  few (x ∷ xs) bytes is =
      let b = both_written _ _ _ is in
      let whole = ap length b.whole ∙ length-append b.first b.rest in
      let first = long x b.first b.first_is in
      let rest = few xs b.rest b.rest_is in
      omega arith

  table_spelled : (xs : List X) (bytes : List ℕ) → SpellsFormats (formats_bytes formats) (map read_format formats)
      → All P xs
      → result_append (Ok (formats_bytes formats ++ uleb (length xs))) (result_concat part xs) ≡ Ok bytes
      → length bytes < 2 ^ 64
      → (table_production layout format).Spells bytes (map read_format formats, map entry xs)
  unfolding table_production entries_production
  table_spelled xs bytes formats_spelled all is small =
      let front = formats_bytes formats in
      let count = uleb (length xs) in
      let b = after_written (front ++ count) (result_concat part xs) bytes is in
      let whole = ap length b.whole ∙ length-append (front ++ count) b.rest in
      let short = few _ _ b.rest_is in
      let number = (uleb_shortest _ (omega arith)).spells in
      let entries = each_spelled _ _ all b.rest_is in (
        map read_format formats,
        front,
        count ++ b.rest,
        b.whole ∙ append_assoc front count b.rest,
        formats_spelled,
        (
          map entry xs,
          count ++ b.rest,
          [],
          sym (append-nil _),
          (length xs, count, b.rest, refl, number, entries),
          (refl, refl),
        ),
      )

-- ---- the tables of a program

abbrev pub directory_entry : Placement → StringTables → LineText → TableEntry
directory_entry at texts t = (0x0001, read_text at texts t) ∷ []

abbrev pub file_entry : Placement → Built → StringTables → File → TableEntry
file_entry at p texts f = entry_of p.file_has_timestamp p.file_has_size p.file_has_md5 p.file_has_source
    (read_text at texts f.0.0) f.0.1 f.1.timestamp f.1.size f.1.md5 (read_text at texts (source_of p texts f))

module _ (at : Placement) (layout : OrderAndLimit) (p : Built) (texts : StringTables) (ready : AreReady p texts)
    (held : AreOfTables (IsHeld layout.limit p.encoding.format at texts) p texts) where
  abbrev IsHeldHere : LineText → Type 0
  IsHeldHere t = IsHeld layout.limit p.encoding.format at texts t

  -- a text can be read back, by this reader
  abbrev IsReadable : LineText → Type 0
  IsReadable t = IsReady texts t × IsHeldHere t

  abbrev IsFileReadable : File → Type 0
  IsFileReadable f = IsFileReady p texts f × IsOfFile IsHeldHere p texts f

  abbrev text_written : ℕ → LineText → Result (List ℕ) Error
  text_written form t = text_in_form (counted at) layout.is_big p.encoding.format texts form t

  pub new-directories-spelled : (bytes : List ℕ)
      → directory_table_bytes (counted at) layout.is_big p.encoding.format texts p ≡ Ok bytes → length bytes < 2 ^ 64
      → (table_production layout p.encoding.format).Spells bytes
      (map read_format (directory_formats p), map (directory_entry at texts) p.directories)
  new-directories-spelled bytes is small =
      let form = first_form p.directories in
      table_spelled layout p.encoding.format (directory_formats p) IsReadable (text_written form)
      (directory_entry at texts)
      (λ t b own written. last-spelled layout p.encoding.format 0x0001 form b (read_text at texts t)
      (text-spelled at layout p.encoding.format texts form t b own.0 own.1 written))
      (λ t b written. text-long at layout.is_big p.encoding.format texts form t b written)
      p.directories bytes (directory-formats p)
      (λ i d lt. (ready.directories i d lt, held.directories i d lt)) is small

  -- the bytes of a source, where it is written
  source_written : (f : File) (bytes : List ℕ)
      → source_bytes (counted at) layout.is_big p.encoding.format texts p f ≡ Ok bytes
      → (p.file_has_source ≡ true → text_written (first_form (sources p.files)) (source_of p texts f) ≡ Ok bytes)
      × (p.file_has_source ≡ false → bytes ≡ [])
  source_written f bytes is = grind (arith, same_written)

  file_spelled : (f : File) (bytes : List ℕ) → IsFileReadable f
      → file_entry_bytes (counted at) layout.is_big p.encoding.format texts p f ≡ Ok bytes
      → IsSpelled layout p.encoding.format (file_formats p) bytes (file_entry at p texts f)
  file_spelled f bytes own is =
      let path_form = first_form (path_texts p.files) in
      let source_form = first_form (sources p.files) in
      let a = both_written _ _ _ is in
      let b = after_written _ _ _ a.rest_is in
      let s = source_written f _ b.rest_is in
      let spell = text-spelled at layout p.encoding.format texts in
      let whole = a.whole ∙ ap (λ l. a.first ++ l) b.whole in
      let text = source_of p texts f in
      let list =
      formats_of p.file_has_timestamp p.file_has_size p.file_has_md5 p.file_has_source path_form source_form in
      let entry = file_entry at p texts f in
      let spelled = entry-spelled layout p.encoding.format _ _ _ _ path_form _ _ _ _ _ _ _ _ _
      (spell path_form f.0.0 a.first own.0.path own.1.path a.first_is) own.0.fits.directory
      own.0.fits.timestamp own.0.fits.size own.0.fits.md5
      (λ flag. spell source_form text b.rest (own.0.source flag) (own.1.source flag) (s.0 flag)) s.1 in
      let same = subst (λ l. IsSpelled layout p.encoding.format list l entry) (sym whole) spelled in
      subst (λ l. IsSpelled layout p.encoding.format l bytes entry) (sym (formats-same p)) same

  file_long : (f : File) (bytes : List ℕ)
      → file_entry_bytes (counted at) layout.is_big p.encoding.format texts p f ≡ Ok bytes
      → 0 < length bytes
  file_long f bytes is = grind (arith, both_written, length-append, text-long)

  pub new-files-spelled : (bytes : List ℕ)
      → file_table_bytes (counted at) layout.is_big p.encoding.format texts p ≡ Ok bytes
      → length bytes < 2 ^ 64
      → (table_production layout p.encoding.format).Spells bytes
      (map read_format (file_formats p), map (file_entry at p texts) p.files)
  new-files-spelled bytes is small = table_spelled layout p.encoding.format (file_formats p) IsFileReadable
      (file_entry_bytes (counted at) layout.is_big p.encoding.format texts p)
      (file_entry at p texts)
      file_spelled file_long _ _ (file-formats p)
      (λ i d lt. (ready.files i d lt, held.files i d lt)) is small

-- ---- what is read stands for what was built

module _ (at : Placement) (sections : Sections) (p : Built) (texts : StringTables)
    (are_texts : AreTexts texts.strings) (are_line_texts : AreTexts texts.line_strings) where
  abbrev IsFoundHere : LineText → Type 0
  IsFoundHere t = IsFound sections at texts t

  text_back : (t : LineText) → IsReady texts t → IsFoundHere t
      → IsText sections (read_text at texts t) (bytes_in texts t)
  text_back t ready found = text-back at _ _ are_texts are_line_texts t ready.within found

  pub new-directories-back : (ts : List LineText) → All (IsReady texts) ts → All IsFoundHere ts
      → OneByOne (IsDirectory sections texts) (map path_of (map (directory_entry at texts) ts)) ts
  new-directories-back [] all found = tt
  new-directories-back (t ∷ ts) all found = (
    text_back t (All-head (IsReady texts) t _ all) (All-head IsFoundHere t _ found),
    new-directories-back ts (All-tail (IsReady texts) t _ all) (All-tail IsFoundHere t _ found),
  )

  -- what a file keeps in version 5
  stored_new : (d : Details) → nat_le p.encoding.version 4 ≡ false → stored_details p texts d ≡ record {
    timestamp = if p.file_has_timestamp then d.timestamp else 0;
    size = if p.file_has_size then d.size else 0;
    md5 = if p.file_has_md5 then d.md5 else replicate 16 0;
    source = if p.file_has_source then Some (option_map_or (bytes_in texts) d.source []) else None;
  }
  stored_new d new = rw new refl

  source_back : (due : Bool) (v : Value) (text : List ℕ) → (due ≡ true → IsText sections v text)
      → IsOptionalText sections (if due then Some v else None) (if due then Some text else None)
  source_back due v text own = grind arith

  abbrev file_seen : File → ReadFile
  file_seen f = file_with p.file_has_timestamp p.file_has_size p.file_has_md5 p.file_has_source
      (read_text at texts f.0.0) f.0.1 f.1.timestamp f.1.size f.1.md5 (read_text at texts (source_of p texts f))

  seen_back : (f : File) → nat_le p.encoding.version 4 ≡ false → IsFileReady p texts f
      → IsOfFile IsFoundHere p texts f
      → IsFile sections p texts (file_seen f) f
  seen_back f new own found = grind (arith, stored_new, text_back, source_back)

  file_back : (f : File) → nat_le p.encoding.version 4 ≡ false → IsFileReady p texts f
      → IsOfFile IsFoundHere p texts f
      → IsFile sections p texts (file_of_entry (file_entry at p texts f)) f
  file_back f new own found = subst (λ r. IsFile sections p texts r f) (sym (file-read _ _ _ _
      _ _ _ _ _ _ own.fits.md5))
      (seen_back f new own found)

  pub new-files-back : (fs : List File) → nat_le p.encoding.version 4 ≡ false → All (IsFileReady p texts) fs
      → All (IsOfFile IsFoundHere p texts) fs
      → OneByOne (IsFile sections p texts) (map file_of_entry (map (file_entry at p texts) fs)) fs
  new-files-back [] new all found = tt
  new-files-back (f ∷ fs) new all found = (
    file_back f new (All-head (IsFileReady p texts) f _ all) (All-head (IsOfFile IsFoundHere p texts) f _ found),
    new-files-back fs new (All-tail (IsFileReady p texts) f _ all) (All-tail (IsOfFile IsFoundHere p texts) f _ found),
  )
