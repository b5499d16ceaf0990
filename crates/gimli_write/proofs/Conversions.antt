-- A conversion, one read after the other.
use Rattle.std.specs.Prelude.{◌≡◌, ◌∷◌}
use Rattle.gimli_write.proofs.Common
use Common.{ℕ, true, false, List, [], refl, sym, ap, ◌∙◌, subst, inl, inr, Option}
use Common.{Some, None, Result, Ok, Err, Error, File, Header, Ins, Sections, ConvertError, ◌>>=◌}
use Common.{IsRefusedBy, SourceTables, TablesAndTexts, tables_with, with_path, directory_added, FileParts, with_parts}
use Common.{file_added, Handed, tables_of_header, start_of_tables, first_texts, encoding_of, Reading, stops, defines}
use Common.{offers, file_id, row_in, row_or_end_offered, defines_first, after_definitions}
use Common.{SourceRow, Row, SourceRun, reading_from, reading_upon, reading_left, final_tables_of_source, final_tables}
use Common.{Conversion, without_built, IsReadRefusal, file_parts, version_of, source_path}
use Rattle.gimli_write.specs
use specs.convert.TablesAtEnd.{lacks_file}
use Rattle.gimli_write.proofs.MappedFiles.{took, same_ok, is_prepared, all_added_keeps}

-- ---- tables without what is built

pub plain_file : (s : Sections) (tables : TablesAndTexts) (f : File)
    → file_added s (without_built tables) f ≡ (file_added s tables f >>= λ next. Ok (without_built next))
plain_file s tables f = by _
  where
    by : (r : Result FileParts ConvertError) → (r >>= λ parts. Ok (with_parts (without_built tables) f parts))
        ≡ ((r >>= λ parts. Ok (with_parts tables f parts)) >>= λ next. Ok (without_built next))
    by (Ok parts) = refl
    by (Err e) = refl

-- ---- a file that is defined

stops_there : (sections : Sections) (s : SourceRun) (e : ConvertError) (list : List Ins) (end : Option Error)
    → reading_from sections s (Err e) list end ≡ stops e
stops_there sections s e [] end = refl
stops_there sections s e (i ∷ list) end = refl

module _ (sections : Sections) (s : SourceRun) (tables : TablesAndTexts) (f : File) where
  -- after it
  pub file_taken : {next : TablesAndTexts} → file_added sections tables f ≡ Ok next
      → reading_upon sections s (file_added sections (without_built tables) f)
      ≡ reading_left sections s (without_built next)
  file_taken is = ap (reading_upon sections s) (plain_file _ _ f ∙ ap (λ r. r >>= λ n. Ok (without_built n)) is)

  pub file_refused : (e : ConvertError) → file_added sections tables f ≡ Err e
      → reading_upon sections s (file_added sections (without_built tables) f) ≡ stops e
  file_refused e is =
      ap (reading_upon sections s) (plain_file _ _ f ∙ ap (λ r. r >>= λ n. Ok (without_built n)) is)
      ∙ stops_there _ s e _ _

  -- its refusal, where other files are defined before it
  pub file_refusal : {now : Reading} (old : Reading) (e : ConvertError)
      → now ≡ defines (reading_upon sections s (file_added sections (without_built tables) f))
      → after_definitions now ≡ after_definitions old → (defines_first now ≡ true → defines_first old ≡ true)
      → IsRefusedBy (file_added sections tables f) e → IsReadRefusal old e
  file_refusal old e here left first (inl memory) = inr (memory, first cc)
  file_refusal old e here left first (inr is) =
      inl (sym left ∙ ap after_definitions (here ∙ ap defines (file_refused e is)))

-- ---- the tables of a header have nothing built

abbrev IsPlain : TablesAndTexts → Type 0
IsPlain tables = without_built tables ≡ tables

pub prepared_plain : (sections : Sections) (h : Header) (given : Handed) (line_strings : List (List ℕ))
    {tables : TablesAndTexts}
    → tables_of_header sections h given line_strings ≡ Ok tables → without_built tables ≡ tables
prepared_plain sections h given line_strings is =
    let encoding = encoding_of h given in
    let p = is_prepared sections h given line_strings is in
    all_added_keeps IsPlain (file_added sections) (λ l n f added plain.
    let t = took (file_parts (version_of l) sections l.directory_ids f) (λ parts. Ok (with_parts l f parts)) added in
    subst IsPlain (same_ok (with_parts l f t.0) t.2) (ap (λ (x : TablesAndTexts). with_parts x f t.0) plain))
    h.files p.with_directories p.files (all_added_keeps IsPlain (directory_added sections) (λ l n v added plain.
    let t = took (source_path (version_of l) sections v) (λ path. Ok (with_path l path)) added in
    subst IsPlain (same_ok (with_path l t.0) t.2) (ap (λ (x : TablesAndTexts). with_path x t.0) plain)) h.directories
    (start_of_tables encoding p.line_encoding h (first_texts encoding.version line_strings p.directory p.file))
    p.directories refl)

-- ---- rows

module _ (version : ℕ) (tables : TablesAndTexts) (r : SourceRow) (rest : Reading)
    (ends_not : r.row.end_sequence ≡ false) where
  pub row_taken : {file : ℕ} → Ok file ≡ file_id version tables r.row.file
      → row_or_end_offered version tables r rest ≡ offers (Row (row_in r file)) tables rest
  row_taken is = cc

  pub row_refused : {e : ConvertError} → Err e ≡ file_id version tables r.row.file
      → row_or_end_offered version tables r rest ≡ stops e
  row_refused is = cc

  -- so a file has its number, or none has
  pub file_found : {file : ℕ} → Ok file ≡ file_id version tables r.row.file → lacks_file version tables r ≡ false
  file_found is = cc

  pub file_lacks : {e : ConvertError} → Err e ≡ file_id version tables r.row.file → lacks_file version tables r ≡ true
  file_lacks is = cc

-- ---- the state of a conversion, by its parts

abbrev pub conversion : Sections → SourceRun → SourceTables → Option ℕ → Option SourceRow → Option ConvertError
    → Conversion
conversion sections source tables address held failed = record {
  sections = sections;
  source = source;
  tables = tables;
  address = address;
  held = held;
  failed = failed;
}

-- ---- a row that is held

module _ (sections : Sections) (source : SourceRun) (tables : SourceTables) (address after : Option ℕ)
    (held taken : Option SourceRow)
    (failed : Option ConvertError) (line_strings : List (List ℕ)) (r : SourceRow) (is : held ≡ Some r) where
  abbrev now : TablesAndTexts
  now = tables_with line_strings tables

  abbrev rest : TablesAndTexts
  rest = final_tables_of_source (conversion sections source tables address held failed) line_strings

  abbrev version_here : ℕ
  version_here = source.header.parameters.encoding.version

  -- it is handed out
  pub held_last : taken ≡ None → lacks_file version_here now r ≡ false
      → final_tables (conversion sections source tables after taken failed) line_strings
      ≡ final_tables (conversion sections source tables address held failed) line_strings
  held_last none found = cc

  -- no file has its number
  pub held_stops : failed ≡ None → lacks_file version_here now r ≡ true
      → now ≡ final_tables (conversion sections source tables address held failed) line_strings
  held_stops well lacks = cc
