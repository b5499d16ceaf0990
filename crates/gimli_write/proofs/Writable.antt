-- A program can be written still, with longer tables and with more files.
use Rattle.std.specs.Prelude.{◌≡◌, ◌≤◌, ◌∷◌, ◌++◌, if◌then◌else◌}
use Rattle.gimli_write.proofs.Common
use Common.{ℕ, true, false, List, sym, subst, Option, Some, None, IfSome, All, option_map, All-weaker, KeepsTexts}
use Common.{StringTables, texts_in, Built, after_file, CanWrite, LineText, IsWithin, HasNoZero, Details, BuiltFile}
use Common.{SourceTables, without_items, StaysWritable, Bool, zero, suc, [], Inline, InStrings, InLineStrings, FileKey}
use Common.{with_details, with_file, has_file, index_of_file, All-cons, All-head, All-tail, All-push}
use Rattle.gimli_write.proofs.ConvertSteps.{kept_then, still_there}

-- with more texts after the others
module _ (strings old new : List (List ℕ)) (kept : KeepsTexts old new) where
  pub within_kept : (t : LineText) → IsWithin (texts_in strings old) t → IsWithin (texts_in strings new) t
  within_kept (Inline bytes) so = tt
  within_kept (InStrings i) so = so
  within_kept (InLineStrings i) so = still_there i kept so

  pub source_kept : (t : Option LineText) → IfSome t (IsWithin (texts_in strings old))
      → IfSome t (IsWithin (texts_in strings new))
  source_kept (Some t) so = within_kept t so
  source_kept None so = tt

  pub written_later : {p : Built} → CanWrite p (texts_in strings old) → CanWrite p (texts_in strings new)
  written_later can = record {
    program = can.program;
    directories = All-weaker (IsWithin (texts_in strings old)) _ within_kept _ can.directories;
    paths = All-weaker (λ f. IsWithin (texts_in strings old) f.0.0) _ (λ f so. within_kept _ so) _ can.paths;
    sources =
        All-weaker (λ f. IfSome f.1.source (IsWithin (texts_in strings old))) _ (λ f so. source_kept _ so) _
        can.sources;
    sources_end = can.sources_end;
  }

module _ (Q : BuiltFile → Type 0) (d : Details) (other : (k : FileKey) (e : Details) → Q (k, e) → Q (k, d)) where
  details_with : (files : List BuiltFile) (i : ℕ) → All Q files → All Q (with_details files i d)
  details_with [] i all = all
  details_with (f ∷ files) zero all = All-cons Q _ _ (other f.0 f.1 (All-head Q f _ all)) (All-tail Q f _ all)
  details_with (f ∷ files) (suc i) all = All-cons Q f _ (All-head Q f _ all) (details_with files i (All-tail Q f _ all))

  files_with : (files : List BuiltFile) (k : FileKey) → All Q files → Q (k, d) → All Q (with_file files k (Some d))
  files_with files k all one = by (has_file files k)
    where
      by : (b : Bool) → All Q (if b then with_details files (index_of_file files k) d else files ++ (k, d) ∷ [])
      by true = details_with _ _ all
      by false = All-push Q _ _ all one

-- with a file whose texts are there
pub written_with_file : {p : Built} {texts : StringTables} (path : LineText) (directory : ℕ) (d : Details)
    → IsWithin texts path
    → IfSome d.source (IsWithin texts) → (5 ≤ p.encoding.version → IfSome d.source HasNoZero) → CanWrite p texts
    → CanWrite (after_file (path, directory) (Some d) p) texts
written_with_file {texts} path directory d within source ends can = record {
  program = can.program;
  directories = can.directories;
  paths = files_with (λ f. IsWithin texts f.0.0) d (λ k e so. so) _ _ can.paths within;
  sources = files_with (λ f. IfSome f.1.source (IsWithin texts)) d (λ k e so. source) _ _ can.sources source;
  sources_end = λ new has.
      files_with (λ f. IfSome f.1.source HasNoZero) d (λ k e so. ends new) _ _ (can.sources_end new has) (ends new);
}

-- what is so of a source that was made is so of its text
module _ {A : Type 0} (text : A → LineText) where
  source_so : (P : LineText → Type 0) (made : Option A) → IfSome made (λ a. P (text a))
      → IfSome (option_map text made) P
  source_so P (Some a) so = so
  source_so P None so = tt

  source_within : (strings line_strings : List (List ℕ)) (made : Option A)
      → IfSome made (λ a. (strings : List (List ℕ)) → IsWithin (texts_in strings line_strings) (text a))
      → IfSome (option_map text made) (IsWithin (texts_in strings line_strings))
  source_within strings line_strings (Some a) so = so strings
  source_within strings line_strings None so = tt

  -- with a file whose path was made, and then its source
  pub written_with_parts : {p : Built} (strings : List (List ℕ)) {old between new : List (List ℕ)} (path : A)
      (source : Option A)
      (directory : ℕ) (timestamp size : ℕ) (md5 : List ℕ) → KeepsTexts old between → KeepsTexts between new
      → ((strings : List (List ℕ)) → IsWithin (texts_in strings between) (text path))
      → IfSome source (λ a. (strings : List (List ℕ)) → IsWithin (texts_in strings new) (text a))
      → IfSome source (λ a. HasNoZero (text a)) → CanWrite p (texts_in strings old)
      → CanWrite (after_file (text path, directory)
      (Some (record { timestamp = timestamp; size = size; md5 = md5; source = option_map text source })) p)
      (texts_in strings new)
  written_with_parts strings {old} {between} {new} path source directory timestamp size md5 first second within
      source_there ends can =
      written_with_file _ _ _ (within_kept strings between new second _ (within strings))
      (source_within _ _ _ source_there) (λ new. source_so HasNoZero source ends)
      (written_later strings old new (kept_then first second) can)

pub writable_then : {a b c : SourceTables} {first second third : List (List ℕ)} → StaysWritable a first b second
    → StaysWritable b second c third → StaysWritable a first c third
writable_then before after = record { still = λ strings can. after.still strings (before.still strings can) }

-- ---- with more items

-- what of a program has to be so that it can be written: nothing that is built in it
record WrittenTables (p : Built) (texts : StringTables) : Type 0 where
  program : p.is_none ≡ false
  directories : All (IsWithin texts) p.directories
  paths : All (λ f. IsWithin texts f.0.0) p.files
  sources : All (λ f. IfSome f.1.source (IsWithin texts)) p.files
  sources_end : 5 ≤ p.encoding.version → p.file_has_source ≡ true
      → All (λ f. IfSome f.1.source HasNoZero) p.files

tables_written : {p : Built} {texts : StringTables} → CanWrite p texts → WrittenTables (without_items p) texts
tables_written can = record {
  program = can.program;
  directories = can.directories;
  paths = can.paths;
  sources = can.sources;
  sources_end = can.sources_end;
}

written_tables : {p : Built} {texts : StringTables} → WrittenTables (without_items p) texts → CanWrite p texts
written_tables has = record {
  program = has.program;
  directories = has.directories;
  paths = has.paths;
  sources = has.sources;
  sources_end = has.sources_end;
}

pub writable_with_items : {old new : SourceTables} (line_strings : List (List ℕ))
    → without_items new.program ≡ without_items old.program → StaysWritable old line_strings new line_strings
writable_with_items line_strings same = record {
  still = λ strings can.
      let texts = texts_in strings line_strings in
      written_tables (subst (λ p. WrittenTables p texts) (sym same) (tables_written can));
}
