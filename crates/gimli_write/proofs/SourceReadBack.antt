-- What is read back of a source that was converted and written.
use Rattle.std.specs.Prelude.{◌≡◌, if◌then◌else◌}
use Rattle.gimli_write.proofs
use proofs.Common
use Common.{ℕ, Bool, true, false, List, [], refl, sym, ap, subst, inl, inr, Option, Ok, StringTables, texts_in}
use Common.{KeepsTexts, with_text, with_text-KeepsTexts, bytes_in, Built, Address, Encoding, map}
use Common.{Answers, FileAnswer, built_file, Outcome, ToConvert, IsConverted, defined_files, past_at_end}
use Rattle.gimli_build.specs.Version5Tables.{texts_after}
use Rattle.gimli_build.specs.WrittenTables.{KeepTables}
use Rattle.gimli_write.specs
use specs.Prelude.{Vec, Global, ConvertError}
use specs.RoundTrip.{AreBuiltRows, IsRoundTripRefusal}
use specs.convert.Conversion.{ConvertsTo}
use specs.convert.Mapped.{CanBeFaithful, AreFilesReadAs, AreSourceRows, IsFaithful, version_after}
use specs.convert.Moved.{CanBeMoved, AreMovedRows}
use specs.convert.SourceReadBack.{AreSourceFiles, IsSourceRefusal}
use proofs.ConvertSteps.{kept_self}
use proofs.MovedLaws.{rows_moved}
use proofs.MappedLaws.{
  WasConverted,
  was_converted,
  conversion_encoded,
  conversion_faithful,
  files_back,
}

-- ---- tables

strings_after : (p : Built) (texts : StringTables) → KeepsTexts texts.strings (texts_after p texts).strings
strings_after p texts = by _
  where
    by : (b : Bool) → KeepsTexts texts.strings (if b then with_text texts.strings [] else texts.strings)
    by true = with_text-KeepsTexts _ []
    by false = kept_self _

lines_after : (p : Built) (texts : StringTables) → KeepsTexts texts.line_strings (texts_after p texts).line_strings
lines_after p texts = by _
  where
    by : (b : Bool) → KeepsTexts texts.line_strings (if b then with_text texts.line_strings [] else texts.line_strings)
    by true = with_text-KeepsTexts _ []
    by false = kept_self _

-- a program that is written keeps the texts of both tables
module _ (p : Built) (unit : Encoding) (old new : StringTables) (kept : KeepTables p unit old new) where
  pub strings_kept : KeepsTexts old.strings new.strings
  strings_kept = elim kept.strings [
    | inl same ↦ subst (KeepsTexts old.strings) (sym same) (kept_self _)
    | inr more ↦ subst (KeepsTexts old.strings) (sym more) (strings_after p old)
  ]

  pub lines_kept : KeepsTexts old.line_strings new.line_strings
  lines_kept = elim kept.line_strings [
    | inl same ↦ subst (KeepsTexts old.line_strings) (sym same) (kept_self _)
    | inr more ↦ subst (KeepsTexts old.line_strings) (sym more) (lines_after p old)
  ]

-- ---- refusals

-- the program of a source that was converted is refused, by the encoding of that program and with these tables
pub refused_after : (map : ℕ → Option Address → Type 0) (s : ToConvert) (is_big : Bool) (texts : StringTables)
    (old new : List ℕ) (e : ConvertError) (answer : Built × Vec ℕ Global) (strings lines : List (List ℕ))
    (encoding : Encoding) → ConvertsTo map s texts.line_strings answer lines → strings ≡ texts.strings
    → encoding ≡ answer.0.encoding → IsRoundTripRefusal is_big encoding answer.0 (texts_in strings lines) old new e
    → IsSourceRefusal map s is_big texts old new e
refused_after map s is_big texts old new e answer strings lines encoding converted same own refused = inr (record {
  answer = answer;
  line_strings = lines;
  converted = converted;
  refused =
      subst (λ (o : Encoding). IsRoundTripRefusal is_big o answer.0 (texts_in texts.strings lines) old new e) own
      (subst (λ (t : List (List ℕ)). IsRoundTripRefusal is_big encoding answer.0 (texts_in t lines) old new e) same
      refused);
})

-- ---- what is read back

module _ (convert_address : ℕ → Option Address) (s : ToConvert) (old : List (List ℕ)) (c : Outcome)
    (so : IsConverted convert_address s old (Ok c)) (back : Answers) where
  version_is : c.program.encoding.version ≡ version_after s
  version_is = ap (λ (e : Encoding). e.version) (conversion_encoded convert_address s old c so)

  pub rows_read : AreBuiltRows c.program back.rows → CanBeFaithful convert_address s
      → AreSourceRows s c.file_ids back.rows
  rows_read built can =
      let faithful : IsFaithful s [] c = conversion_faithful convert_address s old c so can [] in
      subst (AreSourceRows s c.file_ids) (sym (built faithful.addresses)) faithful.rows

  pub moved_read : AreBuiltRows c.program back.rows → CanBeMoved convert_address s
      → AreMovedRows convert_address s (version_after s) c.file_ids back.rows
  moved_read built can =
      rows_moved (was_converted convert_address s old c so) can (version_after s) version_is back.rows built

  -- with the strings and the line strings after it was written
  pub files_read : (strings lines : List (List ℕ))
      → lines ≡ (texts_after c.program (texts_in strings c.line_strings)).line_strings
      → back.directories ≡ map (bytes_in (texts_in strings lines)) c.program.directories
      → back.files ≡ map (built_file c.program (texts_in strings lines)) c.program.files
      → AreSourceFiles s c.file_ids back
  files_read strings lines after directories files =
      let done : WasConverted convert_address s old c = was_converted convert_address s old c so in
      let all = defined_files s.header.files (past_at_end [] done.reads.list) in
      let given = files_back convert_address s old c so strings {files = all} (record {
        list = done.reads.list;
        end = done.reads.end;
        decoding = done.reads.decoding;
        given = refl;
      }) in
      let found : AreFilesReadAs s.sections s.header all c.program.encoding.version c.file_ids
      (map (bytes_in (texts_in strings lines)) c.program.directories)
      (map (built_file c.program (texts_in strings lines)) c.program.files) =
      subst (λ (l : List (List ℕ)). AreFilesReadAs s.sections s.header all c.program.encoding.version c.file_ids
      (map (bytes_in (texts_in strings l)) c.program.directories)
      (map (built_file c.program (texts_in strings l)) c.program.files)) (sym after) given in
      record {
        files = all;
        at_end = record {
          list = done.reads.list;
          end = done.reads.end;
          decoding = done.reads.decoding;
          given = refl;
        };
        same =
            subst (λ (version : ℕ). AreFilesReadAs s.sections s.header all version c.file_ids back.directories
            back.files) version_is
            (subst (λ (f : List FileAnswer). AreFilesReadAs s.sections s.header all c.program.encoding.version
            c.file_ids back.directories f) (sym files)
            (subst (λ (d : List (List ℕ)). AreFilesReadAs s.sections s.header all c.program.encoding.version c.file_ids
            d (map (built_file c.program (texts_in strings lines)) c.program.files)) (sym directories) found));
      }
