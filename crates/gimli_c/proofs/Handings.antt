-- What is handed over, as it is built.
use Rattle.std.proofs.Common.{◌≡◌, ℕ, zero, suc, Bool, true, false, ◌&&◌, if◌then◌else◌, List, [], ◌∷◌, ◌++◌, Option}
use Rattle.std.proofs.Common.{Some, None, refl, sym, ap, subst, ◌∙◌}
use Rattle.std.specs.Prelude.{All, IfSome, nat_le, nat_eq, Result, Ok, Err}
use Rattle.std.specs.List.{list_any}
use Rattle.std.specs.Option.{is_none}
use Rattle.std.proofs.lemmas.Bool.{false≢true}
use Rattle.std.proofs.lemmas.List.Elements.{All-push, All-cons, All-head, All-tail}
use Rattle.gimli_bytes.specs.declared.error.Error.{Error}
use Rattle.gimli_bytes.specs.Written.{Appends}
use Rattle.gimli_build.specs.Built.{Built}
use Rattle.gimli_build.specs.Conditions.{CanWrite}
use Rattle.gimli_build.specs.LineText.{LineText, Inline, InStrings, InLineStrings, IsWithin, HasNoZero}
use Rattle.gimli_build.specs.Tables.{File, FileKey, Details, with_file, with_details, has_file, index_of_file}
use Rattle.gimli_bytes.specs.Texts.{with_text, StringTables, texts_in, no_texts}
use Rattle.gimli_build.specs.Version5Tables.{needs_empty, texts_after, first_form, sources}
use Rattle.gimli_build.specs.WrittenTables.{HaveEmptySource}
use Rattle.gimli_core.specs.declared.common.Encoding.{Encoding}
use Rattle.gimli_build.specs.declared.built.items.BuiltItem.{BuiltItem}
use Rattle.gimli_c.specs.declared.encoding.GimliEncoding.{GimliEncoding}
use Rattle.gimli_c.specs.declared.tables.GimliFileName.{GimliFileName}
use Rattle.gimli_c.specs.declared.row.GimliRow.{GimliRow}
use Rattle.gimli_c.specs.declared.items.GimliSymbol.{GimliSymbol}
use Rattle.gimli_c.specs.Handed.{AddsDirectories, AddsFiles, encoding_of, items_handed}
use Rattle.gimli_c.specs.inside.Handed.{IsInline, AddsItems}
use Rattle.gimli_build.specs.ReadsBack.{ReadsBackAs}
use Rattle.gimli_c.specs.Handing.{Handed, IsBuiltOf, program_with}

-- ---- texts in the program itself

inline_within : (t : LineText) → IsInline t → IsWithin no_texts t
inline_within (Inline bytes) is = tt
inline_within (InStrings i) is = absurd is
inline_within (InLineStrings i) is = absurd is

pub text_is_inline : (t : LineText) (bytes : List ℕ) → t ≡ Inline bytes → HasNoZero t → IsInline t
text_is_inline (Inline xs) bytes is none = none
text_is_inline (InStrings i) bytes is none = absurd cc
text_is_inline (InLineStrings i) bytes is none = absurd cc

-- ---- tables that can be written

module _ (Q : File → Type 0) (d : Details) (other : (k : FileKey) (e : Details) → Q (k, e) → Q (k, d)) where
  details_with : (files : List File) (i : ℕ) → All Q files → All Q (with_details files i d)
  details_with [] i all = all
  details_with (f ∷ files) zero all =
      All-cons Q (f.0, d) files (other f.0 f.1 (All-head Q f files all)) (All-tail Q f files all)
  details_with (f ∷ files) (suc i) all =
      All-cons Q f (with_details files i d) (All-head Q f files all) (details_with files i (All-tail Q f files all))

  files_with : (files : List File) (k : FileKey) → All Q files → Q (k, d) → All Q (with_file files k (Some d))
  files_with files k all one = by (has_file files k)
    where
      by : (b : Bool) → All Q (if b then with_details files (index_of_file files k) d else files ++ (k, d) ∷ [])
      by true = details_with files (index_of_file files k) all
      by false = All-push Q files (k, d) all one

pub file_can : (p : Built) (k : FileKey) (d : Details) → CanWrite p no_texts → IsInline k.0 → d.source ≡ None
    → CanWrite (record p { files = with_file p.files k (Some d) }) no_texts
file_can p k d can is none = record {
  program = can.program;
  directories = can.directories;
  paths = files_with (λ f. IsWithin no_texts f.0.0) d (λ _ _ q. q) p.files k can.paths (inline_within k.0 is);
  sources =
      files_with (λ f. IfSome f.1.source (IsWithin no_texts)) d (λ _ _ _. no_source (IsWithin no_texts)) p.files k
      can.sources (no_source (IsWithin no_texts));
  sources_end =
      λ late has.
      files_with (λ f. IfSome f.1.source HasNoZero) d (λ _ _ _. no_source HasNoZero) p.files k
      (can.sources_end late has) (no_source HasNoZero);
}
  where
    no_source : (P : LineText → Type 0) → IfSome d.source P
    no_source P = subst (λ (s : Option LineText). IfSome s P) (sym none) tt

-- ---- bytes

pub appended : (wanted : Result (List ℕ) Error) (new : List ℕ) → Appends wanted [] new → wanted ≡ Ok new
appended (Ok bytes) new is = ap (λ (xs : List ℕ). let r : Result (List ℕ) Error = Ok xs in r) (sym is)
appended (Err e) new is = absurd is

-- ---- what is read back

-- no source is written, so no table gains the empty text
no_empty : (p : Built) → p.file_has_source ≡ false → needs_empty p ≡ false
no_empty p is = by (nat_le 5 p.encoding.version) p.file_has_source (list_any (λ f. is_none f.1.source) p.files) is
  where
    by : (a s b : Bool) → s ≡ false → (a && s && b) ≡ false
    by true false b e = refl
    by false false b e = refl
    by true true b e = absurd cc
    by false true b e = absurd cc

no_strings : (p : Built) → p.file_has_source ≡ false → (texts_after p no_texts).strings ≡ []
no_strings p is =
    ap (λ (b : Bool). if b && nat_eq (first_form (sources p.files)) 0x0e then with_text [] [] else []) (no_empty p is)

no_line_strings : (p : Built) → p.file_has_source ≡ false → (texts_after p no_texts).line_strings ≡ []
no_line_strings p is =
    ap (λ (b : Bool). if b && nat_eq (first_form (sources p.files)) 0x1f then with_text [] [] else []) (no_empty p is)

-- so what was written to an empty section with empty tables is read back with empty tables
pub read_back : (written is_big : Bool) (p : Built) (texts : StringTables) (old new : List ℕ) → written ≡ is_big
    → old ≡ []
    → p.file_has_source ≡ false → HaveEmptySource p no_texts texts
    → (unit : List ℕ) × (new ≡ old ++ unit) × ReadsBackAs written p texts unit → ReadsBackAs is_big p no_texts new
read_back written is_big p texts old new big_is old_is none gained given =
    subst (λ (b : Bool). ReadsBackAs b p no_texts new) big_is
    (subst (ReadsBackAs written p no_texts) (sym (given.1 ∙ ap (λ (xs : List ℕ). xs ++ given.0) old_is))
    (subst (λ (l : List (List ℕ)). ReadsBackAs written p (texts_in [] l) given.0)
    (gained.line_strings ∙ no_line_strings p none)
    (subst (λ (s : List (List ℕ)). ReadsBackAs written p (texts_in s texts.line_strings) given.0)
    (gained.strings ∙ no_strings p none) given.2)))

-- ---- the program that is built

pub built_source : (h : Handed) (p : Built) → IsBuiltOf h p → p.file_has_source ≡ false
built_source h p b =
    ap (λ (q : Built). q.file_has_source) b.others ∙ ap (λ (q : Built). q.file_has_source) b.files.others
    ∙ ap (λ (q : Built). q.file_has_source) b.directories.others

pub items_built : (details : ℕ) (e : GimliEncoding) (start between after p : Built) (texts : List (List ℕ))
    (bytes ids given : List ℕ)
    (files : List GimliFileName)
    (file_ids now : List ℕ) (symbols : List GimliSymbol) (rows : List GimliRow) → start.items ≡ []
    → start.encoding ≡ encoding_of e
    → AddsDirectories (program_with details start) between texts ids
    → AddsFiles between after bytes given files file_ids → now ≡ file_ids
    → AddsItems after p (items_handed after.encoding.version now symbols 0 None rows)
    → p.items ≡ items_handed e.version file_ids symbols 0 None rows
items_built details e start between after p texts bytes ids given files file_ids now symbols rows none is d f same a =
    let items : after.items ≡ [] = ap (λ (q : Built). q.items) f.others ∙ ap (λ (q : Built). q.items) d.others ∙ none in
    let version : after.encoding.version ≡ e.version =
    ap (λ (q : Built). q.encoding.version) f.others ∙ ap (λ (q : Built). q.encoding.version) d.others
    ∙ ap (λ (x : Encoding). x.version) is in
    a.items_are ∙ ap (λ (xs : List BuiltItem). xs ++ items_handed after.encoding.version now symbols 0 None rows) items
    ∙ ap (λ (v : ℕ). items_handed v now symbols 0 None rows) version
    ∙ ap (λ (xs : List ℕ). items_handed e.version xs symbols 0 None rows) same

-- which details are written changes nothing of what a program requires to be written, where no source is among them
pub can_with : (details : ℕ) (p : Built) → CanWrite p no_texts → CanWrite (program_with details p) no_texts
can_with details p can = record {
  program = can.program;
  directories = can.directories;
  paths = can.paths;
  sources = can.sources;
  sources_end = λ _ has. absurd (false≢true has);
}
