-- What is answered of a unit is what was built.
use Rattle.std.specs.Prelude.{◌≡◌, ◌<◌, ◌^◌, ◌∷◌, ◌++◌}
use Rattle.gimli_write.proofs
use proofs.Common
use Common.{ℕ, Bool, List, [], length, drop, map, refl, sym, ap, ◌∙◌, subst, Result, Option, Some, None, IfOk, IfErr}
use Common.{append-nil, IfOk-weaker, MatchResult-weaker, OrderAndLimit, Value, Error, StringTables, Header, UnitEntry}
use Common.{SpellsUnit, ReadFile, Event, row, fault, Events, program_events, ReadRow, one_header, one_decoding}
use Common.{bytes_in, Built, HasFittingAddresses, program_rows, Sections, IsText, IsOptionalText, OneByOne}
use Common.{ConvertError, Read}
use Common.{NoMemory, RoundTrip, FileAnswer, built_file, Answers, answers, IsFileAnswer, AreAnswers, AnswersUnit}
use Common.{AnswersProgram, IsRunRefusal, RefusesUnit, slice_layout, unit_entry_of, sections_of}
use Rattle.gimli_build.specs.Tables.{File}
use Rattle.gimli_build.specs.ReadsBack.{IsUnit, IsFile, ReadsBack, ReadsBackAs}
use Rattle.gimli_write.specs.RoundTrip.{IsAsBuilt}
use proofs.ReadTexts.{text_there}
use proofs.ReadUnits.{read_back, AreShort}

-- ---- one text

-- a value stands for one text
pub text_same : (s : Sections) (v : Value) (text other : List ℕ) → IsText s v text → IsText s v other → other ≡ text
text_same s v text other is also = let both = sym (text_there s v also) ∙ text_there s v is in cc

optional_same : (s : Sections) (v : Option Value) (text other : Option (List ℕ)) → IsOptionalText s v text
    → IsOptionalText s v other → other ≡ text
optional_same s (Some v) (Some text) (Some other) is also = ap (λ t. Some t) (text_same s v _ _ is also)
optional_same s None None None is also = refl
optional_same s (Some v) (Some text) None is also = absurd also
optional_same s (Some v) None other is also = absurd is
optional_same s None None (Some other) is also = absurd also
optional_same s None (Some text) other is also = absurd is

-- ---- one by one

one_by_one_same : {A B C : Type 0} (IsBuilt : A → B → Type 0) (IsAnswered : A → C → Type 0) (f : B → C)
    → ((x : A) (y : B) (z : C) → IsBuilt x y → IsAnswered x z → z ≡ f y)
    → (xs : List A) (ys : List B) (zs : List C) → OneByOne IsBuilt xs ys → OneByOne IsAnswered xs zs → zs ≡ map f ys
one_by_one_same IsBuilt IsAnswered f same [] [] [] built answered = refl
one_by_one_same IsBuilt IsAnswered f same (x ∷ xs) (y ∷ ys) (z ∷ zs) built answered =
    ap (λ c. c ∷ zs) (same x y z built.0 answered.0)
    ∙ ap (λ cs. f y ∷ cs) (one_by_one_same IsBuilt IsAnswered f same xs ys zs built.1 answered.1)
one_by_one_same IsBuilt IsAnswered f same [] [] (z ∷ zs) built answered = absurd answered
one_by_one_same IsBuilt IsAnswered f same [] (y ∷ ys) zs built answered = absurd built
one_by_one_same IsBuilt IsAnswered f same (x ∷ xs) [] zs built answered = absurd built
one_by_one_same IsBuilt IsAnswered f same (x ∷ xs) (y ∷ ys) [] built answered = absurd answered

-- ---- one file

same_file : (a b : FileAnswer) → a.path ≡ b.path → a.directory_index ≡ b.directory_index → a.timestamp ≡ b.timestamp
    → a.size ≡ b.size → a.md5 ≡ b.md5 → a.source ≡ b.source → a ≡ b
same_file a b path directory time size md5 source =
    ap (λ x. let f : FileAnswer = record a { path = x } in f) path
    ∙ ap (λ x. let f : FileAnswer = record a { path = b.path; directory_index = x } in f) directory
    ∙ ap (λ x. let f : FileAnswer = record b { timestamp = x; size = a.size; md5 = a.md5; source = a.source } in f) time
    ∙ ap (λ x. let f : FileAnswer = record b { size = x; md5 = a.md5; source = a.source } in f) size
    ∙ ap (λ x. let f : FileAnswer = record b { md5 = x; source = a.source } in f) md5
    ∙ ap (λ x. let f : FileAnswer = record b { source = x } in f) source

file_same : (s : Sections) {p : Built} {texts : StringTables} {read : ReadFile} {built : File} {answer : FileAnswer}
    → IsFile s p texts read built → IsFileAnswer s read answer → answer ≡ built_file p texts built
file_same s is also =
    same_file _ _ (text_same s _ _ _ is.path also.path) (also.directory_index ∙ is.directory)
    (also.timestamp ∙ is.timestamp) (also.size ∙ is.size) (also.md5 ∙ is.md5)
    (optional_same s _ _ _ is.source also.source)

-- ---- one run

-- a program gives one list of events
pub events_same : {layout : OrderAndLimit} {h : Header} {bytes : List ℕ} {es fs : List Event} → Events layout h bytes es
    → Events layout h bytes fs → es ≡ fs
events_same {layout} {h} a b =
    a.given ∙ ap (λ c. program_events h.parameters c.0 c.1)
    (one_decoding layout h _ _ _ a.decoding ∙ sym (one_decoding layout h _ _ _ b.decoding)) ∙ sym b.given

pub rows_same : (rows others : List ReadRow) → map row rows ≡ map row others → rows ≡ others
rows_same [] [] is = refl
rows_same (r ∷ rows) (s ∷ others) is =
    let first : r ≡ s = cc in
    let rest : map row rows ≡ map row others = cc in
    ap (λ x. x ∷ rows) first ∙ ap (λ xs. s ∷ xs) (rows_same _ _ rest)
rows_same [] (s ∷ others) is = absurd cc
rows_same (r ∷ rows) [] is = absurd cc

-- rows have no fault among them
no_fault_among : (rows others : List ReadRow) (e : Error) (rest : List Event)
    → map row rows ≡ map row others ++ fault e ∷ rest → ⊥
no_fault_among [] [] e rest is = cc
no_fault_among (r ∷ rows) [] e rest is = cc
no_fault_among [] (s ∷ others) e rest is = cc
no_fault_among (r ∷ rows) (s ∷ others) e rest is =
    let later : map row rows ≡ map row others ++ fault e ∷ rest = cc in
    no_fault_among rows others e rest later

-- a program that gives rows has no first fault, and its rows are answered unless memory is missing
rows_refused : {layout : OrderAndLimit} {h : Header} (rows : List ReadRow) (e : ConvertError)
    → Events layout h h.program (map row rows) → IsRunRefusal layout h e → e ≡ NoMemory
rows_refused rows NoMemory given refused = refl
rows_refused {layout} {h} rows (Read e) given refused =
    let whole : Events layout h h.program (program_events h.parameters refused.list refused.end) = record {
      list = refused.list;
      end = refused.end;
      decoding = refused.decoding;
      given = refl;
    } in
    absurd (no_fault_among _ _ e _ (events_same given whole ∙ refused.given))
rows_refused rows e given refused = absurd refused

-- ---- a unit

module _ (layout : OrderAndLimit) (unit_entry : UnitEntry) (sections : Sections) (p : Built) (texts : StringTables)
    (unit : List ℕ)
    (back : ReadsBack layout unit_entry sections p texts unit) where
  begins : {h : Header} → IsUnit layout unit_entry unit h → SpellsUnit layout unit_entry unit h
  begins is = (unit, [], sym (append-nil unit), is.spelled)

  header_same : {h : Header} → IsUnit layout unit_entry unit h → h ≡ back.header
  header_same {h} is = one_header layout unit_entry _ h _ (begins is) (begins back.is_unit)

  answered : {a : Answers} → AnswersUnit layout unit_entry sections unit a → AreAnswers layout sections back.header a
  answered {a} is = subst (λ h. AreAnswers layout sections h a) (header_same is.is_unit) is.answered

  directories_built : (a : Answers) → AnswersUnit layout unit_entry sections unit a
      → a.directories ≡ map (bytes_in texts) p.directories
  directories_built a is =
      one_by_one_same _ _ _ (λ v built text is also. text_same _ v _ _ is also)
      _ _ _ back.directories (answered is).directories

  files_built : (a : Answers) → AnswersUnit layout unit_entry sections unit a
      → a.files ≡ map (built_file p texts) p.files
  files_built a is =
      one_by_one_same _ _ _ (λ read built answer is also. file_same _ is also) _ _ _ back.files (answered is).files

  rows_built : (a : Answers) → AnswersUnit layout unit_entry sections unit a
      → HasFittingAddresses p → a.rows ≡ program_rows p
  rows_built a is held = rows_same _ _ (events_same (answered is).rows (back.rows held))

  as_built : (a : Answers) → AnswersUnit layout unit_entry sections unit a → IsAsBuilt p texts a
  as_built a is = record {
    directories = directories_built a is;
    files = files_built a is;
    rows = rows_built a is;
  }

  refused_for_memory : (e : ConvertError) → HasFittingAddresses p
      → RefusesUnit layout unit_entry unit e → e ≡ NoMemory
  refused_for_memory e held refused =
      rows_refused _ e (back.rows held) (subst (λ h. IsRunRefusal layout h e) (header_same refused.1) refused.2)

-- ---- the unit of a program

module _ (is_big : Bool) (p : Built) (texts : StringTables) (section : List ℕ) (n : ℕ)
    (whole : ReadsBackAs is_big p texts (drop n section))
    (fits : length section < 2 ^ 64) (held : AreShort texts) where
  read_again : ReadsBack (slice_layout is_big) (unit_entry_of p texts) (sections_of texts) p texts (drop n section)
  read_again = read_back is_big p texts section n whole fits held

  pub built : (r : Result RoundTrip ConvertError) → IfOk r (AnswersProgram is_big p texts (drop n section))
      → IfOk r (λ answer. IsAsBuilt p texts (answers answer))
  built r is = IfOk-weaker r _ _ (λ answer a. as_built _ _ _ p texts _ read_again _ a) is

  pub never_read : (r : Result RoundTrip ConvertError)
      → IfErr r (RefusesUnit (slice_layout is_big) (unit_entry_of p texts) (drop n section))
      → HasFittingAddresses p → IfErr r (λ e. e ≡ NoMemory)
  never_read r is held =
      MatchResult-weaker r is (λ _ u. u) (λ e f. refused_for_memory _ _ _ p texts _ read_again e held f)
