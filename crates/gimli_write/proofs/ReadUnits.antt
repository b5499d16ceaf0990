-- A unit that is read: it has one header, and no fault.
use Rattle.std.specs.Prelude.{◌≡◌, ◌≢◌, ◌<◌, ◌^◌, ◌∷◌}
use Rattle.gimli_write.proofs.Common
use Common.{ℕ, Bool, List, [], length, drop, refl, sym, subst, inl, inr, arith, All, Result, Some, IfOk, IfErr}
use Common.{length-drop, append-nil, All-nil, All-cons, IfOk-weaker, MatchResult-weaker, OrderAndLimit, Error}
use Common.{OutOfMemory, Header, UnitEntry, SpellsUnit, HasUnitFault, ReadFile, one_header, no_fault, byte_count}
use Common.{StringTables, Sections, OneByOne, HasText, HasFileTexts, Built, ConvertError, NoMemory, RoundTrip, answers}
use Common.{AreAnswers, AnswersProgram, IsRunRefusal, RefusesUnit, slice_layout, unit_entry_of, sections_of}
use Rattle.gimli_build.specs.Tables.{File}
use Rattle.gimli_build.specs.ReadsBack.{IsFile, ReadsBack, IsReadWell, ReadsBackAs}
use Rattle.gimli_bytes.specs.Hand.{unplaced}
use Rattle.gimli_build.proofs.linking.FoundTexts.{written-found, written-held}
use Rattle.gimli_write.specs.inside.RoundTrip.{BeginsUnit, CanRead, HasTexts, unit_entry_with}
use Rattle.gimli_write.proofs.ReadRuns.{is_memory}

-- ---- what a slice is read as

-- the same layout, directory and bytes by another name
pub same_unit : (limit size n : ℕ) {is_big other : Bool} {directory other_directory section other_section : List ℕ}
    (h : Header) → other ≡ is_big → other_directory ≡ directory → other_section ≡ section
    → SpellsUnit (record { is_big = other; limit = limit }) (unit_entry_with size other_directory)
    (drop n other_section) h
    → BeginsUnit (record { is_big = is_big; limit = limit }) (unit_entry_with size directory) (drop n section) h
same_unit limit size n {other} {directory} {other_directory} {section} h b d s spelled =
    subst (λ x. BeginsUnit (record { is_big = x; limit = limit }) (unit_entry_with size directory) (drop n section) h) b
    (subst (λ x. BeginsUnit (record { is_big = other; limit = limit }) (unit_entry_with size x) (drop n section) h) d
    (subst (λ x.
    BeginsUnit (record { is_big = other; limit = limit }) (unit_entry_with size other_directory) (drop n x) h) s
    (record { spelled = spelled })))

-- a fault where a unit begins
pub record BeginsFault (layout : OrderAndLimit) (unit_entry : UnitEntry) (bytes : List ℕ) (e : Error) : Type 0 where
  pub fault : HasUnitFault layout unit_entry bytes e

pub same_fault : (limit size n : ℕ) (is_big other : Bool)
    (directory other_directory section : List ℕ) {other_section : List ℕ}
    (e : Error) → other ≡ is_big → other_directory ≡ directory → other_section ≡ section
    → HasUnitFault (record { is_big = other; limit = limit }) (unit_entry_with size other_directory)
    (drop n other_section) e
    → BeginsFault (record { is_big = is_big; limit = limit }) (unit_entry_with size directory) (drop n section) e
same_fault limit size n is_big other directory other_directory section e b d s fault =
    subst (λ x. BeginsFault (record { is_big = x; limit = limit }) (unit_entry_with size directory) (drop n section) e)
    b (subst (λ x. BeginsFault (record { is_big = other; limit = limit }) (unit_entry_with size x) (drop n section) e) d
    (subst
    (λ x. BeginsFault (record { is_big = other; limit = limit }) (unit_entry_with size other_directory) (drop n x) e) s
    (record { fault = fault })))

pub same_sections : {strings other_strings line_strings other_line_strings : List ℕ} {s : Sections}
    → other_strings ≡ strings → other_line_strings ≡ line_strings
    → record { strings = strings; line_strings = line_strings } ≡ s
    → record { strings = other_strings; line_strings = other_line_strings } ≡ s
same_sections a b is = grind arith

pub same_layout : (limit : ℕ) {is_big other : Bool} {n : OrderAndLimit} → n ≡ record { is_big = other; limit = limit }
    → other ≡ is_big
    → n ≡ record { is_big = is_big; limit = limit }
same_layout limit is b = grind arith

-- ---- one header

module _ (layout : OrderAndLimit) (unit_entry : UnitEntry) (bytes : List ℕ) where
  pub same_header : {h k : Header} → BeginsUnit layout unit_entry bytes h → BeginsUnit layout unit_entry bytes k → h ≡ k
  same_header {h} {k} s t = one_header layout unit_entry _ h k s.spelled t.spelled

  -- the texts of the header that is read are there
  pub texts_there : (sections : Sections) (k : Header) → CanRead layout unit_entry sections bytes
      → BeginsUnit layout unit_entry bytes k → HasTexts sections k
  texts_there sections k can unit = subst (λ h. HasTexts sections h) (same_header can.unit unit) can.texts

  -- a header that is there isn't refused
  pub header_refused : (h : Header) (e : Error) (r : ConvertError) → BeginsUnit layout unit_entry bytes h
      → (e ≢ OutOfMemory → BeginsFault layout unit_entry bytes e)
      → (e ≡ OutOfMemory → r ≡ NoMemory) → IsRunRefusal layout h r
  header_refused h e r unit fault named = elim (is_memory e) [
    | inl memory ↦ rw (named memory) tt
    | inr other ↦ absurd (no_fault layout unit_entry _ h e unit.spelled (fault other).fault)
  ]

-- ---- answers of the same by another name

pub same_answers : (r : Result RoundTrip ConvertError) {n m : OrderAndLimit} {s t : Sections} {h k : Header} → n ≡ m
    → s ≡ t → h ≡ k
    → IfOk r (λ answer. AreAnswers n s h (answers answer)) → IfOk r (λ answer. AreAnswers m t k (answers answer))
same_answers r a b d is = grind arith

pub same_refusal : (r : Result RoundTrip ConvertError) {n m : OrderAndLimit} {h k : Header} → n ≡ m → h ≡ k
    → IfErr r (IsRunRefusal n h) → IfErr r (IsRunRefusal m k)
same_refusal r a d is = grind arith

-- ---- a program's unit

one_by_one_all : {A B : Type 0} (Related : A → B → Type 0) (P : A → Type 0) → ((x : A) (y : B) → Related x y → P x)
    → (xs : List A) (ys : List B) → OneByOne Related xs ys → All P xs
one_by_one_all Related P gives [] [] all = All-nil P
one_by_one_all Related P gives (x ∷ xs) (y ∷ ys) all =
    All-cons P x _ (gives x y all.0) (one_by_one_all Related P gives xs ys all.1)
one_by_one_all Related P gives [] (y ∷ ys) all = absurd all
one_by_one_all Related P gives (x ∷ xs) [] all = absurd all

file_texts_there : {s : Sections} {p : Built} {texts : StringTables} {read : ReadFile} {built : File}
    → IsFile s p texts read built → HasFileTexts s read
file_texts_there is = grind arith

-- the sections of the tables have lengths that 64 bits hold
abbrev pub AreShort : StringTables → Type 0
AreShort texts = (byte_count texts.strings < 2 ^ 64) × (byte_count texts.line_strings < 2 ^ 64)

module _ (is_big : Bool) (p : Built) (texts : StringTables) (section : List ℕ) (n : ℕ)
    (whole : ReadsBackAs is_big p texts (drop n section))
    (fits : length section < 2 ^ 64) (held : AreShort texts) where
  read_well : IsReadWell unplaced (slice_layout is_big) (unit_entry_of p texts) (sections_of texts) is_big p texts
      (drop n section)
  read_well = record {
    order = refl;
    address_size = refl;
    directory = λ _. refl;
    texts_found = grind (arith, written-found);
    instructions_held = omega arith;
    length_held = grind (arith, length-drop);
    texts_held = grind (arith, written-held);
  }

  pub read_back : ReadsBack (slice_layout is_big) (unit_entry_of p texts) (sections_of texts) p texts (drop n section)
  read_back = whole _ _ _ read_well

  -- `OutOfMemory` before the unit is read
  pub unread_refused : {e : ConvertError} → e ≡ NoMemory
      → RefusesUnit (slice_layout is_big) (unit_entry_of p texts) (drop n section) e
  unread_refused is = grind (arith, read_back)

-- what is handed to the reading of a program's unit, by the names of the program
module _ (is_big other : Bool) (p : Built) (texts : StringTables) (section other_section : List ℕ) (n size : ℕ)
    (directory : List ℕ) (s : Sections)
    (order : other ≡ is_big) (there : other_section ≡ section) (sized : size ≡ p.encoding.address_size)
    (directed : Some directory ≡ (unit_entry_of p texts).directory) (written : s ≡ sections_of texts)
    (whole : ReadsBackAs is_big p texts (drop n section)) (fits : length section < 2 ^ 64) (held : AreShort texts) where
  back : ReadsBack (slice_layout is_big) (unit_entry_of p texts) (sections_of texts) p texts (drop n section)
  back = read_back is_big p texts section n whole fits held

  -- the unit by other names
  moved : (P : Bool → UnitEntry → List ℕ → Sections → Type 0)
      → P is_big (unit_entry_of p texts) section (sections_of texts)
      → P other (unit_entry_with size directory) other_section s
  moved P is = grind arith

  moved_back : (P : Bool → Sections → Type 0) → P other s → P is_big (sections_of texts)
  moved_back P is = grind arith

  begins : BeginsUnit (slice_layout is_big) (unit_entry_of p texts) (drop n section) back.header
  begins = record { spelled = (drop n section, [], sym (append-nil (drop n section)), back.is_unit.spelled) }

  pub can_read : CanRead (slice_layout other) (unit_entry_with size directory) s (drop n other_section)
  can_read = moved (λ b g xs t. CanRead (slice_layout b) g t (drop n xs)) (record {
    header = back.header;
    unit = begins;
    texts = record {
      directories = one_by_one_all _ (HasText (sections_of texts)) (λ v t is. (_, is)) _ _ back.directories;
      files = one_by_one_all _ (HasFileTexts (sections_of texts)) (λ f built is. file_texts_there is) _ _ back.files;
    };
  })

  begins_there : BeginsUnit (slice_layout other) (unit_entry_with size directory) (drop n other_section) back.header
  begins_there = grind (arith, begins)

  pub program_answered : (r : Result RoundTrip ConvertError)
      → ((h : Header) → BeginsUnit (slice_layout other) (unit_entry_with size directory) (drop n other_section) h
      → IfOk r (λ answer. AreAnswers (slice_layout other) s h (answers answer)))
      → IfOk r (AnswersProgram is_big p texts (drop n section))
  program_answered r is =
      let answered =
      moved_back (λ b t. IfOk r (λ answer. AreAnswers (slice_layout b) t back.header (answers answer)))
      (is back.header begins_there) in
      IfOk-weaker r _ _ (λ answer a. record { header = back.header; is_unit = back.is_unit; answered = a }) answered

  pub program_refused : (r : Result RoundTrip ConvertError)
      → ((h : Header) → BeginsUnit (slice_layout other) (unit_entry_with size directory) (drop n other_section) h
      → IfErr r (IsRunRefusal (slice_layout other) h))
      → IfErr r (RefusesUnit (slice_layout is_big) (unit_entry_of p texts) (drop n section))
  program_refused r is =
      let refused =
      moved_back (λ b t. IfErr r (IsRunRefusal (slice_layout b) back.header)) (is back.header begins_there) in
      MatchResult-weaker r refused (λ _ u. u) (λ e f. (back.header, back.is_unit, f))
