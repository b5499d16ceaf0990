-- Reading the first entry of a unit.
use Rattle.std.proofs.Common.{◌≡◌, ℕ, ◌+◌, ◌<◌, ◌≤◌, Bool, List, [], ◌∷◌, ◌++◌, length, drop, take, Option, Some, None}
use Rattle.std.proofs.Common.{Result, Ok, Err, refl, sym, ap, ◌∙◌, inl, inr, arith, append_assoc}
use Rattle.std.specs.Prelude.{IfOk, IfErr}
use Rattle.std.proofs.lemmas.Bool.{cases_lt}
use Rattle.std.proofs.lemmas.List.{append-nil, drop_all, length-append, length-drop, take-append-drop}
use Rattle.gimli_core.specs.Layout.{OrderAndLimit}
use Rattle.gimli_core.specs.Numbers.{SpellsInitialLength}
use Rattle.gimli_core.specs.Reading.{Read, result_map}
use Rattle.gimli_core.specs.Production.{initial_length, unit_length, Reads}
use Rattle.gimli_core.specs.declared.common.Encoding.{Encoding}
use Rattle.gimli_core.specs.declared.common.Format.{Format}
use Rattle.gimli_core.specs.declared.common.Format.TheVariants.{Dwarf32, Dwarf64}
use Rattle.gimli_core.specs.declared.error.Error.{Error}
use Rattle.gimli_core.proofs.Productions.{reads_both, reads_done}
use Rattle.gimli_core.proofs.Readers.{readers}
use Rattle.gimli_compilation.specs.declared.abbreviation.Specification.{Specification}
use Rattle.gimli_compilation.specs.declared.attributes.Attributes.{Attributes}
use Rattle.gimli_compilation.specs.declared.form.NumberKind.{NumberKind}
use Rattle.gimli_compilation.specs.declared.form.NumberKind.TheVariants.{SectionOffset, StringOffset, LineStringOffset}
use Rattle.gimli_compilation.specs.declared.form.NumberKind.TheVariants.{StringIndex, Other}
use Rattle.gimli_compilation.specs.declared.form.Value.{Value}
use Rattle.gimli_compilation.specs.declared.form.Value.TheVariants.{Number, Text, Passed}
use Rattle.gimli_compilation.specs.declared.refusal.Refusal.{Refusal}
use Rattle.gimli_compilation.specs.declared.refusal.Refusal.TheVariants.{Bytes}
use Rattle.gimli_compilation.specs.declared.sections.Compilation.{Compilation}
use Rattle.gimli_compilation.specs.declared.sections.Outcome.{Outcome}
use Rattle.gimli_compilation.specs.declared.sections.Outcome.TheVariants.{Found, UnknownUnitType, MissingAbbreviation}
use Rattle.gimli_compilation.specs.Header.{Header, frame_production}
use Rattle.gimli_compilation.specs.Sections.{Sections}
use Rattle.gimli_compilation.specs.Unit.{attributes_production, string_offset_production, text_from, text_production}
use Rattle.gimli_compilation.specs.Unit.{text_by, text_of, compilation_production, table_production, declared_entry}
use Rattle.gimli_compilation.specs.Unit.{found_entry, entry_production, content_production, unit_production}
use Rattle.gimli_compilation.specs.Unit.{BeginsWithOutcome, FollowsUnit, HasCompilationAt, HasRefusalAt}
use Rattle.gimli_compilation.specs.Value.{attributes_with, section_offset}
use Rattle.gimli_compilation.specs.inside.Value.{value_seen}
use Rattle.gimli_compilation.specs.inside.Unit.{after_frame, outcome_seen, answer_of}
use Rattle.gimli_compilation.proofs.Guards.{reads_from_offset, reads_apart}
use Rattle.gimli_compilation.proofs.FormLaws.{reads_form}
use Rattle.gimli_compilation.proofs.AbbreviationLaws.{reads_abbreviation}
use Rattle.gimli_compilation.proofs.HeaderLaws.{reads_frame, reads_header}
use Rattle.gimli_compilation.proofs.Until.{TakesBytes, takes_both}
use Rattle.gimli_core.specs.Layout.{Seen}

-- ---- attributes

reads_attributes : (layout : OrderAndLimit) (encoding : Encoding) (specifications : List Specification)
    (before : Attributes (List ℕ))
    → Reads (attributes_production layout encoding before specifications)
unfolding attributes_production
reads_attributes layout encoding [] before = reads_done before
reads_attributes layout encoding (s ∷ specifications) before = reads_both (reads_form layout encoding s.form.0)
    (λ value. reads_attributes layout encoding specifications (attributes_with before s.name.0 value))

-- ---- texts

reads_text_from : (limit offset : ℕ) → Reads (text_production limit offset)
unfolding text_production
reads_text_from limit offset = search (readers, reads_from_offset)

reads_string_offset : (layout : OrderAndLimit) (format : Format) (base index : ℕ)
    → Reads (string_offset_production layout format base index)
unfolding string_offset_production
reads_string_offset layout format base index = search (readers, reads_from_offset)

reads_named : (limit : ℕ) (section : List ℕ) (offset : ℕ) → Reads (text_from limit section offset)
reads_named limit section offset = search (readers, reads_apart, reads_text_from)

module _ (sections : Sections) where
  reads_text_by : (format : Format) (base : Option ℕ) (kind : NumberKind) (n : ℕ)
      → Reads (text_by sections format base kind n)
  unfolding text_by
  reads_text_by format base StringOffset n = reads_named sections.layout.limit sections.strings n
  reads_text_by format base LineStringOffset n = reads_named sections.layout.limit sections.line_strings n
  reads_text_by format (Some base) StringIndex n = search (readers, reads_apart, reads_string_offset, reads_named)
  reads_text_by format None StringIndex n = reads_done None
  reads_text_by format base SectionOffset n = reads_done None
  reads_text_by format base Other n = reads_done None

  reads_text_of : (format : Format) (base : Option ℕ) (value : Value (List ℕ))
      → Reads (text_of sections format base value)
  reads_text_of format base (Number kind n) = reads_text_by format base kind n
  reads_text_of format base (Text name) = reads_done (Some name)
  reads_text_of format base Passed = reads_done None

  reads_compilation : (encoding : Encoding) (attributes : Attributes (List ℕ))
      → Reads (compilation_production sections encoding attributes)
  unfolding compilation_production
  reads_compilation encoding attributes = search (readers, reads_text_of)

-- ---- entries and units

reads_table : (offset code : ℕ) → Reads (table_production offset code)
unfolding table_production
reads_table offset code = search (readers, reads_abbreviation)

-- what a value says, seen by its bytes
pub section_offset_seen : {R : Type 0} (view : R → Seen) (value : Value R)
    → section_offset (value_seen view value) ≡ section_offset value
section_offset_seen view (Number SectionOffset n) = refl
section_offset_seen view (Number StringOffset n) = refl
section_offset_seen view (Number LineStringOffset n) = refl
section_offset_seen view (Number StringIndex n) = refl
section_offset_seen view (Number Other n) = refl
section_offset_seen view (Text name) = refl
section_offset_seen view Passed = refl

-- both texts of a compilation are known
pub compilation_done : (sections : Sections) (encoding : Encoding) (attributes : Attributes (List ℕ))
    (base lines : Option ℕ) (comp_dir name : Option (List ℕ))
    (bytes : List ℕ)
    → base ≡ section_offset attributes.str_offsets_base → lines ≡ section_offset attributes.stmt_list
    → (Ok comp_dir, bytes) ≡ (text_of sections encoding.format base attributes.comp_dir).read bytes
    → (Ok name, bytes) ≡ (text_of sections encoding.format base attributes.name).read bytes
    → (Ok (record { version = encoding.version; stmt_list = lines; comp_dir = comp_dir; name = name }), bytes)
    ≡ (compilation_production sections encoding attributes).read bytes
unfolding compilation_production
compilation_done sections encoding attributes base lines comp_dir name bytes based lined first second =
    let one : (Ok comp_dir, bytes)
    ≡ (text_of sections encoding.format (section_offset attributes.str_offsets_base) attributes.comp_dir).read bytes =
    first ∙ ap (λ (b : Option ℕ). (text_of sections encoding.format b attributes.comp_dir).read bytes) based in
    let two : (Ok name, bytes)
    ≡ (text_of sections encoding.format (section_offset attributes.str_offsets_base) attributes.name).read bytes =
    second ∙ ap (λ (b : Option ℕ). (text_of sections encoding.format b attributes.name).read bytes) based in
    rw (← one, ← two, lined) refl

module _ (sections : Sections) where
  reads_declared_entry : (encoding : Encoding) (code : ℕ) (found : Option (List Specification))
      → Reads (declared_entry sections encoding code found)
  unfolding found_entry
  reads_declared_entry encoding code None = search readers
  reads_declared_entry encoding code (Some specifications) = search (readers, reads_attributes, reads_compilation)

  reads_entry : (header : Header) → Reads (entry_production sections header)
  unfolding entry_production
  reads_entry header = search (readers, reads_apart, reads_table, reads_declared_entry)

  reads_content : (format : Format) → Reads (content_production sections format)
  unfolding content_production
  reads_content format = search (readers, reads_header, reads_entry)

  pub reads_unit : Reads (unit_production sections)
  unfolding unit_production
  reads_unit = search (readers, reads_frame, reads_apart, reads_content)

  -- ---- an answer

  pub content_done : (bytes rest left : List ℕ) (unit : List ℕ × Format) (outcome : Result (Outcome (List ℕ)) Error)
      → (Ok unit, rest) ≡ (frame_production sections.layout).read bytes
      → (outcome, left) ≡ (content_production sections unit.1).read unit.0
      → (outcome, rest) ≡ (unit_production sections).read bytes
  unfolding unit_production
  content_done bytes rest left unit outcome frame content =
      rw (← frame) (ap (λ (r : Read (Outcome (List ℕ))). let s : Read (Outcome (List ℕ)) = (r.0, rest) in s) content)

  pub frame_refused : (offset : ℕ) (bytes : List ℕ) (e : Error) (left : List ℕ) → bytes ≡ drop offset sections.info
      → (Err e, left) ≡ (frame_production sections.layout).read bytes → HasRefusalAt sections offset (Bytes e)
  unfolding unit_production
  frame_refused offset bytes e left from is =
      let refused : ((unit_production sections).read bytes).0
      ≡ Err e = rw (← is) refl in rw (← from) (reads_unit.fault bytes e refused)

  -- a user has what the unit says
  module _ {R : Type 0} (view : Compilation R → Compilation (List ℕ)) (offset : ℕ) (bytes left : List ℕ)
      (from : bytes ≡ drop offset sections.info) where
    begins : (outcome : Outcome (List ℕ)) → (Ok outcome, left) ≡ (unit_production sections).read bytes
        → BeginsWithOutcome sections (drop offset sections.info) outcome
    begins outcome e = let f = reads_unit.found bytes outcome left (sym e) in (f.0, left, sym from ∙ f.1, f.2)

    pub compilation_is : (outcome : Result (Outcome R) Error) (answer : Result (Compilation R) Refusal)
        → (result_map (outcome_seen view) outcome, left) ≡ (unit_production sections).read bytes
        → answer ≡ answer_of outcome → IfOk answer (λ compilation. HasCompilationAt sections offset (view compilation))
    compilation_is (Ok (Found compilation)) answer e is = rw is (begins (Found (view compilation)) e)
    compilation_is (Ok (UnknownUnitType unit_type)) answer e is = rw is tt
    compilation_is (Ok (MissingAbbreviation code)) answer e is = rw is tt
    compilation_is (Err error) answer e is = rw is tt

    pub refusal_is : (outcome : Result (Outcome R) Error) (answer : Result (Compilation R) Refusal)
        → (result_map (outcome_seen view) outcome, left) ≡ (unit_production sections).read bytes
        → answer ≡ answer_of outcome → IfErr answer (HasRefusalAt sections offset)
    unfolding unit_production
    refusal_is (Ok (Found compilation)) answer e is = rw is tt
    refusal_is (Ok (UnknownUnitType unit_type)) answer e is = rw is (begins (UnknownUnitType unit_type) e)
    refusal_is (Ok (MissingAbbreviation code)) answer e is = rw is (begins (MissingAbbreviation code) e)
    refusal_is (Err error) answer e is =
        let fault = reads_unit.fault bytes error (ap (λ (r : Read (Outcome (List ℕ))). r.0) (sym e)) in
        rw (is, ← from) fault

-- ---- the walk

length_takes : (is_big : Bool) (n : ℕ) (format : Format) → SpellsInitialLength is_big [] format n → ⊥
length_takes is_big n Dwarf32 s = absurd (omega (arith, s.0.size_is))
length_takes is_big n Dwarf64 s = absurd (omega (arith, ap length s.2, length-append s.0 s.1, s.3.size_is))

frame_takes : (layout : OrderAndLimit) → TakesBytes (frame_production layout)
unfolding frame_production unit_length
frame_takes layout =
    takes_both (unit_length layout) _
    (takes_both (initial_length layout.is_big) _
    (record { none = λ unit s. length_takes layout.is_big unit.0 unit.1 s }))

some_front : (layout : OrderAndLimit) (front : List ℕ) (unit : List ℕ × Format)
    → (frame_production layout).Spells front unit → 0 < length front
some_front layout [] unit s = absurd ((frame_takes layout).none unit s)
some_front layout (b ∷ front) unit s = omega arith

-- what is left after a unit is an end of its section
pub rest_is_end : (layout : OrderAndLimit) (section : List ℕ) (offset : ℕ) (bytes after : List ℕ)
    → bytes ≡ drop offset section
    → after ≡ after_frame ((frame_production layout).read bytes) → (front : List ℕ) × (section ≡ front ++ after)
rest_is_end layout section offset bytes after from is = at_read ((frame_production layout).read bytes) refl is
  where
    at_read : (r : Read (List ℕ × Format)) → (frame_production layout).read bytes ≡ r → after ≡ after_frame r
        → (front : List ℕ) × (section ≡ front ++ after)
    at_read (Ok unit, rest) same left =
        let f = (reads_frame layout).found bytes unit rest same in
        let end : drop offset section ≡ f.0 ++ after = sym from ∙ f.1 ∙ ap (λ (xs : List ℕ). f.0 ++ xs) (sym left) in (
          take offset section ++ f.0,
          sym (take-append-drop offset section) ∙ ap (λ (xs : List ℕ). take offset section ++ xs) end
              ∙ sym (append_assoc (take offset section) f.0 after),
        )
    at_read (Err e, rest) same left =
        (section, sym (append-nil section) ∙ ap (λ (xs : List ℕ). section ++ xs) (sym left))

-- where the next unit begins
pub record Steps (layout : OrderAndLimit) (section : List ℕ) (offset next : ℕ) : Type 0 where
  pub follows : FollowsUnit layout section offset next
  pub onward : offset < next
  pub inside : next ≤ length section

pub next_offset : (layout : OrderAndLimit) (section : List ℕ) (offset next : ℕ) (bytes after : List ℕ)
    → bytes ≡ drop offset section → (bytes ≡ [] → ⊥)
    → after ≡ after_frame ((frame_production layout).read bytes)
    → next + length after ≡ length section → Steps layout section offset next
next_offset layout section offset next bytes after from some is ends =
    at_read ((frame_production layout).read bytes) refl is
    (elim (cases_lt offset (length section))
    [ inl lt ↦ lt | inr le ↦ absurd (some (from ∙ drop_all offset section le)) ])
  where
    at_read : (r : Read (List ℕ × Format)) → (frame_production layout).read bytes ≡ r → after ≡ after_frame r
        → offset < length section → Steps layout section offset next
    at_read (Ok unit, rest) same left before =
        let f = (reads_frame layout).found bytes unit rest same in
        let whole : drop offset section ≡ f.0 ++ rest = sym from ∙ f.1 in
        let long = some_front layout f.0 unit f.2 in
        let size : next
        ≡ offset
        + length f.0 = omega
        (arith, ap length whole, length-append f.0 rest, length-drop offset section, ap length left, before) in
        record {
          follows = inl (f.0, rest, unit, whole, f.2, size);
          onward = omega (arith, size, long);
          inside = omega (arith, ends);
        }
    at_read (Err e, rest) same left before =
        let end : next ≡ length section = omega (arith, ap length left) in
        let fault = (reads_frame layout).fault bytes e (ap (λ (r : Read (List ℕ × Format)). r.0) same) in
        record {
          follows = inr (e, rw (← from) fault, end);
          onward = omega (arith, end, before);
          inside = omega (arith, end);
        }
