-- What a conversion reads, handed to the builder.
use Rattle.std.specs.Prelude.{◌≡◌, ◌⊎◌, ◌<◌, if◌then◌else◌}
use Rattle.gimli_write.proofs.Common
use Common.{ℕ, suc, arith, false, true, Bool, List, refl, sym, ap, ◌∙◌, subst, inl, inr, Option, Result, Ok, Err}
use Common.{MatchResult, Address, Parameters, DefineFile, Ins, Built, ConvertError, MissingLineEndSequence}
use Common.{ConvertLineRow, Row, ◌>>=◌, IsRefusedBy, TablesAndTexts, Reading, ends, stops, defines, offers, reading_at}
use Common.{with_definition, after_definitions, ReadsItems, tables_of_header, ToConvert, Outcome, after_item}
use Common.{with_tables, outcome_at_end, outcome_of, ItemComesTo, ComesTo, without_items, Conversion, tables_of}
use Common.{still_to_read, AddsFiles, IsReadRefusal, Progress, IsConverted, with_program, AnswersAs, outcome_with}
use Common.{RestComesTo, SourceComesTo, IsConvertRefusal, RestConvertsTo, IsRestRefusal}
use Rattle.std.specs.declared.vec.Vec.{Vec}
use Rattle.std.specs.declared.alloc.Global.{Global}
use Rattle.gimli_write.specs
use specs.declared.convert_error.ConvertError.TheVariants.{OutOfMemory}
use specs.declared.convert.rows.ConvertLineRow.TheVariants.{SetAddress, EndSequence}

-- how much a reading hands out
abbrev pub offer_count : Reading → ℕ
offer_count (ends tables) = 0
offer_count (stops e) = 0
offer_count (defines rest) = offer_count rest
offer_count (offers item tables rest) = suc (offer_count rest)

-- ---- files that are defined give nothing to build

pub counted_after : (r : Reading) → offer_count (after_definitions r) ≡ offer_count r
counted_after (defines rest) = counted_after rest
counted_after (ends tables) = refl
counted_after (stops e) = refl
counted_after (offers item tables rest) = refl

-- a read leaves one item fewer
pub one_fewer : (old rest : Reading) (item : ConvertLineRow) (tables : TablesAndTexts)
    → after_definitions old ≡ offers item tables rest → offer_count rest < offer_count old
one_fewer old rest item tables hands = grind (arith, counted_after)

module _ (m : ℕ → Option Address) where
  -- one at a point
  pub definition_passed : (parameters : Parameters) (tables : TablesAndTexts) (past : List Ins) (i : Ins)
      (rest : Reading) (p : Built) → outcome_of m (reading_at parameters tables past i (with_definition i rest)) p
      ≡ outcome_of m (reading_at parameters tables past i rest) p
  definition_passed parameters tables past (DefineFile f) rest p = grind arith
  definition_passed parameters tables past i rest p = refl

-- a refusal for another cause than memory has come to the same before
pub refused_then : {P Q : Type 0} (e : ConvertError) → (P → Q) → (e ≡ OutOfMemory) ⊎ P → (e ≡ OutOfMemory) ⊎ Q
refused_then e f (inl memory) = inl memory
refused_then e f (inr p) = inr (f p)

-- ---- what is built doesn't change what is read

pub same_left : (c : Conversion) {d : Conversion} (line_strings : List (List ℕ)) → d ≡ with_program d.tables.program c
    → without_items d.tables.program ≡ without_items c.tables.program
    → still_to_read d line_strings ≡ still_to_read c line_strings
same_left c line_strings is items = grind arith

-- ---- the tables that a reading finds

-- they are those of the program after the read
tables_are : (old : Built) {new : Built} → AddsFiles old new
    → record old { directories = new.directories; files = new.files } ≡ new
tables_are old adds = grind arith

module _ (map : ℕ → Option Address → Type 0) where
  comes_after : (r : Reading) (p : Built) (outcome : Result Outcome ConvertError)
      → ComesTo map (after_definitions r) p outcome → ComesTo map r p outcome
  comes_after (defines rest) p outcome is = comes_after rest p outcome is
  comes_after (ends tables) p outcome is = is
  comes_after (stops e) p outcome is = is
  comes_after (offers item tables rest) p outcome is = is

  -- ---- a map whose answers are those of a function

  module _ (g : ℕ → Option Address) (says : AnswersAs map g) where
    item_as : (item : ConvertLineRow) (p : Built) {step : Result Built ConvertError} → ItemComesTo map item p step
        → step ≡ after_item g item p
    item_as (SetAddress a) p is = is.2 ∙ ap (λ r. after_item (λ _. r) (SetAddress a) p) (says a is.0 is.1)
    item_as (Row r) p is = is
    item_as (EndSequence offset) p is = is

    then_as : (rest : Reading) {outcome : Result Outcome ConvertError}
        → ((next : Built) → ComesTo map rest next outcome → outcome_of g rest next ≡ outcome)
        → (step : Result Built ConvertError)
        → MatchResult step (λ next. ComesTo map rest next outcome) (λ e. outcome ≡ Err e)
        → (step >>= λ next. outcome_of g rest next) ≡ outcome
    then_as rest later (Ok next) is = later next is
    then_as rest later (Err e) is = cc

    comes_as : (r : Reading) (p : Built) (outcome : Result Outcome ConvertError) → ComesTo map r p outcome
        → outcome_of g r p ≡ outcome
    comes_as (ends tables) p outcome is = sym is
    comes_as (stops e) p outcome is = sym is
    comes_as (defines rest) p outcome is = comes_as rest p outcome is
    comes_as (offers item tables rest) p outcome is =
        ap (λ step. step >>= λ next. outcome_of g rest next) (sym (item_as _ _ is.1))
        ∙ then_as rest (λ next so. comes_as rest next outcome so) is.0 is.2

  pub rest_converts : (old : Progress) (answer : Built × Vec ℕ Global) (new : List (List ℕ))
      → RestComesTo map old (Ok (outcome_with answer new)) → RestConvertsTo map old answer new
  rest_converts old answer new is = record {
    answers = is;
    as_function = grind (arith, comes_as);
  }

  pub rest_refused : (old : Progress) (e : ConvertError) → (e ≡ OutOfMemory) ⊎ RestComesTo map old (Err e)
      → IsRestRefusal map old e
  rest_refused old e is = record {
    answers = is;
    as_function = grind (arith, comes_as);
  }

  -- ---- reads that are handed on

  module _ (old mid : Conversion) (before after : List (List ℕ)) where
    module _ (row : ConvertLineRow) (hands : after_definitions (still_to_read old before)
        ≡ offers row (tables_of mid after) (still_to_read mid after))
        (adds : AddsFiles old.tables.program mid.tables.program) where
      handed_first : (outcome : Result Outcome ConvertError) (step : Result Built ConvertError)
          → ItemComesTo map row mid.tables.program step
          → MatchResult step (λ next. ComesTo map (still_to_read mid after) next outcome) (λ e. outcome ≡ Err e)
          → ComesTo map (still_to_read old before) old.tables.program outcome
      handed_first outcome step item rest =
          comes_after (still_to_read old before) old.tables.program outcome
          (subst (λ r. ComesTo map r old.tables.program outcome) (sym hands)
          (step, subst (λ p. ItemComesTo map row p step) (sym (tables_are old.tables.program adds)) item, rest))

      pub fed_next : (new : Conversion) (outcome : Result Outcome ConvertError)
          → ItemComesTo map row mid.tables.program (Ok new.tables.program) → new ≡ with_program new.tables.program mid
          → without_items new.tables.program ≡ without_items mid.tables.program
          → ComesTo map (still_to_read new after) new.tables.program outcome
          → ComesTo map (still_to_read old before) old.tables.program outcome
      fed_next new outcome item kept items rest =
          handed_first outcome (Ok new.tables.program) item
          (subst (λ (r : Reading). ComesTo map r new.tables.program outcome) (same_left mid after kept items) rest)

      pub fed_fewer : (new : Conversion) → new ≡ with_program new.tables.program mid
          → without_items new.tables.program ≡ without_items mid.tables.program
          → offer_count (still_to_read new after) < offer_count (still_to_read old before)
      fed_fewer new kept items =
          subst (λ (r : Reading). offer_count r < offer_count (still_to_read old before))
          (sym (same_left mid after kept items))
          (one_fewer (still_to_read old before) (still_to_read mid after) row (tables_of mid after) hands)

      pub feed_refused : (e : ConvertError) → (e ≡ OutOfMemory) ⊎ ItemComesTo map row mid.tables.program (Err e)
          → (e ≡ OutOfMemory) ⊎ ComesTo map (still_to_read old before) old.tables.program (Err e)
      feed_refused e = refused_then e (λ item. handed_first (Err e) _ item refl)

    pub read_refused : (e : ConvertError) → IsReadRefusal (still_to_read old before) e
        → (e ≡ OutOfMemory) ⊎ ComesTo map (still_to_read old before) old.tables.program (Err e)
    read_refused e (inl is) =
        inr (comes_after (still_to_read old before) old.tables.program (Err e)
        (subst (λ r. ComesTo map r old.tables.program (Err e)) (sym is) refl))
    read_refused e (inr memory) = inl memory.0

    module _ (end : after_definitions (still_to_read old before) ≡ ends (tables_of mid after))
        (adds : AddsFiles old.tables.program mid.tables.program) where
      last : {unended : Bool} → mid.tables.program.in_sequence ≡ unended
          → outcome_at_end (tables_of mid after) old.tables.program ≡ (if unended then Err MissingLineEndSequence
          else Ok (record { program = mid.tables.program; file_ids = mid.tables.file_ids; line_strings = after }))
      last {unended} is =
          ap (λ b.
          let r : Result Outcome ConvertError = if b then Err MissingLineEndSequence
          else Ok (record {
            program = with_tables (tables_of mid after) old.tables.program;
            file_ids = mid.tables.file_ids;
            line_strings = after;
          }) in
          r) (sym (ap (λ p. p.in_sequence) adds) ∙ is) ∙ ap (λ p.
          let r : Result Outcome ConvertError = if unended then Err MissingLineEndSequence
          else Ok (record { program = p; file_ids = mid.tables.file_ids; line_strings = after }) in
          r) (tables_are old.tables.program adds)

      comes_last : {outcome : Result Outcome ConvertError}
          → outcome ≡ outcome_at_end (tables_of mid after) old.tables.program
          → ComesTo map (still_to_read old before) old.tables.program outcome
      comes_last {outcome} is =
          comes_after (still_to_read old before) old.tables.program outcome
          (subst (λ r. ComesTo map r old.tables.program outcome) (sym end) is)

      pub left_open : mid.tables.program.in_sequence ≡ true
          → ComesTo map (still_to_read old before) old.tables.program (Err MissingLineEndSequence)
      left_open is = comes_last (sym (last is))

      pub converted_all : mid.tables.program.in_sequence ≡ false
          → ComesTo map (still_to_read old before) old.tables.program
          (Ok (record { program = mid.tables.program; file_ids = mid.tables.file_ids; line_strings = after }))
      converted_all is = comes_last (sym (last is))

  -- ---- a whole conversion

  module _ (s : ToConvert) (line_strings : List (List ℕ)) where
    pub header_refused : (e : ConvertError) → IsRefusedBy (tables_of_header s.sections s.header s.given line_strings) e
        → IsConvertRefusal map s line_strings e
    header_refused e (inl memory) = record { answers = inl memory; as_function = λ g says. inl memory }
    header_refused e (inr is) = record {
      answers = inr (stops e, rw is refl);
      as_function = λ g says. inr (stops e, rw is refl);
    }

    module _ (first : TablesAndTexts) (reading : Reading)
        (is : tables_of_header s.sections s.header s.given line_strings ≡ Ok first)
        (reads : ReadsItems s.layout s.sections s.header first s.header.program reading) where
      pub all_converted : (g : ℕ → Option Address) (outcome : Result Outcome ConvertError)
          → outcome_of g reading first.program ≡ outcome → IsConverted g s line_strings outcome
      all_converted g outcome comes = (reading, rw is (reads, comes))

      pub all_comes : (outcome : Result Outcome ConvertError) → ComesTo map reading first.program outcome
          → SourceComesTo map s line_strings outcome
      all_comes outcome comes = (reading, rw is (reads, comes))

      pub rows_refused : (e : ConvertError) → (e ≡ OutOfMemory) ⊎ ComesTo map reading first.program (Err e)
          → ((g : ℕ → Option Address) → AnswersAs map g → IsRefusedBy (outcome_of g reading first.program) e)
          → IsConvertRefusal map s line_strings e
      rows_refused e answers as_function = record {
        answers = refused_then e (all_comes (Err e)) answers;
        as_function = λ g says. refused_then e (all_converted g (Err e)) (as_function g says);
      }
