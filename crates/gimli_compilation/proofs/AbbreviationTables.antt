-- A table of declarations, as far as it was read.
use Rattle.std.proofs.Common.{◌≡◌, ◌≢◌, ℕ, ◌<◌, Bool, true, false, if◌then◌else◌, List, [], Option, Some, None, Result}
use Rattle.std.proofs.Common.{Ok, Err, refl, sym, ap, ◌∙◌, arith}
use Rattle.std.specs.Prelude.{IfSome, nat_eq}
use Rattle.std.proofs.lemmas.Bool.{ne_eqb}
use Rattle.std.specs.BTreeMap.{BTreeMap, get}
use Rattle.std.specs.Ordering.{nat_cmp}
use Rattle.gimli_core.specs.Reading.{Read, split_at}
use Rattle.gimli_core.specs.declared.error.Error.{Error}
use Rattle.gimli_compilation.specs.declared.abbreviation.Abbreviations.{Abbreviations}
use Rattle.gimli_compilation.specs.declared.abbreviation.Specification.{Specification}
use Rattle.gimli_compilation.specs.Abbreviation.{Declaration, ends_search, declaration_production}
use Rattle.gimli_compilation.specs.Abbreviation.{abbreviation_production}
use Rattle.gimli_compilation.specs.Unit.{table_production}
use Rattle.gimli_compilation.specs.Directories.{directory_in, first_of}
use Rattle.gimli_compilation.specs.inside.AbbreviationReading.{IsListed, listed}
use Rattle.gimli_compilation.specs.inside.AbbreviationTable.{answer_to, IsTable, size_left}
use Rattle.gimli_compilation.proofs.Declarations.{declaration_smaller, search_refused, search_last, search_more}
use Rattle.gimli_core.specs.Layout.{Seen}

abbrev Answer : Type 0
Answer = Read (Option (List Specification))

module _ {R : Type 0} (seen : R → Seen) where
  -- ---- one answer

  module _ (code : ℕ) (input : R) where
    more_answers : (kept : Option R) (declared : ℕ) (part rest : R) → declared ≢ 0
        → (Ok (declared, listed (seen part).bytes), (seen rest).bytes) ≡ declaration_production.read (seen input).bytes
        → answer_to seen code (first_of kept (directory_in code (Some (declared, part)))) (Ok (Some rest))
        ≡ answer_to seen code kept (Ok (Some input))
    more_answers (Some found) declared part rest some read = refl
    more_answers None declared part rest some read = at_test (nat_eq declared code) refl
      where
        at_test : (test : Bool) → nat_eq declared code ≡ test
            → answer_to seen code (if test then Some part else None) (Ok (Some rest))
            ≡ ((abbreviation_production code).read (seen input).bytes).0
        at_test true is =
            let last : ends_search code (declared, listed (seen part).bytes) ≡ true = rw (ne_eqb declared 0 some) is in
            rw (
              search_last code (seen input).bytes (seen rest).bytes (declared, listed (seen part).bytes) read last,
              ne_eqb declared 0 some,
            )
            refl
        at_test false is =
            let more : ends_search code (declared, listed (seen part).bytes) ≡ false = rw (ne_eqb declared 0 some) is in
            rw (search_more code (seen input).bytes (seen rest).bytes (declared, listed (seen part).bytes) read more)
            refl

    end_answers : (kept : Option R) (left : List ℕ)
        → (Ok (0, []), left) ≡ declaration_production.read (seen input).bytes
        → answer_to seen code kept (Ok None) ≡ answer_to seen code kept (Ok (Some input))
    end_answers (Some found) left read = refl
    end_answers None left read =
        sym (ap (λ (r : Answer). r.0) (search_last code (seen input).bytes left (0, []) read refl))

    refusal_answers : (kept : Option R) (e : Error) (left : List ℕ)
        → (Err e, left) ≡ declaration_production.read (seen input).bytes
        → answer_to seen code kept (Err e) ≡ answer_to seen code kept (Ok (Some input))
    refusal_answers (Some found) e left is = refl
    refusal_answers None e left is = sym (ap (λ (r : Answer). r.0) (search_refused code (seen input).bytes left e is))

  first_whole : (code declared : ℕ) (kept : Option R) (part : R) → IsListed (seen part).bytes
      → IfSome kept (λ found. IsListed (seen found).bytes)
      → IfSome (first_of kept (directory_in code (Some (declared, part)))) (λ found. IsListed (seen found).bytes)
  first_whole code declared (Some found) part whole before = before
  first_whole code declared None part whole before = at_test (nat_eq declared code)
    where
      at_test : (test : Bool) → IfSome (if test then Some part else None) (λ found. IsListed (seen found).bytes)
      at_test true = whole
      at_test false = tt

  -- ---- the table

  -- of which nothing was read
  module _ (section : List ℕ) (offset : ℕ) (kept : BTreeMap ℕ R) (none : kept.entries ≡ []) where
    pub table_new : (part : List ℕ) (rest : R) → (Ok part, (seen rest).bytes) ≡ split_at offset section
        → IsTable seen section
        (record { offset = offset; is_asked = false; specifications = kept; next = Ok (Some rest) })
    unfolding table_production
    table_new part rest read = record { answers = λ code. rw (none, ← read) refl; whole = λ code. rw none tt }

    pub table_outside : (e : Error) (left : List ℕ) → (Err e, left) ≡ split_at offset section
        → IsTable seen section
        (record { offset = offset; is_asked = false; specifications = kept; next = Err e })
    unfolding table_production
    table_outside e left read = record { answers = λ code. rw (none, ← read) refl; whole = λ code. rw none tt }

  -- of which one more declaration was read
  module _ (section : List ℕ) (table : Abbreviations R) (input : R) (goes_on : table.next ≡ Ok (Some input)) where
    abbrev Same : BTreeMap ℕ R → Result (Option R) Error → Type 0
    Same kept next = (code : ℕ)
        → answer_to seen code (get nat_cmp kept code) next
        ≡ answer_to seen code (get nat_cmp table.specifications code) (Ok (Some input))

    next_answers : (kept : BTreeMap ℕ R) (next : Result (Option R) Error) → Same kept next → IsTable seen section table
        → (code : ℕ)
        → answer_to seen code (get nat_cmp kept code) next ≡ ((table_production table.offset code).read section).0
    next_answers kept next same is code =
        same code
        ∙ ap (λ (n : Result (Option R) Error). answer_to seen code (get nat_cmp table.specifications code) n)
        (sym goes_on)
        ∙ is.answers code

    pub table_more : (kept : BTreeMap ℕ R) (declared : ℕ) (part rest : R) → (declared ≢ 0) × IsListed (seen part).bytes
        → (Ok (declared, listed (seen part).bytes), (seen rest).bytes) ≡ declaration_production.read (seen input).bytes
        → ((code : ℕ)
        → get nat_cmp kept code
        ≡ first_of (get nat_cmp table.specifications code) (directory_in code (Some (declared, part))))
        → IsTable seen section table
        → IsTable seen section (record table { specifications = kept; next = Ok (Some rest) })
    table_more kept declared part rest known read keeps is = record {
      answers =
          next_answers kept (Ok (Some rest))
          (λ code. rw (keeps code) (more_answers code input _ declared part rest known.0 read)) is;
      whole = λ code. rw (keeps code) (first_whole code declared _ part known.1 (is.whole code));
    }

    pub table_end : (left : List ℕ) → (Ok (0, []), left) ≡ declaration_production.read (seen input).bytes
        → IsTable seen section table
        → IsTable seen section (record table { next = Ok None })
    table_end left read is = record {
      answers = next_answers table.specifications (Ok None) (λ code. end_answers code input _ left read) is;
      whole = is.whole;
    }

    pub table_refused : (e : Error) (left : List ℕ) → (Err e, left) ≡ declaration_production.read (seen input).bytes
        → IsTable seen section table
        → IsTable seen section (record table { next = Err e })
    table_refused e left read is = record {
      answers = next_answers table.specifications (Err e) (λ code. refusal_answers code input _ e left read) is;
      whole = is.whole;
    }

  -- the same one, which was asked
  pub table_asked : (section : List ℕ) (table : Abbreviations R) (is_asked : Bool) → IsTable seen section table
      → IsTable seen section (record table { is_asked = is_asked })
  table_asked section table is_asked is = record { answers = is.answers; whole = is.whole }

  pub smaller_more : (next : Result (Option R) Error) (input rest : R) (d : Declaration) → next ≡ Ok (Some input)
      → (Ok d, (seen rest).bytes) ≡ declaration_production.read (seen input).bytes
      → size_left seen (Ok (Some rest)) < size_left seen next
  smaller_more next input rest d is read =
      let less = declaration_smaller (seen input).bytes d (seen rest).bytes read in rw is (omega arith)

  pub smaller_end : (next : Result (Option R) Error) (input : R) → next ≡ Ok (Some input) → 0 < size_left seen next
  smaller_end next input is = rw is (omega arith)
