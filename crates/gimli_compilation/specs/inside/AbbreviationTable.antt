-- A table of declarations, as far as it was read.
use Rattle.std.specs.Prelude.{◌≡◌, ℕ, suc, List, length, Option, Some, None, Result, Ok, Err}
use Rattle.std.specs.Prelude.{IfSome}
use Rattle.std.specs.BTreeMap.{get}
use Rattle.std.specs.Ordering.{nat_cmp}
use Rattle.gimli_core.specs.declared.error.Error.{Error}
use Rattle.gimli_compilation.specs.declared.abbreviation.Abbreviations.{Abbreviations}
use Rattle.gimli_compilation.specs.declared.abbreviation.Specification.{Specification}
use Rattle.gimli_compilation.specs.declared.abbreviation.Tables.{Tables}
use Rattle.gimli_compilation.specs.Abbreviation.{abbreviation_production}
use Rattle.gimli_compilation.specs.Unit.{table_production}
use Rattle.gimli_compilation.specs.inside.AbbreviationReading.{IsListed, listed}
use Rattle.gimli_core.specs.Layout.{Seen}

module _ {R : Type 0} (seen : R → Seen) where
  -- the answer to a code: what is kept of it, else what comes where reading goes on
  abbrev pub answer_to : ℕ → Option R → Result (Option R) Error
      → Result (Option (List Specification)) Error
  answer_to code (Some part) next = Ok (Some (listed (seen part).bytes))
  answer_to code None (Ok (Some rest)) = ((abbreviation_production code).read (seen rest).bytes).0
  answer_to code None (Ok None) = Ok None
  answer_to code None (Err e) = Err e

  -- the table at its offset: it gives each answer, and all that is kept was read whole
  pub record IsTable (section : List ℕ) (table : Abbreviations R) : Type 0 where
    pub answers : (code : ℕ)
        → answer_to code (get nat_cmp table.specifications code) table.next
        ≡ ((table_production table.offset code).read section).0
    pub whole : (code : ℕ)
        → IfSome (get nat_cmp table.specifications code) (λ part. IsListed (seen part).bytes)

  -- the tables at their offsets
  pub record AreTables (section : List ℕ) (tables : Tables R) : Type 0 where
    pub last : IsTable section tables.last
    pub others : (place : ℕ) → IfSome (get nat_cmp tables.others place) (IsTable section)
    pub places : (place : ℕ)
        → IfSome (get nat_cmp tables.others place) (λ table. table.offset ≡ place)

  -- how much may still be read
  abbrev pub size_left : Result (Option R) Error → ℕ
  size_left (Ok (Some rest)) = suc (length (seen rest).bytes)
  size_left (Ok None) = 0
  size_left (Err e) = 0
