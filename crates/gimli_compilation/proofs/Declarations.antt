-- Reading a table of declarations, one by one.
use Rattle.std.proofs.Common.{◌≡◌, ◌≢◌, ℕ, ◌<◌, Bool, true, false, if◌then◌else◌, List, ◌∷◌, length, Option, Some, None}
use Rattle.std.proofs.Common.{Ok, Err, refl, sym, ap, ◌∙◌}
use Rattle.std.specs.Prelude.{nat_eq}
use Rattle.std.proofs.lemmas.Bool.{ne_eqb}
use Rattle.gimli_core.specs.Reading.{Read, ◌>>=◌, byte_at, unsigned_at}
use Rattle.gimli_core.specs.Production.{Production, choose}
use Rattle.gimli_core.specs.declared.error.Error.{Error}
use Rattle.gimli_compilation.specs.declared.abbreviation.Specification.{Specification}
use Rattle.gimli_compilation.specs.Abbreviation.{Declaration, declaration_production, declared_production, ends_search}
use Rattle.gimli_compilation.specs.Abbreviation.{until_at, specifications_production, abbreviation_production}
use Rattle.gimli_compilation.specs.inside.AbbreviationReading.{specifications_passed, listed}
use Rattle.gimli_compilation.proofs.Until.{shrinks, until_more, until_last, until_refused}
use Rattle.gimli_compilation.proofs.AbbreviationLaws.{reads_declaration, declaration_takes}
use Rattle.gimli_compilation.proofs.Specifications.{passed_listed, passed_fault}

-- ---- a declaration

module _ (bytes second third : List ℕ) (tag children : ℕ) (first : (Ok tag, second) ≡ unsigned_at bytes)
    (next : (Ok children, third) ≡ byte_at second) where
  after_code : declared_production.read bytes ≡ specifications_production.read third
  unfolding declared_production
  after_code = rw (← first, ← next) refl

  pub declared_done : (left : List ℕ) → (Ok tt, left) ≡ specifications_passed third
      → (Ok (listed third), left) ≡ declared_production.read bytes
  declared_done left e = sym (after_code ∙ passed_listed third left e)

  pub declared_fault : (e : Error) (left : List ℕ) → (Err e, left) ≡ specifications_passed third
      → (Err e, left) ≡ declared_production.read bytes
  declared_fault e left is = sym (after_code ∙ passed_fault third e left is)

read_else : {A : Type 0} (test : Bool) (l m : Production A) (bytes : List ℕ) → test ≡ false
    → (choose test l m).read bytes ≡ m.read bytes
read_else true l m bytes is = absurd cc
read_else false l m bytes is = refl

module _ (bytes second : List ℕ) (code : ℕ) (first : (Ok code, second) ≡ unsigned_at bytes) (some : code ≢ 0) where
  pub declaration_done : (specifications : List Specification) (left : List ℕ)
      → (Ok specifications, left) ≡ declared_production.read second
      → (Ok (code, specifications), left) ≡ declaration_production.read bytes
  unfolding declaration_production
  declaration_done specifications left read = rw (← first, read_else _ _ _ second (ne_eqb code 0 some), ← read) refl

  pub declaration_fault : (e : Error) (left : List ℕ) → (Err e, left) ≡ declared_production.read second
      → (Err e, left) ≡ declaration_production.read bytes
  unfolding declaration_production
  declaration_fault e left is = rw (← first, read_else _ _ _ second (ne_eqb code 0 some), ← is) refl

pub declaration_smaller : (bytes : List ℕ) (d : Declaration) (left : List ℕ)
    → (Ok d, left) ≡ declaration_production.read bytes
    → length left < length bytes
declaration_smaller bytes d left read =
    shrinks declaration_production reads_declaration declaration_takes bytes d left (sym read)

-- ---- the search for a code

-- what a search found
abbrev answer : Read (List Declaration × Declaration) → Read (Option (List Specification))
answer r = r >>= λ found rest. (Ok (if nat_eq found.1.0 0 then None else Some found.1.1), rest)

answer_put : (d : Declaration) (r : Read (List Declaration × Declaration))
    → answer (r >>= λ v left. (let t : Read (List Declaration × Declaration) = (Ok (d ∷ v.0, v.1), left) in t))
    ≡ answer r
answer_put d (Ok v, rest) = refl
answer_put d (Err e, rest) = refl

module _ (code : ℕ) (bytes left : List ℕ) where
  pub search_refused : (e : Error) → (Err e, left) ≡ declaration_production.read bytes
      → (abbreviation_production code).read bytes ≡ (Err e, left)
  unfolding abbreviation_production
  search_refused e is =
      ap answer (until_refused (ends_search code) declaration_production reads_declaration
      declaration_takes bytes e left (sym is))

  module _ (d : Declaration) (read : (Ok d, left) ≡ declaration_production.read bytes) where
    pub search_last : ends_search code d ≡ true
        → (abbreviation_production code).read bytes ≡ (Ok (if nat_eq d.0 0 then None else Some d.1), left)
    unfolding abbreviation_production
    search_last is =
        ap answer (until_last (ends_search code) declaration_production reads_declaration
        declaration_takes bytes d left (sym read) is)

    pub search_more : ends_search code d ≡ false
        → (abbreviation_production code).read bytes ≡ (abbreviation_production code).read left
    unfolding abbreviation_production
    search_more is =
        ap answer (until_more (ends_search code) declaration_production reads_declaration
        declaration_takes bytes d left (sym read) is)
        ∙ answer_put d (until_at (ends_search code) declaration_production.read left)
