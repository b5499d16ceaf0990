-- Declarations of `.debug_abbrev` (DWARF 5, section 7.5.3).
use Rattle.std.specs.Prelude.{◌≡◌, ℕ, zero, suc, List, [], ◌∷◌, ◌++◌, length, Bool, ◌&&◌, ◌||◌}
use Rattle.std.specs.Prelude.{nat_eq, if◌then◌else◌, IsTrue, IsFalse, Option, Some, None, Ok, Err}
use Rattle.gimli_core.specs.Production.{Production, ◌>>=◌, ◌>>◌, done, choose, byte, unsigned}
use Rattle.gimli_core.specs.Production.{unsigned_16, signed, Each}
use Rattle.gimli_core.specs.Reading.{Read, ◌>>=◌ as ◌>=>◌, eof}
use Rattle.gimli_compilation.specs.DwarfNumbers.{DW_FORM_implicit_const}
use Rattle.gimli_compilation.specs.declared.abbreviation.Specification.{Specification}

-- fewer than so many values before the one that ends them
unfoldable pub until_below : {A : Type 0} → ℕ → (A → Bool) → (List ℕ → Read A) → List ℕ
    → Read (List A × A)
until_below zero ends read bytes = (Err (eof bytes), bytes)
until_below (suc more) ends read bytes =
    read bytes >=> λ x rest.
    if ends x then (Ok ([], x), rest)
    else (until_below more ends read rest >=> λ values left. (Ok (x ∷ values.0, values.1), left))

-- the values up to the one that ends them; they aren't more than the bytes
abbrev pub until_at : {A : Type 0} → (A → Bool) → (List ℕ → Read A) → List ℕ → Read (List A × A)
until_at ends read bytes = until_below (suc (length bytes)) ends read bytes

-- values one after the other up to the first that ends them, which comes last: those before it, and
-- that one
abbrev pub until : {A : Type 0} → (A → Bool) → Production A → Production (List A × A)
until ends l =
    let GoesOn : List ℕ → _ → Type 0 = λ bytes x. l.Spells bytes x × IsFalse (ends x) in
    record {
      Spells = λ bytes values.
          (front : List ℕ) × (last : List ℕ) × (bytes ≡ front ++ last) × Each GoesOn front values.0
          × l.Spells last values.1 × IsTrue (ends values.1);
      Fault = λ bytes e.
          (values : List _) × (front : List ℕ) × (rest : List ℕ) × (bytes ≡ front ++ rest)
          × Each GoesOn front values × l.Fault rest e;
      read = until_at ends l.read;
    }

-- a number that stands in the declaration, in DW_FORM_implicit_const alone
abbrev pub constant_production : ℕ → Production (Unit {0})
constant_production form = choose (nat_eq form DW_FORM_implicit_const) (do
  signed
  done tt) (done tt)

-- the name and the form of an attribute
unfoldable pub specification_production : Production Specification
specification_production = do
  name ← unsigned_16
  form ← unsigned_16
  constant_production form
  done (record { name = record { 0 = name }; form = record { 0 = form } })

-- the pair of zeros that ends a declaration
abbrev pub is_end : Specification → Bool
is_end specification = nat_eq specification.name.0 0 && nat_eq specification.form.0 0

-- the specifications of a declaration, ended by a pair of zeros
unfoldable pub specifications_production : Production (List Specification)
specifications_production = do
  values ← until is_end specification_production
  done values.0

-- a declaration after its code: a tag, whether its entries have children, and the specifications of
-- its attributes
unfoldable pub declared_production : Production (List Specification)
declared_production = do
  tag ← unsigned
  children ← byte
  specifications_production

-- the code of a declaration, and its specifications
abbrev pub Declaration : Type 0
Declaration = ℕ × List Specification

-- a declaration by its code; after a code of 0, which ends a table, nothing comes
unfoldable pub declaration_production : Production Declaration
declaration_production = do
  code ← unsigned
  choose (nat_eq code 0) (done (code, [])) (do
    specifications ← declared_production
    done (code, specifications))

-- a declaration that ends the search for a code: the one of that code, or the end of the table
abbrev pub ends_search : ℕ → Declaration → Bool
ends_search code declaration = nat_eq declaration.0 0 || nat_eq declaration.0 code

-- the specifications of the first declaration of a code, whatever the order of the codes is; None
-- where the table ends before one. No declaration has the code 0
unfoldable pub abbreviation_production : ℕ → Production (Option (List Specification))
abbreviation_production code = do
  found ← until (ends_search code) declaration_production
  done (if nat_eq found.1.0 0 then None else Some found.1.1)
