-- Passing over the specifications of a declaration, one by one.
use Rattle.std.proofs.Common.{◌≡◌, ℕ, ◌<◌, true, false, List, [], ◌∷◌, length, Ok, Err, refl, sym, ap, ◌∙◌}
use Rattle.gimli_core.specs.Reading.{Read, ◌>>=◌}
use Rattle.gimli_core.specs.declared.error.Error.{Error}
use Rattle.gimli_compilation.specs.declared.abbreviation.Specification.{Specification}
use Rattle.gimli_compilation.specs.Abbreviation.{is_end, specification_production, specifications_production, until_at}
use Rattle.gimli_compilation.specs.inside.AbbreviationReading.{passed_of, specifications_passed, list_of, listed}
use Rattle.gimli_compilation.specs.inside.AbbreviationReading.{IsListed}
use Rattle.gimli_compilation.proofs.Until.{shrinks, until_more, until_last, until_refused}
use Rattle.gimli_compilation.proofs.AbbreviationLaws.{reads_specification, specification_takes}

abbrev Values : Type 0
Values = List Specification × Specification

-- one more specification in front
abbrev pub put_first : Specification → Read (List Specification) → Read (List Specification)
put_first s r = r >>= λ xs rest. (Ok (s ∷ xs), rest)

first_put : (s : Specification) (r : Read Values)
    → ((r >>= λ v left. (let t : Read Values = (Ok (s ∷ v.0, v.1), left) in t)) >>= λ v rest.
    (let t : Read (List Specification) = (Ok v.0, rest) in t))
    ≡ put_first s (r >>= λ v rest. (let t : Read (List Specification) = (Ok v.0, rest) in t))
first_put s (Ok v, rest) = refl
first_put s (Err e, rest) = refl

module _ (bytes : List ℕ) (s : Specification) (left : List ℕ)
    (read : (Ok s, left) ≡ specification_production.read bytes) where
  pub specification_smaller : length left < length bytes
  specification_smaller =
      shrinks specification_production reads_specification specification_takes bytes s left (sym read)

  pub specifications_more : is_end s ≡ false
      → specifications_production.read bytes ≡ put_first s (specifications_production.read left)
  unfolding specifications_production
  specifications_more is =
      rw (until_more is_end specification_production reads_specification specification_takes bytes s
      left (sym read) is)
      (first_put s (until_at is_end specification_production.read left))

  pub specifications_last : is_end s ≡ true → specifications_production.read bytes ≡ (Ok [], left)
  unfolding specifications_production
  specifications_last is =
      rw
      (until_last is_end specification_production reads_specification specification_takes bytes s left
      (sym read) is)
      refl

pub specifications_refused : (bytes : List ℕ) (e : Error) (left : List ℕ)
    → (Err e, left) ≡ specification_production.read bytes
    → specifications_production.read bytes ≡ (Err e, left)
unfolding specifications_production
specifications_refused bytes e left is =
    rw
    (until_refused is_end specification_production reads_specification specification_takes bytes e left
    (sym is))
    refl

-- ---- where nothing is kept

passed_put : (s : Specification) (r : Read (List Specification)) → passed_of (put_first s r) ≡ passed_of r
passed_put s (Ok xs, rest) = refl
passed_put s (Err e, rest) = refl

pub passed_more : (bytes : List ℕ) (s : Specification) (left : List ℕ)
    → (Ok s, left) ≡ specification_production.read bytes
    → is_end s ≡ false
    → specifications_passed bytes ≡ specifications_passed left
passed_more bytes s left read is =
    ap passed_of (specifications_more bytes s left read is) ∙ passed_put s (specifications_production.read left)

pub passed_last : (bytes : List ℕ) (s : Specification) (left : List ℕ)
    → (Ok s, left) ≡ specification_production.read bytes
    → is_end s ≡ true
    → specifications_passed bytes ≡ (Ok tt, left)
passed_last bytes s left read is = ap passed_of (specifications_last bytes s left read is)

pub passed_refused : (bytes : List ℕ) (e : Error) (left : List ℕ) → (Err e, left) ≡ specification_production.read bytes
    → specifications_passed bytes ≡ (Err e, left)
passed_refused bytes e left is = ap passed_of (specifications_refused bytes e left is)

-- ---- what was passed over

listed_of : {A : Type 0} (r : Read (List A)) (left : List ℕ) → (Ok tt, left) ≡ passed_of r → r ≡ (Ok (list_of r), left)
listed_of {A} (Ok xs, rest) left e = ap (λ (p : Read (Unit {0})). let s : Read (List A) = (Ok xs, p.1) in s) (sym e)
listed_of (Err e, rest) left is = let p = ap (λ (s : Read (Unit {0})). s.0) is in absurd cc

refused_of : {A : Type 0} (r : Read (List A)) (e : Error) (left : List ℕ) → (Err e, left) ≡ passed_of r
    → r ≡ (Err e, left)
refused_of (Ok xs, rest) e left is = let p = ap (λ (s : Read (Unit {0})). s.0) is in absurd cc
refused_of {A} (Err d, rest) e left is =
    let p = ap (λ (s : Read (Unit {0})). s.0) is in
    let same : d ≡ e = cc in
    ap (λ (x : Error). let s : Read (List A) = (Err x, rest) in s) same
    ∙ ap (λ (s : Read (Unit {0})). let t : Read (List A) = (Err e, s.1) in t) (sym is)

pub passed_listed : (bytes left : List ℕ) → (Ok tt, left) ≡ specifications_passed bytes
    → specifications_production.read bytes ≡ (Ok (listed bytes), left)
passed_listed bytes left e = listed_of (specifications_production.read bytes) left e

pub passed_is_listed : (bytes left : List ℕ) → (Ok tt, left) ≡ specifications_passed bytes → IsListed bytes
passed_is_listed bytes left e = record {
  specifications = listed bytes;
  rest = left;
  parts = passed_listed bytes left e;
}

pub passed_fault : (bytes : List ℕ) (e : Error) (left : List ℕ) → (Err e, left) ≡ specifications_passed bytes
    → specifications_production.read bytes ≡ (Err e, left)
passed_fault bytes e left is = refused_of (specifications_production.read bytes) e left is

-- ---- a list that was closed, read once more

put_listed : (s : Specification) (r : Read (List Specification)) (xs : List Specification) (rest : List ℕ)
    → put_first s r ≡ (Ok xs, rest)
    → (ys : List Specification) × (end : List ℕ) × (r ≡ (Ok ys, end))
put_listed s (Ok ys, end) xs rest e = (ys, end, refl)
put_listed s (Err d, end) xs rest e = let p = ap (λ (t : Read (List Specification)). t.0) e in absurd cc

list_put : (s : Specification) (r : Read (List Specification)) (ys : List Specification) (end : List ℕ)
    → r ≡ (Ok ys, end)
    → list_of (put_first s r) ≡ s ∷ list_of r
list_put s r ys end is = rw is refl

module _ (bytes : List ℕ) (s : Specification) (left : List ℕ) (closed : IsListed bytes)
    (read : (Ok s, left) ≡ specification_production.read bytes) where
  pub still_listed : is_end s ≡ false → IsListed left
  still_listed is =
      let p =
      put_listed s (specifications_production.read left) closed.specifications closed.rest
      (sym (specifications_more bytes s left read is) ∙ closed.parts) in
      record { specifications = p.0; rest = p.1; parts = p.2 }

  pub listed_more : is_end s ≡ false → listed bytes ≡ s ∷ listed left
  listed_more is =
      let more = still_listed is in
      ap list_of (specifications_more bytes s left read is)
      ∙ list_put s (specifications_production.read left) more.specifications more.rest more.parts

pub listed_last : (bytes : List ℕ) (s : Specification) (left : List ℕ)
    → (Ok s, left) ≡ specification_production.read bytes
    → is_end s ≡ true → listed bytes ≡ []
listed_last bytes s left read is = ap list_of (specifications_last bytes s left read is)

pub never_refused : (bytes : List ℕ) (e : Error) (left : List ℕ) → IsListed bytes
    → (Err e, left) ≡ specification_production.read bytes → ⊥
never_refused bytes e left closed is =
    let p =
    ap (λ (t : Read (List Specification)). t.0) (sym closed.parts ∙ specifications_refused bytes e left is) in
    absurd cc
