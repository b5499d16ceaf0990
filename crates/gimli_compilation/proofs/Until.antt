-- Reading values up to the one that ends them.
use Rattle.std.proofs.Common.{◌≡◌, ℕ, zero, suc, ◌<◌, Bool, true, false, if◌then◌else◌, List, [], ◌∷◌, ◌++◌, length, Ok}
use Rattle.std.proofs.Common.{Err, refl, sym, ap, subst, ◌∙◌, append_assoc, inl, inr, arith, IsTrue, IsFalse}
use Rattle.std.proofs.lemmas.List.{length-append}
use Rattle.gimli_core.specs.declared.error.Error.{Error}
use Rattle.gimli_core.specs.Reading.{Read, ◌>>=◌}
use Rattle.gimli_core.specs.Production.{Production, ◌>>=◌ as ◌>>>◌, Each, Reads}
use Rattle.gimli_core.proofs.Productions.{bind_ok, bind_fault, bind_refused, ok_parts}
use Rattle.gimli_compilation.specs.Abbreviation.{until, until_below, until_at}

-- ---- productions that take bytes

-- no bytes spell nothing
pub record TakesBytes {A : Type 0} (l : Production A) : Type 0 where
  pub none : (x : A) → l.Spells [] x → ⊥

-- both parts of no bytes are none
nil_front : (front rest : List ℕ) → [] ≡ front ++ rest → front ≡ []
nil_front [] rest is = refl
nil_front (b ∷ front) rest is = absurd cc

pub takes_both : {A B : Type 0} (l : Production A) (next : A → Production B) → TakesBytes l → TakesBytes (l >>> next)
takes_both l next takes = record {
  none = λ y s. takes.none s.0 (subst (λ (front : List ℕ). l.Spells front s.0) (nil_front s.1 s.2 s.3) s.4);
}

longer : {A : Type 0} (l : Production A) (x : A) (front rest bytes : List ℕ) → TakesBytes l → bytes ≡ front ++ rest
    → l.Spells front x
    → length rest < length bytes
longer l x [] rest bytes takes whole s = absurd (takes.none x s)
longer l x (b ∷ front) rest bytes takes whole s = omega (arith, ap length whole, length-append (b ∷ front) rest)

pub shrinks : {A : Type 0} (l : Production A) → Reads l → TakesBytes l
    → (bytes : List ℕ) (x : A) (rest : List ℕ)
    → l.read bytes ≡ (Ok x, rest) → length rest < length bytes
shrinks l r takes bytes x rest e = let f = r.found bytes x rest e in longer l x f.0 rest bytes takes f.1 f.2

-- ---- values up to the one that ends them

module _ {A : Type 0} (ends : A → Bool) (l : Production A) (r : Reads l) (takes : TakesBytes l) where
  abbrev pub read : List ℕ → Read A
  read = l.read

  abbrev Values : Type 0
  Values = List A × A

  -- one more value in front
  abbrev pub put : A → Read Values → Read Values
  put x values = values >>= λ v left. (Ok (x ∷ v.0, v.1), left)

  -- what comes after a value
  abbrev one : ℕ → A → List ℕ → Read Values
  one more x rest = if ends x then (Ok ([], x), rest) else put x (until_below more ends read rest)

  step_same : (n m : ℕ) (x : A) (rest : List ℕ) → until_below n ends read rest ≡ until_below m ends read rest
      → one n x rest ≡ one m x rest
  step_same n m x rest same = rw same refl

  -- a greater bound on their number changes nothing
  enough : (n m : ℕ) (bytes : List ℕ) → length bytes < n → length bytes < m
      → until_below n ends read bytes ≡ until_below m ends read bytes
  unfolding until_below
  enough zero m bytes lt also = absurd (omega arith)
  enough (suc n) zero bytes lt also = absurd (omega arith)
  enough (suc n) (suc m) bytes lt also = at_read (read bytes) refl (λ rest fewer more. enough n m rest fewer more)
    where
      at_read : (first : Read A) → read bytes ≡ first
          → ((rest : List ℕ) → length rest < n → length rest < m
          → until_below n ends read rest ≡ until_below m ends read rest)
          → until_below (suc n) ends read bytes ≡ until_below (suc m) ends read bytes
      at_read (Ok x, rest) same others =
          let fewer = shrinks l r takes bytes x rest same in
          rw same (step_same n m x rest (others rest (omega arith) (omega arith)))
      at_read (Err e, rest) same others = rw same refl

  pub until_more : (bytes : List ℕ) (x : A) (rest : List ℕ) → read bytes ≡ (Ok x, rest) → ends x ≡ false
      → until_at ends read bytes ≡ put x (until_at ends read rest)
  unfolding until_below
  until_more bytes x rest e is =
      let fewer = shrinks l r takes bytes x rest e in
      rw (e, is) (ap (put x) (enough (length bytes) (suc (length rest)) rest (omega arith) (omega arith)))

  pub until_last : (bytes : List ℕ) (x : A) (rest : List ℕ) → read bytes ≡ (Ok x, rest) → ends x ≡ true
      → until_at ends read bytes ≡ (Ok ([], x), rest)
  unfolding until_below
  until_last bytes x rest e is = rw (e, is) refl

  pub until_refused : (bytes : List ℕ) (e : Error) (rest : List ℕ) → read bytes ≡ (Err e, rest)
      → until_at ends read bytes ≡ (Err e, rest)
  unfolding until_below
  until_refused bytes e rest is = rw is refl

  -- ---- the grammar

  abbrev GoesOn : List ℕ → A → Type 0
  GoesOn bytes x = l.Spells bytes x × IsFalse (ends x)

  abbrev Found : List ℕ → Values → List ℕ → Type 0
  Found bytes values rest = (front : List ℕ) × (bytes ≡ front ++ rest) × (until ends l).Spells front values

  -- a value, and what was found after it
  one_found : (more : ℕ) (x : A) (left first : List ℕ) (values : Values) (rest : List ℕ) → l.Spells first x
      → ((v : Values) (end : List ℕ) → until_below more ends read left ≡ (Ok v, end) → Found left v end)
      → (test : Bool) → ends x ≡ test
      → (if test then (let s : Read Values = (Ok ([], x), left) in s) else put x (until_below more ends read left))
      ≡ (Ok values, rest)
      → Found (first ++ left) values rest
  one_found more x left first values rest s others true is e =
      let p = ok_parts ([], x) values left rest e in
      let here : (until ends l).Spells first ([], x) = ([], first, refl, refl, s, is) in
      (first, ap (λ (xs : List ℕ). first ++ xs) p.1, subst (λ (v : Values). (until ends l).Spells first v) p.0 here)
  one_found more x left first values rest s others false is e =
      let b =
      bind_ok (until_below more ends read left) (λ v end. (let s : Read Values = (Ok (x ∷ v.0, v.1), end) in s))
      values rest e in
      let p = ok_parts (x ∷ b.0.0, b.0.1) values b.1 rest b.3 in
      let g = others b.0 b.1 b.2 in
      let whole : first ++ left
      ≡ (first ++ g.0) ++ rest = ap (λ (xs : List ℕ). first ++ xs) (g.1 ∙ ap (λ (xs : List ℕ). g.0 ++ xs) p.1)
      ∙ sym (append_assoc first g.0 rest) in
      let parts : first ++ g.0 ≡ (first ++ g.2.0) ++ g.2.1 = ap (λ (xs : List ℕ). first ++ xs) g.2.2
      ∙ sym (append_assoc first g.2.0 g.2.1) in
      let each : Each GoesOn (first ++ g.2.0) (x ∷ b.0.0) = (first, g.2.0, refl, (s, is), g.2.3) in
      let here : (until ends l).Spells (first ++ g.0) (x ∷ b.0.0, b.0.1) =
      (first ++ g.2.0, g.2.1, parts, each, g.2.4, g.2.5) in
      (first ++ g.0, whole, subst (λ (v : Values). (until ends l).Spells (first ++ g.0) v) p.0 here)

  until_found : (more : ℕ) (bytes : List ℕ) (values : Values) (rest : List ℕ)
      → until_below more ends read bytes ≡ (Ok values, rest) → Found bytes values rest
  unfolding until_below
  until_found zero bytes values rest e = let p = ap (λ (r : Read Values). r.0) e in absurd cc
  until_found (suc more) bytes values rest e =
      let a = bind_ok (read bytes) (one more) values rest e in
      let f = r.found bytes a.0 a.1 a.2 in
      let g =
      one_found more a.0 a.1 f.0 values rest f.2 (λ v end is. until_found more a.1 v end is) (ends a.0) refl a.3 in
      (g.0, f.1 ∙ g.1, g.2)

  until_only : (xs : List A) (x : A) (front last rest : List ℕ) (more : ℕ) → length (front ++ (last ++ rest)) < more
      → Each GoesOn front xs → l.Spells last x
      → IsTrue (ends x)
      → until_below more ends read (front ++ (last ++ rest)) ≡ (Ok (xs, x), rest)
  unfolding until_below
  until_only xs x front last rest zero lt each s is = absurd (omega arith)
  until_only [] x front last rest (suc more) lt each s is = rw (each, r.only last x rest s, is) refl
  until_only (y ∷ ys) x front last rest (suc more) lt each s is =
      let regrouped : front ++ (last ++ rest)
      ≡ each.0 ++ (each.1 ++ (last ++ rest)) = ap (λ (v : List ℕ). v ++ (last ++ rest)) each.2
      ∙ append_assoc each.0 each.1 (last ++ rest) in
      let first = r.only each.0 y (each.1 ++ (last ++ rest)) each.3.0 in
      let fewer = shrinks l r takes (each.0 ++ (each.1 ++ (last ++ rest))) y (each.1 ++ (last ++ rest)) first in
      let others = until_only ys x each.1 last rest more (omega (arith, ap length regrouped)) each.4 s is in
      ap (until_below (suc more) ends read) regrouped ∙ rw (first, each.3.1, others) refl

  abbrev Faulty : List ℕ → Error → Type 0
  Faulty bytes e = (until ends l).Fault bytes e

  one_fault : (more : ℕ) (x : A) (left first : List ℕ) (e : Error) → l.Spells first x
      → ((until_below more ends read left).0 ≡ Err e → Faulty left e)
      → (test : Bool) → ends x ≡ test
      → (if test then (let s : Read Values = (Ok ([], x), left) in s) else put x (until_below more ends read left)).0
      ≡ Err e
      → Faulty (first ++ left) e
  one_fault more x left first e s others true is failed = absurd cc
  one_fault more x left first e s others false is failed =
      elim (bind_fault (until_below more ends read left)
      (λ v end. (let s : Read Values = (Ok (x ∷ v.0, v.1), end) in s)) e failed) [
        | inl p ↦
            let g = others p in
            let whole : first ++ left ≡ (first ++ g.1) ++ g.2 = ap (λ (xs : List ℕ). first ++ xs) g.3
            ∙ sym (append_assoc first g.1 g.2) in
            (x ∷ g.0, first ++ g.1, g.2, whole, (first, g.1, refl, (s, is), g.4), g.5)
        | inr b ↦ let none = b.3 in absurd cc
      ]

  until_fault : (more : ℕ) (bytes : List ℕ) (e : Error) → length bytes < more
      → (until_below more ends read bytes).0 ≡ Err e → Faulty bytes e
  unfolding until_below
  until_fault zero bytes e lt is = absurd (omega arith)
  until_fault (suc more) bytes e lt is = elim (bind_fault (read bytes) (one more) e is) [
    | inl p ↦ ([], [], bytes, refl, refl, r.fault bytes e p)
    | inr a ↦
        let f = r.found bytes a.0 a.1 a.2 in
        let fewer = shrinks l r takes bytes a.0 a.1 a.2 in
        let g =
        one_fault more a.0 a.1 f.0 e f.2 (λ failed. until_fault more a.1 e (omega arith) failed) (ends a.0) refl
        a.3 in
        (g.0, g.1, g.2, f.1 ∙ g.3, g.4, g.5)
  ]

  until_refuses : (xs : List A) (front rest : List ℕ) (e : Error) (more : ℕ) → length (front ++ rest) < more
      → Each GoesOn front xs → l.Fault rest e
      → (until_below more ends read (front ++ rest)).0 ≡ Err e
  unfolding until_below
  until_refuses xs front rest e zero lt each f = absurd (omega arith)
  until_refuses [] front rest e (suc more) lt each f =
      rw each (bind_refused (read rest) (one more) e (r.refused rest e f))
  until_refuses (y ∷ ys) front rest e (suc more) lt each f =
      let regrouped : front ++ rest ≡ each.0 ++ (each.1 ++ rest) = ap (λ (v : List ℕ). v ++ rest) each.2
      ∙ append_assoc each.0 each.1 rest in
      let first = r.only each.0 y (each.1 ++ rest) each.3.0 in
      let fewer = shrinks l r takes (each.0 ++ (each.1 ++ rest)) y (each.1 ++ rest) first in
      let others = until_refuses ys each.1 rest e more (omega (arith, ap length regrouped)) each.4 f in
      ap (λ (v : List ℕ). (until_below (suc more) ends read v).0) regrouped
      ∙ rw (first, each.3.1)
      (bind_refused (until_below more ends read (each.1 ++ rest))
      (λ v end. (let s : Read Values = (Ok (y ∷ v.0, v.1), end) in s)) e others)

  pub reads_until : Reads (until ends l)
  reads_until = record {
    found = λ bytes values rest e. until_found (suc (length bytes)) bytes values rest e;
    only = λ front values rest s.
        let whole : front ++ rest ≡ s.0 ++ (s.1 ++ rest) = ap (λ (v : List ℕ). v ++ rest) s.2
        ∙ append_assoc s.0 s.1 rest in
        ap (until_at ends read) whole
        ∙ until_only values.0 values.1 s.0 s.1 rest (suc (length (s.0 ++ (s.1 ++ rest)))) (omega arith) s.3 s.4 s.5;
    fault = λ bytes e is. until_fault (suc (length bytes)) bytes e (omega arith) is;
    refused = λ bytes e f.
        let again = until_refuses f.0 f.1 f.2 e (suc (length (f.1 ++ f.2))) (omega arith) f.4 f.5 in
        ap (λ (v : List ℕ). (until_at ends read v).0) f.3 ∙ again;
  }
