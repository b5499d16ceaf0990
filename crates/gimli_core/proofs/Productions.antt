-- Reading one production after another: what reads the productions reads what is put together of them.
use Rattle.std.proofs.Common.{◌≡◌, ℕ, zero, suc, Bool, true, false, List, [], ◌++◌, Ok, Err, refl}
use Rattle.std.proofs.Common.{sym, ap, ◌∙◌, append_assoc, ◌⊎◌, inl, inr}
use Rattle.gimli_core.specs
use specs.declared.error.Error.{Error}
use specs.Reading.{Read, ◌>>=◌, with_rest}
use specs.Production.{Production, ◌>>=◌ as ◌>>>◌, done, refuse, check, choose, times, within, Reads}

-- ---- steps that may fail

-- what a step answered
pub bind_ok : {A B : Type 0} (r : Read A) (f : A → List ℕ → Read B) (y : B) (rest : List ℕ) → (r >>= f) ≡ (Ok y, rest)
    → (x : A) × (left : List ℕ) × (r ≡ (Ok x, left)) × (f x left ≡ (Ok y, rest))
bind_ok (Ok x, left) f y rest e = (x, left, refl, e)
bind_ok _ f y rest e = let p = ap (λ r. r.0) e in absurd cc

-- which step refused
pub bind_fault : {A B : Type 0} (r : Read A) (f : A → List ℕ → Read B) (e : Error) → (r >>= f).0 ≡ Err e
    → (r.0 ≡ Err e) ⊎ ((x : A) × (left : List ℕ) × (r ≡ (Ok x, left)) × ((f x left).0 ≡ Err e))
bind_fault (Ok x, left) f e is = inr (x, left, refl, is)
bind_fault (Err d, left) f e is = let p : d ≡ e = cc in inl (rw p refl)

pub bind_refused : {A B : Type 0} (r : Read A) (f : A → List ℕ → Read B) (e : Error) → r.0 ≡ Err e → (r >>= f).0 ≡ Err e
bind_refused (Ok x, left) f e is = absurd cc
bind_refused (Err d, left) f e is = cc

-- the parts of an answer
pub ok_parts : {A : Type 0} (x y : A) (a b : List ℕ) → ◌≡◌ {A = Read A} (Ok x, a) (Ok y, b) → (x ≡ y) × (a ≡ b)
ok_parts {A} x y a b e = let p = ap (λ r. r.0) e in let q = ap (λ r. r.1) e in (cc, q)

-- ---- a production, and after it the next

module _ {A B : Type 0} {l : Production A} {next : A → Production B} (first : Reads l)
    (second : (x : A) → Reads (next x)) where
  abbrev both : List ℕ → Read B
  both = (l >>> next).read

  abbrev after : A → List ℕ → Read B
  after x = (next x).read

  reads_both_found : (bytes : List ℕ) (y : B) (rest : List ℕ) → both bytes ≡ (Ok y, rest)
      → (front : List ℕ) × (bytes ≡ front ++ rest) × (l >>> next).Spells front y
  reads_both_found bytes y rest e =
      let a = bind_ok _ after y rest e in
      let p = first.found bytes a.0 a.1 a.2 in
      let q = (second a.0).found a.1 y rest a.3 in (
        p.0 ++ q.0,
        p.1 ∙ ap (λ xs. p.0 ++ xs) q.1 ∙ sym (append_assoc p.0 q.0 rest),
        (a.0, p.0, q.0, refl, p.2, q.2),
      )

  reads_both_only : (front : List ℕ) (y : B) (rest : List ℕ) → (l >>> next).Spells front y
      → both (front ++ rest) ≡ (Ok y, rest)
  reads_both_only front y rest s =
      let regrouped = ap (λ xs. xs ++ rest) s.3
      ∙ append_assoc s.1 s.2 rest in
      ap both regrouped ∙ rw (first.only s.1 s.0 _ s.4) ((second s.0).only s.2 y rest s.5)

  reads_both_fault : (bytes : List ℕ) (e : Error) → (both bytes).0 ≡ Err e → (l >>> next).Fault bytes e
  reads_both_fault bytes e is = elim (bind_fault _ after e is) [
    | inl p ↦ inl (first.fault bytes e p)
    | inr a ↦ let p = first.found bytes a.0 a.1 a.2 in inr (a.0, p.0, a.1, p.1, p.2, (second a.0).fault a.1 e a.3)
  ]

  reads_both_refused : (bytes : List ℕ) (e : Error) → (l >>> next).Fault bytes e → (both bytes).0 ≡ Err e
  reads_both_refused bytes e (inl p) = bind_refused _ after e (first.refused bytes e p)
  reads_both_refused bytes e (inr s) = rw (s.3, first.only s.1 s.0 s.2 s.4) ((second s.0).refused s.2 e s.5)

  pub reads_both : Reads (l >>> next)
  reads_both = record {
    found = reads_both_found;
    only = reads_both_only;
    fault = reads_both_fault;
    refused = reads_both_refused;
  }

-- ---- no bytes

pub reads_done : {A : Type 0} (x : A) → Reads (done x)
reads_done {A} x = record {
  found = λ bytes y rest e. let p = ok_parts x y bytes rest e in ([], p.1, (refl, sym p.0));
  only = λ front y rest s. rw (s.0, s.1) refl;
  fault = λ bytes e is. absurd cc;
  refused = λ bytes e f. absurd f;
}

pub reads_refuse : {A : Type 0} (d : Error) → Reads (refuse {A = A} d)
reads_refuse {A} d = record {
  found = λ bytes y rest e. let p = ap (λ r. r.0) e in absurd cc;
  only = λ front y rest s. absurd s;
  fault = λ bytes e is. let p : d ≡ e = cc in sym p;
  refused = λ bytes e f. rw f refl;
}

pub reads_check : (b : Bool) (d : Error) → Reads (check b d)
reads_check true d = record {
  found = λ bytes x rest e. let p = ok_parts tt x bytes rest e in ([], p.1, (refl, refl));
  only = λ front x rest s. rw s.0 refl;
  fault = λ bytes e is. absurd cc;
  refused = λ bytes e f. let no = f.0 in absurd cc;
}
reads_check false d = record {
  found = λ bytes x rest e. let p = ap (λ r. r.0) e in absurd cc;
  only = λ front x rest s. absurd cc;
  fault = λ bytes e is. let p : d ≡ e = cc in (refl, sym p);
  refused = λ bytes e f. rw f.1 refl;
}

-- ---- one production or another

pub reads_if : {A : Type 0} (b : Bool) (l m : Production A) → Reads l → Reads m → Reads (choose b l m)
reads_if true l m p q = p
reads_if false l m p q = q

-- ---- so many of a production

pub reads_times : {A : Type 0} (n : ℕ) (l : Production A) → Reads l → Reads (times n l)
reads_times zero l r = reads_done []
reads_times (suc n) l r = reads_both r (λ x. reads_both (reads_times n l r) (λ xs. reads_done _))

-- ---- a production within bytes that were taken before

with_rest_ok : {A : Type 0} (r : Read A) (x : A × List ℕ) → with_rest r ≡ Ok x → r ≡ (Ok x.0, x.1)
with_rest_ok {A} (Ok y, rest) x e =
    cc
with_rest_ok _ x e = absurd cc

with_rest_fault : {A : Type 0} (r : Read A) (e : Error) → with_rest r ≡ Err e → r.0 ≡ Err e
with_rest_fault (Ok y, rest) e is = absurd cc
with_rest_fault (Err d, rest) e is = cc

with_rest_refused : {A : Type 0} (r : Read A) (e : Error) → r.0 ≡ Err e → with_rest r ≡ Err e
with_rest_refused (Ok y, rest) e is = absurd cc
with_rest_refused (Err d, rest) e is = cc

pub reads_within : {A : Type 0} (inside : List ℕ) (l : Production A) → Reads l → Reads (within inside l)
reads_within {A} inside l r = record {
  found = λ bytes x rest e.
      let value = with_rest_ok _ x (ap (λ y. y.0) e) in
      let left = ap (λ y. y.1) e in
      let f = r.found inside x.0 x.1 value in
      ([], left, (refl, f));
  only = λ front x rest s.
      let inner = r.only s.1.0 x.0 x.1 s.1.2 in
      rw (s.0, s.1.1, inner) refl;
  fault = λ bytes e is. r.fault inside e (with_rest_fault _ e is);
  refused = λ bytes e f. with_rest_refused _ e (r.refused inside e f);
}
