-- Reading an unsigned LEB128 number takes a spelling of it.
use Rattle.std.proofs.Common.{◌≡◌, ℕ, zero, suc, ◌+◌, ◌*◌, ◌%◌, ◌<◌, ◌≤◌, List, [], ◌∷◌, ◌++◌, length, Ok, Err, refl}
use Rattle.std.proofs.Common.{sym, ap, ◌∙◌, arith, inl, inr}
use Rattle.std.proofs.lemmas.Bool.{cases_lt, le-ltb, lt-ltb}
use Rattle.gimli_core.specs
use specs.declared.error.Error.{Error}
use specs.declared.error.Error.TheVariants.{BadUnsignedLeb128}
use specs.Numbers.{IsLeb128}
use specs.Reading.{Read, uleb_at}
use specs.Production.{unsigned, unsigned_16, IsLebFault, AllHigh, Reads}
use Rattle.gimli_core.proofs.Productions.{bind_ok, bind_fault, bind_refused, ok_parts}

-- the first number that is too large for so many groups and a last one of at most top
abbrev pub limit : ℕ → ℕ → ℕ
limit zero top = suc top
limit (suc more) top = 128 * limit more top

-- ---- what is taken is a spelling

-- a spelling in front of the rest
record Front (more top : ℕ) (bytes : List ℕ) (n : ℕ) (rest : List ℕ) : Type 0 where
  front : List ℕ
  groups : IsLeb128 front n
  short : length front ≤ suc more
  fits : n < limit more top
  parts : bytes ≡ front ++ rest

limit_pos : (more top : ℕ) → 0 < limit more top
limit_pos zero top = omega arith
limit_pos (suc more) top = omega (arith, limit_pos more top)

last_front : (more top b n : ℕ) (bytes rest : List ℕ) → b < 128 → b < limit more top → b ≡ n → bytes ≡ rest
    → Front more top (b ∷ bytes) n rest
last_front more top b n bytes rest small fits same left = record {
  front = b ∷ [];
  groups = (small, sym same);
  short = omega arith;
  fits = omega arith;
  parts = cc;
}

more_front : (more top b n high : ℕ) (bytes rest front : List ℕ) → 128 ≤ b → n ≡ b % 128 + 128 * high
    → IsLeb128 front high → length front ≤ suc more
    → high < limit more top → bytes ≡ front ++ rest → Front (suc more) top (b ∷ bytes) n rest
more_front more top b n high bytes rest [] large value groups short fits parts = absurd groups
more_front more top b n high bytes rest (c ∷ bs) large value groups short fits parts = record {
  front = b ∷ c ∷ bs;
  groups = grind arith;
  short = omega arith;
  fits = omega arith;
  parts = cc;
}

uleb_found : (more top : ℕ) (bytes : List ℕ) (n : ℕ) (rest : List ℕ) → top < 128 → uleb_at more top bytes ≡ (Ok n, rest)
    → Front more top bytes n rest
unfolding uleb_at
uleb_found zero top [] n rest small e = let p = ap (λ (r : Read ℕ). r.0) e in absurd cc
uleb_found (suc more) top [] n rest small e = let p = ap (λ (r : Read ℕ). r.0) e in absurd cc
uleb_found zero top (b ∷ bytes) n rest small e = elim (cases_lt top b) [
  | inl lt ↦ let p = ap (λ (r : Read ℕ). r.0) (rw (lt-ltb top b lt) at e) in absurd cc
  | inr le ↦
      let p = ok_parts b n bytes rest (rw (le-ltb top b le) at e) in
      last_front zero top b n bytes rest (omega arith) (omega arith) p.0 p.1
]
uleb_found (suc more) top (b ∷ bytes) n rest small e = elim (cases_lt b 128) [
  | inl lt ↦
      let p =
      ok_parts b n bytes rest (rw (lt-ltb b 128 lt) at e) in last_front (suc more) top b n bytes rest lt
      (omega (arith, limit_pos more top)) p.0 p.1
  | inr le ↦
      let q =
      bind_ok (uleb_at more top bytes) (λ high left. (Ok (b % 128 + 128 * high), left)) n rest
      (rw (le-ltb b 128 le) at e) in
      let p = ok_parts (b % 128 + 128 * q.0) n q.1 rest q.3 in
      let f = uleb_found more top bytes q.0 q.1 small q.2 in
      more_front more top b n q.0 bytes rest f.front le (sym p.0) f.groups f.short f.fits
      (f.parts ∙ ap (λ (xs : List ℕ). f.front ++ xs) p.1)
]

-- ---- each spelling is taken

uleb_only : (more top : ℕ) (front : List ℕ) (n : ℕ) (rest : List ℕ) → IsLeb128 front n → length front ≤ suc more
    → n < limit more top
    → uleb_at more top (front ++ rest) ≡ (Ok n, rest)
unfolding uleb_at
uleb_only more top [] n rest groups short fits = absurd groups
uleb_only zero top (b ∷ []) n rest groups short fits =
    let f : b ≤ top = omega arith in rw (le-ltb top b f, groups.1) refl
uleb_only (suc more) top (b ∷ []) n rest groups short fits = rw (lt-ltb b 128 groups.0, groups.1) refl
uleb_only zero top (b ∷ c ∷ bs) n rest groups short fits = absurd (omega arith)
uleb_only (suc more) top (b ∷ c ∷ bs) n rest groups short fits =
    let r = uleb_only more top (c ∷ bs) groups.1 rest groups.3 (omega arith) (omega arith) in
    rw (le-ltb b 128 groups.0, r, groups.2) refl

-- ---- refusals

-- a fault after a byte whose high bit is set
pub longer : (IsRefused : ℕ → Type 0) (bad : Error) (b : ℕ) → 128 ≤ b → (most : ℕ) (bytes : List ℕ) (e : Error)
    → IsLebFault most IsRefused bad bytes e
    → IsLebFault (suc most) IsRefused bad (b ∷ bytes) e
longer IsRefused bad b le most bytes e (inl f) = grind arith
longer IsRefused bad b le most bytes e (inr f) =
    inr (b ∷ f.0, f.1, f.2, ap (λ xs. b ∷ xs) f.3, omega (arith, f.4), (le, f.5), f.6, f.7)

uleb_fault : (top more : ℕ) (bytes : List ℕ) (e : Error) → (uleb_at more top bytes).0 ≡ Err e
    → IsLebFault (suc more) (λ b. top < b) BadUnsignedLeb128 bytes e
unfolding uleb_at
uleb_fault top zero [] e is = inl (omega arith, tt, cc)
uleb_fault top (suc more) [] e is = inl (omega arith, tt, cc)
uleb_fault top zero (b ∷ bytes) e is = elim (cases_lt top b) [
  | inl lt ↦ let p = rw (lt-ltb top b lt) at is in inr ([], b, bytes, refl, omega arith, tt, lt, cc)
  | inr le ↦ let p = rw (le-ltb top b le) at is in absurd cc
]
uleb_fault top (suc more) (b ∷ bytes) e is = elim (cases_lt b 128) [
  | inl lt ↦ let p = rw (lt-ltb b 128 lt) at is in absurd cc
  | inr le ↦
      elim (bind_fault (uleb_at more top bytes) (λ high rest. (Ok (b % 128 + 128 * high), rest)) e
      (rw (le-ltb b 128 le) at is)) [
        | inl p ↦ longer (λ c. top < c) BadUnsignedLeb128 b le (suc more) bytes e (uleb_fault top more bytes e p)
        | inr q ↦ let no = q.3 in absurd cc
      ]
]

pub not_nil : (front : List ℕ) (last : ℕ) (rest : List ℕ) → [] ≡ front ++ last ∷ rest → ⊥
not_nil [] last rest e = absurd cc
not_nil _ last rest e = absurd cc

pub only_last : (front : List ℕ) (last : ℕ) (rest : List ℕ) (b : ℕ) (bytes : List ℕ) → b ∷ bytes ≡ front ++ last ∷ rest
    → length front + 1 ≡ 1 → b ≡ last
only_last [] last rest b bytes e n = cc
only_last _ last rest b bytes e n = absurd (omega (arith, n))

-- the fault after a first byte
pub record Behind (IsRefused : ℕ → Type 0) (bad : Error) (most b : ℕ) (bytes : List ℕ) (e : Error) : Type 0 where
  pub high : 128 ≤ b
  pub fault : IsLebFault most IsRefused bad bytes e

pub first_high : (IsRefused : ℕ → Type 0) (bad : Error) (most : ℕ) (front : List ℕ) (last : ℕ) (rest : List ℕ) (b : ℕ)
    (bytes : List ℕ) (e : Error)
    → b ∷ bytes ≡ front ++ last ∷ rest → length front + 1 ≡ suc (suc most) → AllHigh front → IsRefused last → e ≡ bad
    → Behind IsRefused bad (suc most) b bytes e
first_high IsRefused bad most [] last rest b bytes e parts n high refused is = absurd (omega (arith, n))
first_high IsRefused bad most (x ∷ front) last rest b bytes e parts n high refused is =
    grind arith

uleb_refused : (top more : ℕ) (bytes : List ℕ) (e : Error)
    → IsLebFault (suc more) (λ b. top < b) BadUnsignedLeb128 bytes e → (uleb_at more top bytes).0 ≡ Err e
unfolding uleb_at
uleb_refused top zero [] e (inl f) = rw f.2 refl
uleb_refused top (suc more) [] e (inl f) = rw f.2 refl
uleb_refused top zero [] e (inr f) = absurd (not_nil f.0 f.1 f.2 f.3)
uleb_refused top (suc more) [] e (inr f) = absurd (not_nil f.0 f.1 f.2 f.3)
uleb_refused top zero (b ∷ bytes) e (inl f) = absurd (omega (arith, f.0))
uleb_refused top zero (b ∷ bytes) e (inr f) =
    let same = only_last f.0 f.1 f.2 b bytes f.3 f.4 in
    let lt : top < b = rw same f.6 in
    rw (lt-ltb top b lt, f.7) refl
uleb_refused top (suc more) (b ∷ bytes) e (inl f) =
    rw (le-ltb b 128 f.1.0) (bind_refused (uleb_at more top bytes) (λ high rest. (Ok (b % 128 + 128 * high), rest)) e
    (uleb_refused top more bytes e (inl (omega (arith, f.0), f.1.1, f.2))))
uleb_refused top (suc more) (b ∷ bytes) e (inr f) =
    let p = first_high (λ c. top < c) BadUnsignedLeb128 more f.0 f.1 f.2 b bytes e f.3 f.4 f.5 f.6 f.7 in
    rw (le-ltb b 128 p.high) (bind_refused (uleb_at more top bytes) (λ high rest. (Ok (b % 128 + 128 * high), rest)) e
    (uleb_refused top more bytes e p.fault))

-- ---- the two widths

pub reads_unsigned : Reads unsigned
reads_unsigned = record {
  found =
      λ bytes n rest e. let f = uleb_found 9 1 bytes n rest (omega arith) e in
      (f.front, f.parts, record { groups = f.groups; short = omega (arith, f.short); fits = f.fits });
  only = λ front n rest s. uleb_only 9 1 front n rest s.groups (omega (arith, s.short)) s.fits;
  fault = uleb_fault 1 9;
  refused = uleb_refused 1 9;
}

pub reads_unsigned_16 : Reads unsigned_16
reads_unsigned_16 = record {
  found =
      λ bytes n rest e. let f = uleb_found 2 3 bytes n rest (omega arith) e in
      (f.front, f.parts, record { groups = f.groups; short = omega (arith, f.short); fits = f.fits });
  only = λ front n rest s. uleb_only 2 3 front n rest s.groups (omega (arith, s.short)) s.fits;
  fault = uleb_fault 3 2;
  refused = uleb_refused 3 2;
}
