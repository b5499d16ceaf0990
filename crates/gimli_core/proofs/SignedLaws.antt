-- Reading a signed LEB128 number takes a spelling of it.
use Rattle.std.proofs.Common.{◌≡◌, ◌≢◌, ℕ, zero, suc, ◌+◌, ◌*◌, ◌%◌, ◌^◌, ◌<◌, ◌≤◌, Bool, true, false, if◌then◌else◌}
use Rattle.std.proofs.Common.{◌||◌, List, [], ◌∷◌, ◌++◌, length, Ok, Err, refl, sym, ap, ◌∙◌, arith, inl, inr}
use Rattle.std.specs.Prelude.{ℤ, pos, ◌-ℤ◌, nat_le, nat_eq, FitsSigned}
use Rattle.std.specs.Int.{w64}
use Rattle.std.proofs.lemmas.Bool.{cases_lt, le-ltb, lt-ltb, eqb-true, eqb-false, le-leb, lt-leb}
use Rattle.std.proofs.lemmas.Int.{ints}
use Rattle.gimli_core.specs
use specs.declared.error.Error.{Error}
use specs.declared.error.Error.TheVariants.{BadSignedLeb128}
use specs.Numbers.{IsLeb128, is_negative, SpellsSleb128}
use specs.Reading.{Read, Difference, last_group, sleb_at, signed_at}
use specs.Production.{signed, IsLebFault, Reads}
use Rattle.gimli_core.proofs
use proofs.Leb.{pow_next}
use proofs.Productions.{bind_ok, bind_fault, bind_refused, ok_parts}
use proofs.UnsignedLeb.{longer, not_nil, only_last, first_high}

-- the numbers that fit so many groups and a last one that repeats the sign are above - limit and below it
abbrev pub limit : ℕ → ℕ
limit zero = 1
limit (suc more) = 128 * limit more

limit_pos : (more : ℕ) → 0 < limit more
limit_pos zero = omega arith
limit_pos (suc more) = omega (arith, limit_pos more)

-- what the sign takes
abbrev taken : Bool → ℕ → ℕ
taken negative len = if negative then 2 ^ (7 * len) else 0

taken_more : (negative : Bool) (len : ℕ) → 128 * taken negative len ≡ taken negative (suc len)
taken_more true len =
    let k : suc len ≡ len + 1 = omega arith in
    let p : 2 ^ (7 * suc len) ≡ 2 ^ (7 * len) * 128 = rw k (pow_next len) in
    omega (arith, p)
taken_more false len = refl

-- ---- what is taken is a spelling

record Front (more : ℕ) (bytes : List ℕ) (z : Difference) (rest : List ℕ) : Type 0 where
  front : List ℕ
  groups : IsLeb128 front z.0
  sign : z.1 ≡ taken (is_negative front) (length front)
  short : length front ≤ suc more
  below : z.0 < limit more + z.1
  above : z.1 ≤ z.0 + limit more
  parts : bytes ≡ front ++ rest

last_of : (more b : ℕ) (bytes rest : List ℕ) (z : Difference) → b < 128 → last_group b ≡ z → bytes ≡ rest
    → b < limit more + (last_group b).1
    → (last_group b).1 ≤ b + limit more → Front more (b ∷ bytes) z rest
last_of more b bytes rest z small same left low high =
    let zero_is = ap (λ d. d.0) same in
    let one_is = ap (λ d. d.1) same in
    record {
      front = b ∷ [];
      groups = omega arith;
      sign = sym one_is;
      short = omega arith;
      below = omega arith;
      above = omega arith;
      parts = cc;
    }

last_small : (more b : ℕ) (negative : Bool) → nat_le 64 b ≡ negative → b < 128
    → (b < 128 * limit more + taken negative 1) × (taken negative 1 ≤ b + 128 * limit more)
last_small more b true is small = omega (arith, limit_pos)
last_small more b false is small = omega (arith, limit_pos)

more_of : (more b : ℕ) (bytes rest front : List ℕ) (high z : Difference) → 128 ≤ b → z.0 ≡ b % 128 + 128 * high.0
    → z.1 ≡ 128 * high.1
    → IsLeb128 front high.0 → high.1 ≡ taken (is_negative front) (length front) → length front ≤ suc more
    → high.0 < limit more + high.1
    → high.1 ≤ high.0 + limit more → bytes ≡ front ++ rest → Front (suc more) (b ∷ bytes) z rest
more_of more b bytes rest [] high z large zero_is one_is groups sign short low up parts = absurd groups
more_of more b bytes rest (c ∷ bs) high z large zero_is one_is groups sign short low up parts = record {
  front = b ∷ c ∷ bs;
  groups = grind arith;
  sign = omega (arith, taken_more);
  short = omega arith;
  below = omega arith;
  above = omega arith;
  parts = cc;
}

tenth_found : (b : ℕ) (bytes : List ℕ) (z : Difference) (rest : List ℕ) (zero_last minus_one_last : Bool)
    → nat_eq b 0 ≡ zero_last
    → nat_eq b 127 ≡ minus_one_last
    → ◌≡◌ {A = Read Difference}
    (if zero_last || minus_one_last then (Ok (last_group b), bytes) else (Err BadSignedLeb128, bytes)) (Ok z, rest)
    → Front zero (b ∷ bytes) z rest
tenth_found b bytes z rest true m is is_m e =
    grind (arith, ok_parts, eqb-true, last_of)
tenth_found b bytes z rest false true is is_m e =
    grind (arith, ok_parts, eqb-true, last_of)
tenth_found b bytes z rest false false is is_m e = grind arith

sleb_found : (more : ℕ) (bytes : List ℕ) (z : Difference) (rest : List ℕ) → sleb_at more bytes ≡ (Ok z, rest)
    → Front more bytes z rest
unfolding sleb_at
sleb_found zero [] z rest e = let p = ap (λ (r : Read Difference). r.0) e in absurd cc
sleb_found (suc more) [] z rest e = let p = ap (λ (r : Read Difference). r.0) e in absurd cc
sleb_found zero (b ∷ bytes) z rest e = tenth_found b bytes z rest (nat_eq b 0) (nat_eq b 127) refl refl e
sleb_found (suc more) (b ∷ bytes) z rest e = elim (cases_lt b 128) [
  | inl lt ↦
      let p = ok_parts (last_group b) z bytes rest (rw (lt-ltb b 128 lt) at e) in
      let fits = last_small more b (nat_le 64 b) refl lt in
      last_of (suc more) b bytes rest z lt p.0 p.1 fits.0 fits.1
  | inr le ↦
      let after : Difference → List ℕ → Read Difference = λ high left.
      (Ok (b % 128 + 128 * high.0, 128 * high.1), left) in
      let q = bind_ok (sleb_at more bytes) after z rest (rw (le-ltb b 128 le) at e) in
      let p = ok_parts (b % 128 + 128 * q.0.0, 128 * q.0.1) z q.1 rest q.3 in
      let f = sleb_found more bytes q.0 q.1 q.2 in
      more_of more b bytes rest f.front q.0 z le (sym (ap (λ (d : Difference). d.0) p.0))
      (sym (ap (λ (d : Difference). d.1) p.0)) f.groups f.sign f.short
      f.below f.above (f.parts ∙ ap (λ (xs : List ℕ). f.front ++ xs) p.1)
]

-- ---- each spelling is taken

tenth_only : (b n s : ℕ) (rest : List ℕ) (zero_last minus_one_last : Bool) → nat_eq b 0 ≡ zero_last
    → nat_eq b 127 ≡ minus_one_last → b < 128 → n ≡ b
    → s ≡ taken (nat_le 64 b) 1 → n < 1 + s → s ≤ n + 1
    → ◌≡◌ {A = Read Difference}
    (if zero_last || minus_one_last then (Ok (last_group b), rest) else (Err BadSignedLeb128, rest)) (Ok (n, s), rest)
tenth_only b n s rest true m is is_m small same sign low up = cc
tenth_only b n s rest false true is is_m small same sign low up = cc
tenth_only b n s rest false false is is_m small same sign low up = grind (arith, cases_lt, lt-leb, eqb-false, le-leb)

sleb_only : (more : ℕ) (front : List ℕ) (n s : ℕ) (rest : List ℕ) → IsLeb128 front n
    → s ≡ taken (is_negative front) (length front) → length front ≤ suc more
    → n < limit more + s → s ≤ n + limit more → sleb_at more (front ++ rest) ≡ (Ok (n, s), rest)
unfolding sleb_at
sleb_only more [] n s rest groups sign short low up = absurd groups
sleb_only zero (b ∷ []) n s rest groups sign short low up =
    tenth_only b n s rest (nat_eq b 0) (nat_eq b 127) refl refl groups.0 groups.1 sign low up
sleb_only (suc more) (b ∷ []) n s rest groups sign short low up = rw (lt-ltb b 128 groups.0, groups.1, sign) refl
sleb_only zero (b ∷ c ∷ bs) n s rest groups sign short low up = absurd (omega arith)
sleb_only (suc more) (b ∷ c ∷ bs) n s rest groups sign short low up =
    let t = taken (is_negative (c ∷ bs)) (length (c ∷ bs)) in
    let s_is : s ≡ 128 * t = sign ∙ sym (taken_more (is_negative (c ∷ bs)) (length (c ∷ bs))) in
    let n_is : n ≡ b % 128 + 128 * groups.1 = groups.2 in
    let r = sleb_only more (c ∷ bs) groups.1 t rest groups.3 refl (omega arith) (omega arith) (omega arith) in
    rw (le-ltb b 128 groups.0, r, n_is, s_is) refl

-- ---- refusals

abbrev IsRefused : ℕ → Type 0
IsRefused b = (b ≢ 0) × (b ≢ 127)

abbrev tenth_read : ℕ → List ℕ → Bool → Bool → Read Difference
tenth_read b bytes zero_last minus_one_last =
    if zero_last || minus_one_last then (Ok (last_group b), bytes) else (Err BadSignedLeb128, bytes)

tenth_fault : (b : ℕ) (bytes : List ℕ) (e : Error) (zero_last minus_one_last : Bool) → nat_eq b 0 ≡ zero_last
    → nat_eq b 127 ≡ minus_one_last
    → (tenth_read b bytes zero_last minus_one_last).0 ≡ Err e → IsRefused b × (e ≡ BadSignedLeb128)
tenth_fault b bytes e true m is is_m f = absurd cc
tenth_fault b bytes e false true is is_m f = absurd cc
tenth_fault b bytes e false false is is_m f = grind (arith, eqb-false)

sleb_fault : (more : ℕ) (bytes : List ℕ) (e : Error) → (sleb_at more bytes).0 ≡ Err e
    → IsLebFault (suc more) IsRefused BadSignedLeb128 bytes e
unfolding sleb_at
sleb_fault zero [] e is = inl (omega arith, tt, cc)
sleb_fault (suc more) [] e is = inl (omega arith, tt, cc)
sleb_fault zero (b ∷ bytes) e is =
    let p = tenth_fault b bytes e (nat_eq b 0) (nat_eq b 127) refl refl is in
    inr ([], b, bytes, refl, omega arith, tt, p.0, p.1)
sleb_fault (suc more) (b ∷ bytes) e is = elim (cases_lt b 128) [
  | inl lt ↦ let p = rw (lt-ltb b 128 lt) at is in absurd cc
  | inr le ↦
      let after : Difference → List ℕ → Read Difference = λ high left.
      (Ok (b % 128 + 128 * high.0, 128 * high.1), left) in
      elim (bind_fault (sleb_at more bytes) after e (rw (le-ltb b 128 le) at is)) [
        | inl p ↦ longer IsRefused BadSignedLeb128 b le (suc more) bytes e (sleb_fault more bytes e p)
        | inr q ↦ let no = q.3 in absurd cc
      ]
]

tenth_refused : (b : ℕ) (bytes : List ℕ) (zero_last minus_one_last : Bool) → nat_eq b 0 ≡ zero_last
    → nat_eq b 127 ≡ minus_one_last → IsRefused b
    → (tenth_read b bytes zero_last minus_one_last).0 ≡ Err BadSignedLeb128
tenth_refused b bytes true m is is_m neither = grind (arith, eqb-true)
tenth_refused b bytes false true is is_m neither = grind (arith, eqb-true)
tenth_refused b bytes false false is is_m neither = refl

sleb_refused : (more : ℕ) (bytes : List ℕ) (e : Error) → IsLebFault (suc more) IsRefused BadSignedLeb128 bytes e
    → (sleb_at more bytes).0 ≡ Err e
unfolding sleb_at
sleb_refused zero [] e (inl f) = rw f.2 refl
sleb_refused (suc more) [] e (inl f) = rw f.2 refl
sleb_refused zero [] e (inr f) = absurd (not_nil f.0 f.1 f.2 f.3)
sleb_refused (suc more) [] e (inr f) = absurd (not_nil f.0 f.1 f.2 f.3)
sleb_refused zero (b ∷ bytes) e (inl f) = absurd (omega (arith, f.0))
sleb_refused zero (b ∷ bytes) e (inr f) =
    let same = only_last f.0 f.1 f.2 b bytes f.3 f.4 in
    rw f.7 (tenth_refused b bytes (nat_eq b 0) (nat_eq b 127) refl refl (rw same f.6))
sleb_refused (suc more) (b ∷ bytes) e (inl f) =
    let after : Difference → List ℕ → Read Difference = λ high left.
    (Ok (b % 128 + 128 * high.0, 128 * high.1), left) in
    rw (le-ltb b 128 f.1.0)
    (bind_refused (sleb_at more bytes) after e (sleb_refused more bytes e (inl (omega (arith, f.0), f.1.1, f.2))))
sleb_refused (suc more) (b ∷ bytes) e (inr f) =
    let after : Difference → List ℕ → Read Difference = λ high left.
    (Ok (b % 128 + 128 * high.0, 128 * high.1), left) in
    let p = first_high IsRefused BadSignedLeb128 more f.0 f.1 f.2 b bytes e f.3 f.4 f.5 f.6 f.7 in
    rw (le-ltb b 128 p.high) (bind_refused (sleb_at more bytes) after e (sleb_refused more bytes e p.fault))

-- ---- the number as an integer

signed_found : (bytes : List ℕ) (z : ℤ) (rest : List ℕ) → signed_at bytes ≡ (Ok z, rest)
    → (front : List ℕ) × (bytes ≡ front ++ rest) × SpellsSleb128 front z
signed_found bytes z rest e =
    let after : Difference → List ℕ → Read ℤ = λ d left. _ in
    let q = bind_ok _ after z rest e in
    let p = ok_parts _ z q.1 rest q.3 in
    let f = sleb_found 9 bytes q.0 q.1 q.2 in
    let fits : FitsSigned w64 _ = omega (arith, ints) in (
      f.front,
      f.parts ∙ ap (λ xs. f.front ++ xs) p.1,
      record {
        unsigned = q.0.0;
        groups = f.groups;
        value_is = cc;
        short = f.short;
        fits = rw (← p.0) fits;
      },
    )

signed_only : (front : List ℕ) (z : ℤ) (rest : List ℕ) → SpellsSleb128 front z
    → signed_at (front ++ rest) ≡ (Ok z, rest)
signed_only front z rest s =
    let t = taken _ _ in
    let fits : FitsSigned w64 (pos s.unsigned -ℤ pos t) = grind arith in
    let below : s.unsigned < 2 ^ 63 + t = omega (arith, ints, fits) in
    let above : t ≤ s.unsigned + 2 ^ 63 = omega (arith, ints, fits) in
    rw (sleb_only 9 front s.unsigned t rest s.groups refl s.short below above) (ap (λ i. (Ok i, rest)) s.value_is)

signed_fault : (bytes : List ℕ) (e : Error) → (signed_at bytes).0 ≡ Err e
    → IsLebFault 10 IsRefused BadSignedLeb128 bytes e
signed_fault bytes e is =
    let after : Difference → List ℕ → Read ℤ = λ d left. _ in
    elim (bind_fault _ after e is) [
      | inl p ↦ sleb_fault 9 bytes e p
      | inr q ↦ cc
    ]

signed_refused : (bytes : List ℕ) (e : Error) → IsLebFault 10 IsRefused BadSignedLeb128 bytes e
    → (signed_at bytes).0 ≡ Err e
signed_refused bytes e f =
    let after : Difference → List ℕ → Read ℤ = λ d left. _ in
    bind_refused _ after e (sleb_refused 9 bytes e f)

pub reads_signed : Reads signed
reads_signed = search (arith, signed_found, signed_only, signed_fault, signed_refused)
