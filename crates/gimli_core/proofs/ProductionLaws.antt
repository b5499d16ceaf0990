-- Reading the single productions of a format: bytes, numbers, texts, lengths.
use Rattle.std.proofs.Common.{◌≡◌, ◌≢◌, ℕ, suc, ◌+◌, ◌<◌, ◌≤◌, Bool, true, false, if◌then◌else◌, List, [], ◌∷◌, ◌++◌}
use Rattle.std.proofs.Common.{length, take, drop, Ok, Err, refl, sym}
use Rattle.std.proofs.Common.{ap, subst, ◌∙◌, arith, append_assoc, inl, inr, ◌⊎◌}
use Rattle.std.specs.Prelude.{nat_eq, nat_lt}
use Rattle.std.specs.List.{AllByRecursion, position_or_len}
use Rattle.std.proofs.lemmas.Bool.{cases_lt, le-ltb, lt-ltb, ne_eqb}
use Rattle.std.proofs.lemmas.Bool.Decides.{eqb_tells}
use Rattle.std.proofs.lemmas.List.{append-nil, take_at, drop_at, take-append-drop, length-append, length-take-le}
use Rattle.gimli_core.specs
use specs.declared.common.Format.{Format}
use specs.declared.common.Format.TheVariants.{Dwarf32, Dwarf64}
use specs.declared.error.Error.{Error}
use specs.declared.error.Error.TheVariants.{UnknownReservedLength}
use specs.Layout.{OrderAndLimit}
use specs.Numbers.{SpellsNumber, SpellsInitialLength, word_size}
use specs.Reading.{Read, eof, byte_at, number_at, text_at, long_or_short_at}
use specs.Production.{Production, byte, signed_byte, number, some_bytes, text, address_size, below_limit}
use specs.Production.{offset_word, initial_length, unit_length, IsWanting, Reads}
use Rattle.gimli_core.proofs
use proofs.Productions.{ok_parts, bind_ok, bind_fault, bind_refused, reads_both, reads_done, reads_check}
use proofs.Padded.{split_ok}

-- ---- bytes

-- what is after a front of known length
front_split : (n : ℕ) (front rest : List ℕ) → length front ≡ n
    → (n ≤ length (front ++ rest)) × (take n (front ++ rest) ≡ front) × (drop n (front ++ rest) ≡ rest)
front_split n front rest is =
    grind (arith, length-append, take_at, drop_at)

-- a refusal for want of bytes
want_fault : {A : Type 0} (n : ℕ) (bytes : List ℕ) (x : A) (left : List ℕ) (e : Error)
    → ((if nat_lt (length bytes) n then (let r : Read A = (Err (eof bytes), bytes) in r) else (Ok x, left)).0 ≡ Err e)
    → IsWanting n bytes e
want_fault {A} n bytes x left e is = grind (arith, cases_lt, lt-ltb, le-ltb)

pub reads_some_bytes : (n : ℕ) → Reads (some_bytes n)
reads_some_bytes n = grind (arith, split_ok, take-append-drop, length-take-le, front_split, le-ltb, want_fault, lt-ltb)

pub reads_byte : Reads byte
reads_byte = grind arith
  where
    byte_found : (bytes : List ℕ) (b : ℕ) (rest : List ℕ) → byte_at bytes ≡ (Ok b, rest)
        → (front : List ℕ) × (bytes ≡ front ++ rest) × (front ≡ b ∷ [])
    byte_found [] b rest e = grind arith
    byte_found (c ∷ bytes) b rest e = grind (arith, ok_parts)

    byte_fault : (bytes : List ℕ) (e : Error) → (byte_at bytes).0 ≡ Err e → IsWanting 1 bytes e
    byte_fault [] e is = (omega arith, cc)
    byte_fault _ e is = absurd cc

    byte_refused : (bytes : List ℕ) (e : Error) → IsWanting 1 bytes e → (byte_at bytes).0 ≡ Err e
    byte_refused [] e f = rw f.1 refl
    byte_refused _ e f = absurd (omega (arith, f.0))

pub reads_signed_byte : Reads signed_byte
reads_signed_byte = search (arith, reads_both, reads_byte, reads_done)

-- ---- numbers

pub reads_number : (is_big : Bool) (size : ℕ) → Reads (number is_big size)
reads_number is_big size = record {
  found = λ bytes n rest e. number_found bytes n rest e;
  only = grind (arith, front_split, le-ltb);
  fault = grind (arith, want_fault);
  refused = grind (arith, lt-ltb);
}
  where
    number_found : (bytes : List ℕ) (n : ℕ) (rest : List ℕ) → number_at is_big size bytes ≡ (Ok n, rest)
        → (front : List ℕ) × (bytes ≡ front ++ rest) × SpellsNumber is_big size front n
    number_found bytes n rest e = grind (arith, cases_lt, lt-ltb, ok_parts, le-ltb, take-append-drop, length-take-le)

-- ---- texts

abbrev IsNoZero : ℕ → Type 0
IsNoZero b = b ≢ 0

-- how many bytes stand before the first zero byte
abbrev place : List ℕ → ℕ
place bytes = position_or_len (λ b. nat_eq b 0) bytes

place_more : (b : ℕ) (bytes : List ℕ) → b ≢ 0 → place (b ∷ bytes) ≡ suc (place bytes)
place_more b bytes other = grind (arith, ne_eqb)

-- a zero byte at that place, and none before it
record ZeroAt (bytes : List ℕ) (k : ℕ) : Type 0 where
  parts : bytes ≡ take k bytes ++ 0 ∷ drop (k + 1) bytes
  name : AllByRecursion IsNoZero (take k bytes)

zero_more : (b : ℕ) (bytes : List ℕ) (k : ℕ) → b ≢ 0 → ZeroAt bytes k → ZeroAt (b ∷ bytes) (suc k)
zero_more b bytes k other zero =
    grind arith

zero_at : (bytes : List ℕ) → place bytes < length bytes → ZeroAt bytes (place bytes)
zero_at [] lt = absurd (omega arith)
zero_at (b ∷ bytes) lt = elim (eqb_tells b 0) [
  | inl p ↦ grind arith
  | inr p ↦
      let more = place_more b bytes p.1 in
      let zero = zero_at bytes (omega (arith, more)) in
      subst (λ k. ZeroAt (b ∷ bytes) k) (sym more) (zero_more b bytes _ p.1 zero)
]
  where
    at_zero : (b : ℕ) (bytes : List ℕ) → b ≡ 0 → ZeroAt (b ∷ bytes) (place (b ∷ bytes))
    at_zero b bytes is =
        grind arith

-- where none is zero the place is the end
place_none : (name : List ℕ) → AllByRecursion IsNoZero name → place name ≡ length name
place_none [] all = refl
place_none (b ∷ name) all = place_more b name all.0 ∙ ap suc (place_none name all.1)

place_name : (name rest : List ℕ) → AllByRecursion IsNoZero name → place (name ++ 0 ∷ rest) ≡ length name
place_name [] rest all = refl
place_name (b ∷ name) rest all = place_more b (name ++ 0 ∷ rest) all.0 ∙ ap suc (place_name name rest all.1)

none_zero : (bytes : List ℕ) → length bytes ≤ place bytes → AllByRecursion IsNoZero bytes
none_zero [] le = tt
none_zero (b ∷ bytes) le = elim (eqb_tells b 0) [
  | inl p ↦ grind arith
  | inr p ↦ let more = place_more b bytes p.1 in (p.1, none_zero bytes (omega (arith, more)))
]

text_found : (bytes name rest : List ℕ) → text_at bytes ≡ (Ok name, rest)
    → (front : List ℕ) × (bytes ≡ front ++ rest) × text.Spells front name
text_found bytes name rest e = elim (cases_lt _ _) [
  | inl lt ↦
      let p =
      ok_parts _ name _ rest
      (rw (lt-ltb _ _ lt, text_at) at e) in
      let zero = zero_at bytes lt in
      let whole : bytes
      ≡ (name ++ 0 ∷ [])
      ++ rest = grind (arith, append_assoc) in
      (name ++ 0 ∷ [], whole, (rw (← p.0) zero.name, refl))
  | inr le ↦
      grind (arith, le-ltb)
]

text_only : (front name rest : List ℕ) → text.Spells front name → text_at (front ++ rest) ≡ (Ok name, rest)
text_only front name rest s =
    grind (arith, append_assoc, place_name, length-append, take_at, drop_at, lt-ltb)

text_fault : (bytes : List ℕ) (e : Error) → (text_at bytes).0 ≡ Err e → text.Fault bytes e
text_fault bytes e is = grind (arith, cases_lt, lt-ltb, le-ltb, none_zero)

text_refused : (bytes : List ℕ) (e : Error) → text.Fault bytes e → (text_at bytes).0 ≡ Err e
text_refused bytes e f =
    grind (arith, place_none, le-ltb)

pub reads_text : Reads text
reads_text = search (arith, text_found, text_only, text_fault, text_refused)

-- ---- sizes of addresses, offsets and words

pub reads_address_size : Reads address_size
unfolding address_size
reads_address_size = reads_both reads_byte (λ n. reads_both (reads_check _ _) (λ fits. reads_done n))

pub reads_below_limit : (layout : OrderAndLimit) (l : Production ℕ) → Reads l → Reads (below_limit layout l)
reads_below_limit layout l r = reads_both r (λ n. reads_both (reads_check _ _) (λ fits. reads_done n))

pub reads_offset_word : (layout : OrderAndLimit) (format : Format) → Reads (offset_word layout format)
unfolding offset_word
reads_offset_word layout format =
    reads_both (reads_number layout.is_big (word_size format)) (λ n.
    reads_both (reads_check _ _) (λ fits. reads_done n))

-- ---- initial lengths

abbrev after_word : Bool → ℕ → List ℕ → Read (ℕ × Format)
after_word = long_or_short_at

abbrev length_at : Bool → List ℕ → Read (ℕ × Format)
length_at is_big = (initial_length is_big).read

-- which of the three it is
data First (n : ℕ) : Type 0 where
  short : n < 0xffff_fff0 → nat_lt n 0xffff_fff0 ≡ true → First n
  long : n ≡ 0xffff_ffff → nat_lt n 0xffff_fff0 ≡ false → nat_eq n 0xffff_ffff ≡ true → First n
  reserved : 0xffff_fff0 ≤ n → n ≢ 0xffff_ffff → nat_lt n 0xffff_fff0 ≡ false → nat_eq n 0xffff_ffff ≡ false → First n

first_of : (n : ℕ) → First n
first_of n = grind (arith, cases_lt, lt-ltb, eqb_tells, le-ltb)

module _ (is_big : Bool) where
  number_8 : (rest : List ℕ) (m : ℕ) (left : List ℕ) → number_at is_big 8 rest ≡ (Ok m, left)
      → (tail : List ℕ) × (rest ≡ tail ++ left) × SpellsNumber is_big 8 tail m
  number_8 = (reads_number is_big 8).found

  after_found : (n : ℕ) → First n → (rest : List ℕ) (u : ℕ × Format) (left first : List ℕ)
      → SpellsNumber is_big 4 first n
      → after_word is_big n rest ≡ (Ok u, left)
      → (tail : List ℕ) × (rest ≡ tail ++ left) × SpellsInitialLength is_big (first ++ tail) u.1 u.0
  after_found n (short lt is) rest u left first spelled e =
      grind (arith, ok_parts, append-nil)
  after_found n (long same not_short is) rest u left first spelled e =
      let q =
      bind_ok _ _ u left
      (rw (not_short, is) at e) in
      let p = ok_parts _ u q.1 left q.3 in
      let t = number_8 rest q.0 q.1 q.2 in
      subst
      (λ v. (tail : List ℕ) × (rest ≡ tail ++ left) × SpellsInitialLength is_big (first ++ tail) v.1 v.0)
      p.0
      (t.0, t.1 ∙ ap (λ xs. t.0 ++ xs) p.1, (first, t.0, refl, rw (← same) spelled, t.2))
  after_found n (reserved le other not_short is) rest u left first spelled e =
      grind arith

  length_found : (bytes : List ℕ) (u : ℕ × Format) (rest : List ℕ) → length_at is_big bytes ≡ (Ok u, rest)
      → (front : List ℕ) × (bytes ≡ front ++ rest) × SpellsInitialLength is_big front u.1 u.0
  length_found bytes u rest e =
      let q = bind_ok _ _ u rest e in
      let f = (reads_number is_big 4).found bytes q.0 q.1 q.2 in
      let b = after_found q.0 (first_of q.0) q.1 u rest f.0 f.2 q.3 in
      (f.0 ++ b.0, f.1 ∙ ap (λ xs. f.0 ++ xs) b.1 ∙ sym (append_assoc f.0 b.0 rest), b.2)

  length_only : (front : List ℕ) (u : ℕ × Format) (rest : List ℕ) → SpellsInitialLength is_big front u.1 u.0
      → length_at is_big (front ++ rest) ≡ (Ok u, rest)
  length_only front (n, Dwarf32) rest s =
      let first = (reads_number is_big 4).only front n rest s.0 in
      rw (first, lt-ltb n 0xffff_fff0 s.1) refl
  length_only front (n, Dwarf64) rest s =
      let whole = ap (λ (xs : List ℕ). xs ++ rest) s.2
      ∙ append_assoc s.0 s.1 rest in
      let first = (reads_number is_big 4).only s.0 0xffff_ffff (s.1 ++ rest) s.3 in
      let second = (reads_number is_big 8).only s.1 n rest s.4 in
      ap (length_at is_big) whole ∙ rw (first, second) refl

  after_fault : (n : ℕ) → First n → (rest : List ℕ) (e : Error) → (after_word is_big n rest).0 ≡ Err e
      → ((0xffff_fff0 ≤ n) × (n ≢ 0xffff_ffff) × (e ≡ UnknownReservedLength)) ⊎ ((n ≡ 0xffff_ffff) × IsWanting 8 rest e)
  after_fault n (short lt is) rest e f = cc
  after_fault n (long same not_short is) rest e f =
      grind (arith, bind_fault, reads_number)
  after_fault n (reserved le other not_short is) rest e f = grind arith

  length_fault : (bytes : List ℕ) (e : Error) → (length_at is_big bytes).0 ≡ Err e
      → (initial_length is_big).Fault bytes e
  length_fault bytes e f = elim (bind_fault _ _ e f) [
    | inl p ↦ inl ((reads_number is_big 4).fault bytes e p)
    | inr q ↦
        let found = (reads_number is_big 4).found bytes q.0 q.1 q.2 in
        inr (found.0, q.1, q.0, found.1, found.2, after_fault q.0 (first_of q.0) q.1 e q.3)
  ]

  after_refused : (n : ℕ) (rest : List ℕ) (e : Error)
      → ((0xffff_fff0 ≤ n) × (n ≢ 0xffff_ffff) × (e ≡ UnknownReservedLength)) ⊎ ((n ≡ 0xffff_ffff) × IsWanting 8 rest e)
      → (after_word is_big n rest).0 ≡ Err e
  after_refused n rest e (inl f) = grind (arith, le-ltb, ne_eqb)
  after_refused n rest e (inr f) =
      grind (arith, bind_refused, reads_number)

  length_refused : (bytes : List ℕ) (e : Error) → (initial_length is_big).Fault bytes e
      → (length_at is_big bytes).0 ≡ Err e
  length_refused bytes e (inl f) =
      grind (arith, bind_refused, reads_number)
  length_refused bytes e (inr f) =
      let first = (reads_number is_big 4).only f.0 f.2 f.1 f.4 in
      rw (f.3, first) (after_refused f.2 f.1 e f.5)

  reads_initial_length : Reads (initial_length is_big)
  reads_initial_length = search (arith, length_found, length_only, length_fault, length_refused)

-- ---- the length of a unit, and that an offset holds it

pub reads_unit_length : (layout : OrderAndLimit) → Reads (unit_length layout)
unfolding unit_length
reads_unit_length layout =
    reads_both (reads_initial_length layout.is_big) (λ u. reads_both (reads_check _ _) (λ fits. reads_done u))
