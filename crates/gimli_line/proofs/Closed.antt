-- Reading a table that a zero byte closes.
use Rattle.std.specs.Prelude.{◌≡◌, ◌≢◌, ◌<◌, ◌∷◌, ◌++◌}
use Rattle.gimli_line.proofs.Common
use Common.{ℕ, zero, suc, false, List, [], length, Ok, Err, refl, sym, ap, subst, ◌∙◌, append_assoc, inl, inr, arith}
use Common.{ne_eqb, length-append, Error, Read, ◌>>=◌, Production, ◌>>>◌, text, Each, IsOpen, list_to_zero}
use Common.{Reads, bind_ok, bind_fault, bind_refused, ok_parts, reads_text, path_text, is_closed, closed_at}
use Common.{closed_below}
use Rattle.std.proofs.lemmas.Bool.Decides.{eqb_tells}

-- bytes that begin with one that isn't zero
pub record Opens (bytes : List ℕ) : Type 0 where
  pub first : ℕ
  pub rest : List ℕ
  pub parts : bytes ≡ first ∷ rest
  pub other : first ≢ 0

-- a production is read wherever no zero byte comes next; and no spelling of it begins with one
pub record ReadsOpen {A : Type 0} (l : Production A) : Type 0 where
  pub found : (bytes : List ℕ) (x : A) (rest : List ℕ) → IsOpen bytes → l.read bytes ≡ (Ok x, rest)
      → (front : List ℕ) × (bytes ≡ front ++ rest) × l.Spells front x
  pub only : (front : List ℕ) (x : A) (rest : List ℕ) → l.Spells front x → l.read (front ++ rest) ≡ (Ok x, rest)
  pub opens : (front : List ℕ) (x : A) → l.Spells front x → Opens front
  pub fault : (bytes : List ℕ) (e : Error) → IsOpen bytes → (l.read bytes).0 ≡ Err e → l.Fault bytes e
  pub refused : (bytes : List ℕ) (e : Error) → IsOpen bytes → l.Fault bytes e → (l.read bytes).0 ≡ Err e

-- ---- texts that aren't empty

empty_text : (front xs rest : List ℕ) → text.Spells front xs → IsOpen (front ++ rest) → xs ≢ []
empty_text front [] rest s clear e = grind arith
empty_text front (b ∷ xs) rest s clear e = absurd cc

name_opens : (front xs : List ℕ) → path_text.Spells front xs → Opens front
name_opens front [] s = absurd (s.0 refl)
name_opens front (b ∷ xs) s = grind arith

pub reads_name : ReadsOpen path_text
reads_name = record {
  found = λ bytes xs rest clear e.
      let f = reads_text.found bytes xs rest e in
      (f.0, f.1, (empty_text _ _ _ f.2 (rw f.1 at clear), f.2));
  only = grind (arith, reads_text);
  opens = name_opens;
  fault = grind (arith, reads_text);
  refused = grind (arith, reads_text);
}

-- ---- a production, and after it the next

module _ {A B : Type 0} (l : Production A) (next : A → Production B) (first : ReadsOpen l)
    (second : (x : A) → Reads (next x)) where
  abbrev both : List ℕ → Read B
  both = (l >>> next).read

  abbrev after : A → List ℕ → Read B
  after x = (next x).read

  both_opens : (front : List ℕ) (y : B) → (l >>> next).Spells front y → Opens front
  both_opens front y s = grind arith

  both_fault : (bytes : List ℕ) (e : Error) → IsOpen bytes → (both bytes).0 ≡ Err e → (l >>> next).Fault bytes e
  both_fault bytes e clear is = elim (bind_fault _ _ e is) [
    | inl p ↦ inl (first.fault bytes e clear p)
    | inr a ↦ let p = first.found bytes a.0 a.1 clear a.2 in inr (a.0, p.0, a.1, p.1, p.2, (second a.0).fault a.1 e a.3)
  ]

  both_refused : (bytes : List ℕ) (e : Error) → IsOpen bytes → (l >>> next).Fault bytes e → (both bytes).0 ≡ Err e
  both_refused bytes e clear (inl p) = grind (arith)
  both_refused bytes e clear (inr s) = grind arith

  pub reads_open_both : ReadsOpen (l >>> next)
  reads_open_both = record {
    found = λ bytes y rest clear e.
        let a = bind_ok (l.read bytes) after y rest e in
        let p = first.found bytes a.0 a.1 clear a.2 in
        let q = (second a.0).found a.1 y rest a.3 in (
          p.0 ++ q.0,
          p.1 ∙ ap (λ (xs : List ℕ). p.0 ++ xs) q.1 ∙ sym (append_assoc p.0 q.0 rest),
          (a.0, p.0, q.0, refl, p.2, q.2),
        );
    only = grind (arith, append_assoc);
    opens = both_opens;
    fault = both_fault;
    refused = both_refused;
  }

-- ---- up to a zero byte

-- what comes next
data Next (bytes : List ℕ) : Type 0 where
  zero_byte : (rest : List ℕ) → bytes ≡ 0 ∷ rest → Next bytes
  other_byte : IsOpen bytes → is_closed bytes ≡ false → Next bytes

next_of : (bytes : List ℕ) → Next bytes
next_of [] = other_byte tt refl
next_of (b ∷ bytes) = elim (eqb_tells b 0) [
  | inl p ↦ zero_byte bytes (ap (λ n. n ∷ bytes) p.1)
  | inr p ↦ other_byte p.1 p.0
]

open_is : (bytes : List ℕ) → IsOpen bytes → is_closed bytes ≡ false
open_is [] clear = refl
open_is (b ∷ bytes) clear = ne_eqb b 0 clear

opens_is : (front rest : List ℕ) → Opens front → is_closed (front ++ rest) ≡ false
opens_is front rest o = grind (arith)

opens_longer : (front rest : List ℕ) → Opens front → length rest < length (front ++ rest)
opens_longer front rest o = grind (arith, length-append)

module _ {A : Type 0} (l : Production A) (r : ReadsOpen l) where
  abbrev read : List ℕ → Read A
  read = l.read

  -- another value, and the further ones
  abbrev more_at : ℕ → List ℕ → Read (List A)
  more_at more bytes = read bytes >>= λ x rest. closed_below more read rest >>= λ xs left. (Ok (x ∷ xs), left)

  another : (more : ℕ) (bytes : List ℕ) → is_closed bytes ≡ false
      → closed_below (suc more) read bytes ≡ more_at more bytes
  unfolding closed_below
  another more bytes is = rw is refl

  -- the parts of a table that was read
  closed_found : (more : ℕ) (bytes : List ℕ) (xs : List A) (rest : List ℕ)
      → closed_below more read bytes ≡ (Ok xs, rest)
      → (front : List ℕ) × (bytes ≡ front ++ rest) × (list_to_zero l).Spells front xs
  unfolding closed_below
  closed_found zero bytes xs rest e = let p = ap (λ (r : Read (List A)). r.0) e in absurd cc
  closed_found (suc more) bytes xs rest e = elim (next_of bytes) [
    | zero_byte left is ↦
        let p = ok_parts [] xs left rest (rw is at e) in (
          0 ∷ [],
          is ∙ ap (λ (ys : List ℕ). 0 ∷ ys) p.1,
          ([], refl, subst (λ (ys : List A). Each l.Spells [] ys) p.0 refl),
        )
    | other_byte clear is ↦
        let a = bind_ok (read bytes)
        (λ x rest. closed_below more read rest >>= λ xs left. (let r : Read (List A) = (Ok (x ∷ xs), left) in r)) xs
        rest
        (rw is at e) in
        let b =
        bind_ok (closed_below more read a.1) (λ ys left. (let r : Read (List A) = (Ok (a.0 ∷ ys), left) in r)) xs
        rest a.3 in
        let p = ok_parts (a.0 ∷ b.0) xs b.1 rest b.3 in
        let f = r.found bytes a.0 a.1 clear a.2 in
        let g = closed_found more a.1 b.0 b.1 b.2 in
        let whole : bytes ≡ (f.0 ++ g.0) ++ rest = f.1
        ∙ ap (λ (ys : List ℕ). f.0 ++ ys) (g.1 ∙ ap (λ (ys : List ℕ). g.0 ++ ys) p.1)
        ∙ sym (append_assoc f.0 g.0 rest) in
        let ends : f.0 ++ g.0 ≡ (f.0 ++ g.2.0) ++ 0 ∷ [] = ap (λ (ys : List ℕ). f.0 ++ ys) g.2.1
        ∙ sym (append_assoc f.0 g.2.0 (0 ∷ [])) in
        let each : Each l.Spells (f.0 ++ g.2.0) (a.0 ∷ b.0) = (f.0, g.2.0, refl, f.2, g.2.2) in
        (f.0 ++ g.0, whole, (f.0 ++ g.2.0, ends, subst (λ (ys : List A). Each l.Spells (f.0 ++ g.2.0) ys) p.0 each))
  ]

  closed_only : (xs : List A) (inner rest : List ℕ) (more : ℕ) → length (inner ++ 0 ∷ rest) < more
      → Each l.Spells inner xs
      → closed_below more read (inner ++ 0 ∷ rest) ≡ (Ok xs, rest)
  unfolding closed_below
  closed_only xs inner rest zero lt s = absurd (omega arith)
  closed_only [] inner rest (suc more) lt s = rw s refl
  closed_only (x ∷ xs) inner rest (suc more) lt s =
      let o = r.opens s.0 x s.3 in
      let regrouped : inner ++ 0 ∷ rest ≡ s.0 ++ (s.1 ++ 0 ∷ rest) = ap (λ (ys : List ℕ). ys ++ 0 ∷ rest) s.2
      ∙ append_assoc s.0 s.1 (0 ∷ rest) in
      let fewer = opens_longer s.0 (s.1 ++ 0 ∷ rest) o in
      let same : length (inner ++ 0 ∷ rest) ≡ length (s.0 ++ (s.1 ++ 0 ∷ rest)) = ap length regrouped in
      let here = another more (s.0 ++ (s.1 ++ 0 ∷ rest)) (opens_is s.0 (s.1 ++ 0 ∷ rest) o) in
      let first = r.only s.0 x (s.1 ++ 0 ∷ rest) s.3 in
      let others = closed_only xs s.1 rest more (omega arith) s.4 in
      ap (closed_below (suc more) read) regrouped ∙ here ∙ rw (first, others) refl

  closed_fault : (more : ℕ) (bytes : List ℕ) (e : Error) → length bytes < more
      → (closed_below more read bytes).0 ≡ Err e → (list_to_zero l).Fault bytes e
  unfolding closed_below
  closed_fault zero bytes e lt is = absurd (omega arith)
  closed_fault (suc more) bytes e lt is = elim (next_of bytes) [
    | zero_byte left same ↦ let p = rw same at is in absurd cc
    | other_byte clear test ↦
        elim (bind_fault (read bytes)
        (λ x rest. closed_below more read rest >>= λ xs left. (let r : Read (List A) = (Ok (x ∷ xs), left) in r)) e
        (rw test at is)) [
          | inl p ↦ ([], [], bytes, refl, refl, clear, r.fault bytes e clear p)
          | inr a ↦
              elim (bind_fault (closed_below more read a.1)
              (λ ys left. (let r : Read (List A) = (Ok (a.0 ∷ ys), left) in r)) e a.3) [
                | inl p ↦
                    let f = r.found bytes a.0 a.1 clear a.2 in
                    let o = r.opens f.0 a.0 f.2 in
                    let fewer = opens_longer f.0 a.1 o in
                    let same : length bytes ≡ length (f.0 ++ a.1) = ap length f.1 in
                    let g = closed_fault more a.1 e (omega arith) p in
                    let whole : bytes ≡ (f.0 ++ g.1) ++ g.2 = f.1 ∙ ap (λ (ys : List ℕ). f.0 ++ ys) g.3
                    ∙ sym (append_assoc f.0 g.1 g.2) in
                    (a.0 ∷ g.0, f.0 ++ g.1, g.2, whole, (f.0, g.1, refl, f.2, g.4), g.5, g.6)
                | inr b ↦ let none = b.3 in absurd cc
              ]
        ]
  ]

  closed_refused : (xs : List A) (front rest : List ℕ) (e : Error) (more : ℕ) → length (front ++ rest) < more
      → Each l.Spells front xs → IsOpen rest
      → l.Fault rest e → (closed_below more read (front ++ rest)).0 ≡ Err e
  unfolding closed_below
  closed_refused xs front rest e zero lt s clear f = absurd (omega arith)
  closed_refused [] front rest e (suc more) lt s clear f = rw (s, open_is rest clear) (bind_refused (read rest)
      (λ x left. closed_below more read left >>= λ xs end. (let r : Read (List A) = (Ok (x ∷ xs), end) in r)) e
      (r.refused rest e clear f))
  closed_refused (x ∷ xs) front rest e (suc more) lt s clear f =
      let o = r.opens s.0 x s.3 in
      let regrouped : front ++ rest ≡ s.0 ++ (s.1 ++ rest) = ap (λ (ys : List ℕ). ys ++ rest) s.2
      ∙ append_assoc s.0 s.1 rest in
      let fewer = opens_longer s.0 (s.1 ++ rest) o in
      let same : length (front ++ rest) ≡ length (s.0 ++ (s.1 ++ rest)) = ap length regrouped in
      let here = another more (s.0 ++ (s.1 ++ rest)) (opens_is s.0 (s.1 ++ rest) o) in
      let first = r.only s.0 x (s.1 ++ rest) s.3 in
      let others = closed_refused xs s.1 rest e more (omega arith) s.4 clear f in
      ap (λ (bytes : List ℕ). (closed_below (suc more) read bytes).0) regrouped ∙ ap (λ (y : Read (List A)). y.0) here
      ∙ rw first (bind_refused (closed_below more read (s.1 ++ rest))
      (λ ys left. (let r : Read (List A) = (Ok (x ∷ ys), left) in r)) e others)

  pub reads_closed : Reads (list_to_zero l)
  reads_closed = record {
    found = λ bytes xs rest e. closed_found (suc (length bytes)) bytes xs rest e;
    only = λ front xs rest s.
        let whole : front ++ rest ≡ s.0 ++ 0 ∷ rest = ap (λ (ys : List ℕ). ys ++ rest) s.1
        ∙ append_assoc s.0 (0 ∷ []) rest in
        ap (closed_at read) whole ∙ closed_only xs s.0 rest (suc (length (s.0 ++ 0 ∷ rest))) (omega arith) s.2;
    fault = λ bytes e is. closed_fault (suc (length bytes)) bytes e (omega arith) is;
    refused = λ bytes e f.
        let again = closed_refused f.0 f.1 f.2 e (suc (length (f.1 ++ f.2))) (omega arith) f.4 f.5 f.6 in
        ap (λ (ys : List ℕ). (closed_at read ys).0) f.3 ∙ again;
  }
