-- Texts that are read: each is the text that its value stands for.
use Rattle.std.specs.Prelude.{◌≡◌, ◌≢◌, ◌+◌, ◌<◌, ◌∷◌, ◌++◌, ◌≤◌}
use Rattle.gimli_write.proofs.Common
use Common.{ℕ, List, [], length, map, take, get_or, Ok, Err, refl, sym, ap, ◌∙◌}
use Common.{subst, append_assoc, arith, inl, inr, All, cases_lt, le-ltb, lt-ltb, map-append, length-append}
use Common.{length-drop, length-map, get_or-map, All-get_or, All-from_recursion, recursion_from_All, Value, Error}
use Common.{Sections, IsTextAt, IsText, OneByOne, text_from, text_of, HasText}
use Rattle.std.proofs.Math.Seq.{take-suc}
use Rattle.gimli_core.specs.Reading.{Read, skip_at, text_at}
use Rattle.gimli_core.specs.declared.attribute_value.AttributeValue.TheVariants.{String, DebugStrRef, DebugLineStrRef}
use Rattle.gimli_core.proofs.ProductionLaws.{reads_text}

-- ---- one text

-- what is read in front of bytes stands there
front_read : (bytes : List ℕ) {text : List ℕ} (r : Read (List ℕ)) → text_at bytes ≡ r → r.0 ≡ Ok text
    → (rest : List ℕ) × (bytes ≡ text ++ 0 ∷ rest) × All (λ b. b ≢ 0) text
front_read bytes {text} (Ok x, rest) read is =
    let found = reads_text.found bytes x rest read in
    let same : x ≡ text = cc in (
      rest,
      found.1 ∙ ap (λ xs. xs ++ rest) found.2.1 ∙ append_assoc x (0 ∷ []) rest ∙ ap (λ xs. xs ++ 0 ∷ rest) same,
      subst (λ xs. All (λ b. b ≢ 0) xs) same (All-from_recursion (λ b. b ≢ 0) x found.2.0),
    )
front_read bytes (Err e, rest) read is = absurd cc

-- what is read at an offset is the text there
text_from_read : {section : List ℕ} {offset : ℕ} {text : List ℕ} → text_from section offset ≡ Ok text
    → IsTextAt section offset text
text_from_read {section} {offset} is = elim (cases_lt (length section) offset) [
  | inl lt ↦ let refused = rw (lt-ltb (length section) offset lt, text_from, skip_at) at is in absurd cc
  | inr le ↦
      let read = rw (le-ltb (length section) offset le, text_from, skip_at) at is in
      let found = front_read _ _ refl read in
      record { rest = found.0; there = found.1; no_zero = found.2 }
]

-- and a text that is there is read
text_from_there : {section : List ℕ} {offset : ℕ} {text : List ℕ} → IsTextAt section offset text
    → text_from section offset ≡ Ok text
text_from_there {section} {offset} {text} at =
    let le : offset ≤ length section = omega
    (arith, length-drop offset section, ap length at.there, length-append text (0 ∷ at.rest)) in
    let only = reads_text.only (text ++ 0 ∷ []) text at.rest (recursion_from_All (λ b. b ≢ 0) _ at.no_zero, refl) in
    rw (le-ltb (length section) offset le, text_from, skip_at)
    (ap (λ bytes. (text_at bytes).0) (at.there ∙ sym (append_assoc text (0 ∷ []) at.rest)) ∙ ap (λ r. r.0) only)

pub text_read : (s : Sections) (v : Value) {text : List ℕ} → text_of s v ≡ Ok text → IsText s v text
text_read s (String bytes) is = cc
text_read s (DebugStrRef offset) is = text_from_read is
text_read s (DebugLineStrRef offset) is = text_from_read is
text_read s v is = absurd cc

pub text_there : (s : Sections) (v : Value) {text : List ℕ} → IsText s v text → text_of s v ≡ Ok text
text_there s (String bytes) is = rw is refl
text_there s (DebugStrRef offset) is = text_from_there is
text_there s (DebugLineStrRef offset) is = text_from_there is
text_there s v is = absurd is

-- so a value that stands for a text isn't refused
pub text_not_refused : (s : Sections) (v : Value) {e : Error} → HasText s v → text_of s v ≡ Err e → ⊥
text_not_refused s v has refused = grind (arith, text_there)

-- ---- one after the other

pub one_by_one_push : {A B : Type 0} (Related : A → B → Type 0) (xs : List A) (ys : List B) (x : A) (y : B)
    → OneByOne Related xs ys → Related x y → OneByOne Related (xs ++ x ∷ []) (ys ++ y ∷ [])
one_by_one_push Related [] [] x y all one = (one, tt)
one_by_one_push Related (a ∷ xs) (b ∷ ys) x y all one = (all.0, one_by_one_push Related xs ys x y all.1 one)
one_by_one_push Related [] (b ∷ ys) x y all one = absurd all
one_by_one_push Related (a ∷ xs) [] x y all one = absurd all

-- the elements so far, and one more
pub taken_more : {A : Type 0} (xs : List A) (i : ℕ) {x : A} → i < length xs → x ≡ get_or xs i x
    → take (i + 1) xs ≡ take i xs ++ x ∷ []
taken_more xs i lt is = grind (arith, take-suc)

pub one_by_one_more : {A B C D : Type 0} (Related : A → B → Type 0) (f : C → A) (g : D → B) (xs : List C) (ys : List D)
    (i : ℕ) (x : C) (y : D)
    → i < length xs → x ≡ get_or xs i x → OneByOne Related (map f (take i xs)) (map g ys) → Related (f x) (g y)
    → OneByOne Related (map f (take (i + 1) xs)) (map g (ys ++ y ∷ []))
one_by_one_more Related f g xs ys i x y lt is all one =
    rw (taken_more _ i lt is, map-append f (take i xs) (x ∷ []), map-append g ys (y ∷ []))
    (one_by_one_push _ _ _ _ _ all one)

-- what is true of all is true of one
pub mapped_at : {A C : Type 0} (P : A → Type 0) (f : C → A) (xs : List C) (i : ℕ) {x : C} → i < length xs
    → x ≡ get_or xs i x → All P (map f xs) → P (f x)
mapped_at P f xs i {x} lt is all =
    let within : i < length (map f xs) = rw (length-map xs f) lt in
    let there = All-get_or P _ i (f x) within all in
    rw is (rw (get_or-map f _ i x _ lt) at there)
