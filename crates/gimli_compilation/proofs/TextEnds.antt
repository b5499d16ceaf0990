-- Where texts end.
use Rattle.std.proofs.Common.{◌≡◌, refl, sym, ap, ◌∙◌, ℕ, suc, zero, ◌+◌, ◌-◌, ◌<◌, ◌≤◌, List, [], ◌∷◌, length, take}
use Rattle.std.proofs.Common.{drop}
use Rattle.std.proofs.Common.{Bool, true, false, cond, if◌then◌else◌, Some, None, Result, Ok, Err, arith, rules}
use Rattle.std.specs.Prelude.{nat_eq, nat_lt, not}
use Rattle.std.proofs.lemmas.Bool.{le-ltb, ltb-true, ltb-false}
use Rattle.std.proofs.lemmas.List.{drop-drop, length-drop}
use Rattle.gimli_core.specs.Reading.{Read, eof, find_at, split_at, text_at}
use Rattle.gimli_core.specs.declared.error.Error.{Error}
use Rattle.gimli_core.specs.declared.error.Error.TheVariants.{UnexpectedEof}
use Rattle.gimli_compilation.specs.inside.TextEnds.{text_size}

-- ---- what a search finds

pub size_le : (l : List ℕ) → text_size l ≤ length l
size_le [] = omega arith
size_le (b ∷ l) = at_test (nat_eq b 0) (size_le l)
  where
    at_test : (t : Bool) → text_size l ≤ length l → cond (not t) (1 + text_size l) 0 ≤ suc (length l)
    at_test true more = omega arith
    at_test false more = omega (arith, more)

abbrev ok_or : ℕ → Result ℕ Error → ℕ
ok_or n (Ok m) = m
ok_or n (Err e) = n

pub found : (l : List ℕ) (n : ℕ) → Ok n ≡ find_at 0 l → (n ≡ text_size l) × (text_size l < length l)
found l n is = at_test (nat_lt (text_size l) (length l)) refl is
  where
    at_test : (t : Bool) → nat_lt (text_size l) (length l) ≡ t
        → ◌≡◌ {A = Result ℕ Error} (Ok n)
        (elim (cond t (Some (text_size l)) None) [ Some k ↦ Ok k | None ↦ Err (eof l) ])
        → (n ≡ text_size l) × (text_size l < length l)
    at_test true less is = (ap (ok_or n) is, ltb-true _ _ less)
    at_test false less is = absurd (search rules)

pub not_found : (l : List ℕ) (e : Error) → Err e ≡ find_at 0 l → text_size l ≡ length l
not_found l e is = at_test (nat_lt (text_size l) (length l)) refl is
  where
    at_test : (t : Bool) → nat_lt (text_size l) (length l) ≡ t
        → ◌≡◌ {A = Result ℕ Error} (Err e)
        (elim (cond t (Some (text_size l)) None) [ Some k ↦ Ok k | None ↦ Err (eof l) ])
        → text_size l ≡ length l
    at_test true less is = absurd (search rules)
    at_test false less is = let most = size_le l in let least = ltb-false _ _ less in omega (arith, most, least)

-- ---- from other places on

-- what stands before the end, from a later place on
pub size_within : (l : List ℕ) (k : ℕ) → k ≤ text_size l → text_size l ≡ k + text_size (drop k l)
size_within l zero h = omega arith
size_within [] (suc k) h = absurd (omega arith)
size_within (b ∷ l) (suc k) h = at_test (nat_eq b 0) (size_within l k) h
  where
    at_test : (t : Bool) → (k ≤ text_size l → text_size l ≡ k + text_size (drop k l))
        → suc k ≤ cond (not t) (1 + text_size l) 0
        → cond (not t) (1 + text_size l) 0 ≡ suc k + text_size (drop k l)
    at_test true more h = absurd (omega arith)
    at_test false more h = let same = more (omega arith) in omega (arith, same)

-- a zero byte among the first ones
pub size_in_front : (l : List ℕ) (k : ℕ) → text_size (take k l) < length (take k l) → text_size l ≡ text_size (take k l)
size_in_front [] zero h = absurd (omega arith)
size_in_front [] (suc k) h = absurd (omega arith)
size_in_front (b ∷ l) zero h = absurd (omega arith)
size_in_front (b ∷ l) (suc k) h = at_test (nat_eq b 0) (size_in_front l k) h
  where
    at_test : (t : Bool) → (text_size (take k l) < length (take k l) → text_size l ≡ text_size (take k l))
        → cond (not t) (1 + text_size (take k l)) 0 < suc (length (take k l))
        → cond (not t) (1 + text_size l) 0 ≡ cond (not t) (1 + text_size (take k l)) 0
    at_test true more h = refl
    at_test false more h = let same = more (omega arith) in omega (arith, same)

-- none among these
pub size_past : (l : List ℕ) (k : ℕ) → k ≤ length l → text_size (take k l) ≡ length (take k l)
    → text_size l ≡ k + text_size (drop k l)
size_past l zero h all = omega arith
size_past [] (suc k) h all = absurd (omega arith)
size_past (b ∷ l) (suc k) h all = at_test (nat_eq b 0) (size_past l k (omega arith)) all
  where
    at_test : (t : Bool) → (text_size (take k l) ≡ length (take k l) → text_size l ≡ k + text_size (drop k l))
        → cond (not t) (1 + text_size (take k l)) 0 ≡ suc (length (take k l))
        → cond (not t) (1 + text_size l) 0 ≡ suc k + text_size (drop k l)
    at_test true more all = absurd (omega arith)
    at_test false more all = let same = more (omega arith) in omega (arith, same)

-- ---- the text

pub text_without_end : (l : List ℕ) → length l ≤ text_size l → Err (eof l) ≡ (text_at l).0
text_without_end l least = rw (text_at, le-ltb _ _ least) refl

-- nothing is left after the text, and so no zero byte
pub cut_empty : (l : List ℕ) (n : ℕ) (part : List ℕ) → (Ok part, []) ≡ split_at n l → n ≡ text_size l
    → Err (UnexpectedEof (record { 0 = n })) ≡ (text_at l).0
cut_empty l n part is size = at_test (nat_lt (length l) n) is
  where
    at_test : (t : Bool)
        → (let r : Read (List ℕ) = (Ok part, []) in r) ≡ (if t then (Err (eof l), l) else (Ok (take n l), drop n l))
        → Err (UnexpectedEof (record { 0 = n })) ≡ (text_at l).0
    at_test true is = absurd (search rules)
    at_test false is =
        let none : drop n l ≡ [] = sym (ap (λ (r : Read (List ℕ)). r.1) is) in
        let left : length l - n ≡ 0 = sym (length-drop n l) ∙ ap length none in
        let most = size_le l in
        let same : n ≡ length l = omega (arith, left, most, size) in
        rw same (text_without_end l (omega (arith, left, size)))

-- ---- an end that is known

pub size_known : (section : List ℕ) (end start offset : ℕ) → end ≡ start + text_size (drop start section)
    → start ≤ offset → offset ≤ end
    → end - offset ≡ text_size (drop offset section)
size_known section end start offset is from up_to =
    let k : ℕ = offset - start in
    let within : k ≤ text_size (drop start section) = omega (arith, is) in
    let whole = size_within (drop start section) k within in
    let place : start + k ≡ offset = omega arith in
    let same : drop k (drop start section) ≡ drop offset section =
    drop-drop k start section ∙ ap (λ o. drop o section) place in
    let size : end - offset ≡ text_size (drop k (drop start section)) = omega (arith, is, whole) in
    size ∙ ap text_size same
