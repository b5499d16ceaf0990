-- Lemmas on pieces.
use Rattle.std.specs.Prelude.{◌≡◌, ◌+◌, ◌-◌, ◌*◌, ◌/◌, ◌%◌, ◌<◌, ◌≤◌, ◌∷◌, ◌++◌}
use Rattle.gimli_bytes.proofs.Common
use Common.{arith, ℕ, zero, suc, List, [], length, take, drop, set, get_or, refl, ap, sym, ◌∙◌, append_assoc}
use Common.{length-append, length-take, All, Ok, concat, div_ceil, take_at, drop_at, drop-drop, take-append-le}
use Common.{take-append-drop, All-head, All-tail, All-append, div-add-mod', div_below, overwrite_of, put_over}
use Rattle.std.proofs.Math.Seq.{take-append-add, drop-append-add}
use Rattle.std.proofs.lemmas.Grind.{common_steps, div_ceil_times}
use Rattle.std.proofs.lemmas.List.Folds.{concat-append}
use Rattle.gimli_bytes.specs.Pieces.{HaveSizes, NeedsNoPiece, ArePieces, in_use, HoldPieces}

abbrev pub Sized : ℕ → List (List ℕ) → Type 0
Sized n pieces = All (λ piece. length piece ≡ n) pieces

-- ---- pieces of one size

pub length-concat : (n : ℕ) (ps : List (List ℕ)) → Sized n ps → length (concat ps) ≡ length ps * n
length-concat n [] s = omega arith
length-concat n (p ∷ ps) s = omega (
  arith,
  length-append p (concat ps),
  length-concat n ps (All-tail (λ q. length q ≡ n) p ps s),
  All-head (λ q. length q ≡ n) p ps s,
)

-- ---- bytes put over others

pub length-put_over : (old : List ℕ) (at : ℕ) (bytes : List ℕ) → at + length bytes ≤ length old
    → length (put_over old at bytes) ≡ length old
length-put_over old at bytes h = grind (arith, common_steps)

-- in front of other bytes
pub put_over-front : (p c : List ℕ) (at : ℕ) (bytes : List ℕ) → at + length bytes ≤ length p
    → put_over p at bytes ++ c ≡ put_over (p ++ c) at bytes
put_over-front p c at bytes h = grind (arith, common_steps)

-- after other bytes
pub put_over-after : (p c : List ℕ) (at : ℕ) (bytes : List ℕ)
    → put_over (p ++ c) (length p + at) bytes ≡ p ++ put_over c at bytes
put_over-after p c at bytes = grind (arith, drop-append-add, take-append-add, append_assoc)

-- two parts, one after the other
pub put_over-twice : (old : List ℕ) (at : ℕ) (a b : List ℕ) → at + length a ≤ length old
    → put_over (put_over old at a) (at + length a) b ≡ put_over old at (a ++ b)
put_over-twice old at a b h =
    let front : length (take at old ++ a)
    ≡ at + length a = omega (arith, length-append (take at old) a, length-take at old) in
    let taken : take (at + length a) (put_over old at a)
    ≡ take at old ++ a = take_at (take at old ++ a) (drop (at + length a) old) (at + length a) front in
    let dropped : drop (at + length a) (put_over old at a)
    ≡ drop (at + length a) old = drop_at (take at old ++ a) (drop (at + length a) old) (at + length a) front in
    let far : at + length (a ++ b) ≡ at + length a + length b = omega (arith, length-append a b) in
    let back : drop (at + length a + length b) (put_over old at a) ≡ drop (at + length (a ++ b)) old =
    sym (drop-drop (length b) (at + length a) (put_over old at a)) ∙ ap (drop (length b)) dropped
    ∙ drop-drop (length b) (at + length a) old ∙ ap (λ k. drop k old) (sym far) in
    rw (taken, back) (simp append_assoc)

-- what ends with them
pub take-put_over : (old : List ℕ) (at : ℕ) (bytes : List ℕ) → at ≤ length old
    → take (at + length bytes) (put_over old at bytes) ≡ take at old ++ bytes
take-put_over old at bytes h = grind (arith, take_at, length-append, length-take)

-- what ends after them
pub put_over-take : (old : List ℕ) (len at : ℕ) (bytes : List ℕ) → at + length bytes ≤ len → len ≤ length old
    → take len (put_over old at bytes) ≡ put_over (take len old) at bytes
put_over-take old len at bytes h k =
    let parts = put_over-front (take len old) (drop len old) at bytes (omega (arith, length-take len old)) in
    let whole : put_over (take len old) at bytes ++ drop len old
    ≡ put_over old at bytes = rw (take-append-drop len old) at parts in
    let size : length (put_over (take len old) at bytes)
    ≡ len = omega
    (arith, length-put_over (take len old) at bytes (omega (arith, length-take len old)), length-take len old) in
    rw (← whole) (take_at (put_over (take len old) at bytes) (drop len old) len size)

-- ---- bytes put into a piece

pub put_over-piece : (n : ℕ) (ps : List (List ℕ)) (i start : ℕ) (d bytes : List ℕ) → Sized n ps → i < length ps
    → start + length bytes ≤ n
    → concat (set ps i (put_over (get_or ps i d) start bytes)) ≡ put_over (concat ps) (i * n + start) bytes
put_over-piece n [] i start d bytes s inside fits = absurd (omega arith)
put_over-piece n (q ∷ ps) zero start d bytes s inside fits =
    let size : length q ≡ n = All-head (λ q. length q ≡ n) q ps s in
    let place : zero * n + start ≡ start = omega arith in
    rw place (put_over-front q (concat ps) start bytes (omega arith))
put_over-piece n (q ∷ ps) (suc i) start d bytes s inside fits =
    let size : length q ≡ n = All-head (λ q. length q ≡ n) q ps s in
    let place : suc i * n + start ≡ length q + (i * n + start) = omega arith in
    let later = put_over-piece n ps i start d bytes (All-tail (λ q. length q ≡ n) q ps s) (omega arith) fits in
    rw (place, later) (sym (put_over-after q (concat ps) (i * n + start) bytes))

-- a place within the bytes is within a piece
pub piece-inside : (n at : ℕ) (ps : List (List ℕ)) → 1 ≤ n → Sized n ps → at < length (concat ps) → at / n < length ps
piece-inside n at ps one s h = grind (arith, length-concat, div_below)

-- what is left to put, after the part that goes into one piece
pub put-step : (n at : ℕ) (ps : List (List ℕ)) (d now later rest new : List ℕ) → Sized n ps → at / n < length ps
    → now ++ later ≡ rest
    → at + length rest ≤ length (concat ps) → at % n + length now ≤ n
    → new ≡ put_over (get_or ps (at / n) d) (at % n) now
    → put_over (concat (set ps (at / n) new)) (at + length now) later ≡ put_over (concat ps) at rest
put-step n at ps d now later rest new s inside parts within fits is =
    let place : at / n * n + at % n ≡ at = div-add-mod' at n in
    let whole : concat (set ps (at / n) new) ≡ put_over (concat ps) at now =
    ap (λ (q : List ℕ). concat (set ps (at / n) q)) is ∙ put_over-piece n _ _ _ d _ s inside fits
    ∙ ap (λ k. put_over (concat ps) k now) place in
    let size = ap (λ (l : List ℕ). length l) parts in
    let both = length-append now later in
    ap (λ (l : List ℕ). put_over l (at + length now) later) whole
    ∙ put_over-twice (concat ps) at now later (omega arith) ∙ ap (λ (l : List ℕ). put_over (concat ps) at l) parts

-- ---- pieces in use

take_joined : (n : ℕ) (xs ys : List ℕ) → take n (xs ++ ys) ≡ take n xs ++ take (n - length xs) ys
take_joined zero xs ys = let z : 0 - length xs ≡ 0 = omega arith in rw z refl
take_joined (suc n) [] ys = let z : suc n - 0 ≡ suc n = omega arith in rw z refl
take_joined (suc n) (x ∷ xs) ys =
    let z : suc n - suc (length xs) ≡ n - length xs = omega arith in rw z (ap (λ l. x ∷ l) (take_joined n _ _))

pub concat-in_use : (len : ℕ) (ps : List (List ℕ)) → concat (in_use len ps) ≡ take len (concat ps)
concat-in_use len [] = grind (arith, common_steps)
concat-in_use len (p ∷ ps) =
    ap (λ (l : List ℕ). take len p ++ l) (concat-in_use (len - length p) ps) ∙ sym (take_joined len p (concat ps))

pub in_use-HaveSizes : (n len : ℕ) (ps : List (List ℕ)) → 1 ≤ n → Sized n ps → length ps * n < len + n
    → HaveSizes n (in_use len ps)
in_use-HaveSizes n len [] one s h = tt
in_use-HaveSizes n len (p ∷ []) one s h =
    let size : length p ≡ n = All-head (λ q. length q ≡ n) p [] s in
    (omega (arith, length-take len p), omega (arith, length-take len p))
in_use-HaveSizes n len (p ∷ q ∷ ps) one s h =
    let size : length p ≡ n = All-head (λ q. length q ≡ n) p (q ∷ ps) s in (
      omega (arith, length-take len p),
      in_use-HaveSizes n (len - length p) (q ∷ ps) one (All-tail (λ q. length q ≡ n) p (q ∷ ps) s) (omega arith),
    )

-- ---- how many pieces there are

pub count-below : (n len more k : ℕ) → 1 ≤ n → k * n < len + n → k ≤ div_ceil (len + more) n
count-below n len more k one needed = grind (arith)

-- ---- the memory of a section

pub HoldPieces-more : (n len more : ℕ) (ps qs : List (List ℕ)) → HoldPieces n len ps → Sized n qs
    → length qs ≡ div_ceil (len + more) n - length ps
    → HoldPieces n (len + more) (ps ++ qs)
HoldPieces-more n len more ps qs h s count =
    let bounds = div_ceil_times (len + more) n h.positive in
    let below = count-below n _ more _ h.positive h.needed in
    let all : length (ps ++ qs) ≡ div_ceil (len + more) n = omega (arith, length-append ps qs) in
    record {
      positive = h.positive;
      sizes = All-append (λ p. length p ≡ n) ps qs h.sizes s;
      enough = rw all bounds.0;
      needed = rw all bounds.1;
    }

pub HoldPieces-same : (n len : ℕ) (ps qs : List (List ℕ)) → HoldPieces n len ps → Sized n qs → length qs ≡ length ps
    → HoldPieces n len qs
HoldPieces-same n len ps qs h s count = grind arith

pub bytes-within : (n len : ℕ) (ps : List (List ℕ)) → HoldPieces n len ps → len ≤ length (concat ps)
bytes-within n len ps h = omega (arith, length-concat n _ h.sizes)

pub bytes-length : (n len : ℕ) (ps : List (List ℕ)) → HoldPieces n len ps → length (take len (concat ps)) ≡ len
bytes-length n len ps h = omega (arith, length-take len (concat ps), bytes-within n _ _ h)

pub pieces-in_use : (n len : ℕ) (ps : List (List ℕ)) → HoldPieces n len ps
    → ArePieces n (take len (concat ps)) (in_use len ps)
pieces-in_use n len ps h = grind (arith, concat-in_use, in_use-HaveSizes)

-- the memory after new pieces
pub HoldPieces-grown : (n len more d k : ℕ) (ps qs all : List (List ℕ)) → HoldPieces n len ps → all ≡ ps ++ qs
    → Sized n qs → length qs ≡ d - k
    → d ≡ div_ceil (len + more) n → k ≡ length ps → HoldPieces n (len + more) all
HoldPieces-grown n len more d k ps qs all h is s count ceil size =
    let counted : length qs ≡ div_ceil (len + more) n - length ps = count ∙ ap (λ i. i - k) ceil
    ∙ ap (λ i. div_ceil (len + more) n - i) size in
    rw is (HoldPieces-more n _ _ _ _ h s counted)

-- bytes put after those in use
pub bytes-more : (n len : ℕ) (ps qs all rs : List (List ℕ)) (bytes : List ℕ) → HoldPieces n len ps → all ≡ ps ++ qs
    → concat rs ≡ put_over (concat all) len bytes
    → take (len + length bytes) (concat rs) ≡ take len (concat ps) ++ bytes
bytes-more n len ps qs all rs bytes h is e =
    let inside = bytes-within n _ _ h in
    let joined : concat all ≡ concat ps ++ concat qs = ap (λ l. concat l) is ∙ concat-append ps qs in
    let size = ap (λ l. length l) joined ∙ length-append (concat ps) (concat qs) in
    let room : len ≤ length (concat all) = omega arith in
    ap (λ l. take (len + length bytes) l) e ∙ take-put_over _ _ _ room
    ∙ ap (λ l. l ++ bytes) (ap (λ l. take len l) joined ∙ take-append-le len (concat ps) (concat qs) inside)

-- bytes put over some of those in use
pub bytes-over : (n len at : ℕ) (ps rs : List (List ℕ)) (bytes : List ℕ) → HoldPieces n len ps → at + length bytes ≤ len
    → concat rs ≡ put_over (concat ps) at bytes
    → take len (concat rs) ≡ put_over (take len (concat ps)) at bytes
bytes-over n len at ps rs bytes h fits e = ap (λ l. take len l) e ∙ put_over-take _ _ _ _ fits (bytes-within n _ _ h)

pub take-before : (old : List ℕ) (at : ℕ) (bytes : List ℕ) → at ≤ length old
    → take at (put_over old at bytes) ≡ take at old
take-before old at bytes h = grind (arith, append_assoc, take_at, length-take)

-- ---- the refusals of a place

pub patched-inside : (old : List ℕ) (at : ℕ) (bytes new : List ℕ) → at + length bytes ≤ length old
    → new ≡ put_over old at bytes
    → overwrite_of old at bytes ≡ Ok new
patched-inside old at bytes new h is = grind (arith)

-- so many pieces
pub piece-count : (n len : ℕ) (ps : List (List ℕ)) → HoldPieces n len ps
    → length ps ≡ div_ceil (length (take len (concat ps))) n
piece-count n len ps h = grind (arith, bytes-length)

-- where no more are needed
pub no_piece : (n len more : ℕ) (ps : List (List ℕ)) → HoldPieces n len ps
    → NeedsNoPiece n (length (take len (concat ps))) more
    → div_ceil (len + more) n ≡ length ps
no_piece n len more ps h e = grind (arith, bytes-length, piece-count)
