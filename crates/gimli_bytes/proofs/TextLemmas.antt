-- The keys of a table, seen as texts.
use Rattle.std.specs.Prelude.{◌≡◌, ◌≢◌, ◌+◌, ◌-◌, ◌||◌, ◌∷◌, ◌++◌, if◌then◌else◌, ◌<◌}
use Rattle.gimli_bytes.proofs.Common
use Common.{ℕ, zero, suc, Bool, true, false, cond, not, List, [], map, length, take, drop, get_or, Some, refl}
use Rattle.std.proofs.lemmas.Bool.{ltb-false, ltb-true}
use Common.{sym, ap, ◌∙◌, arith, true≢false, position, append_assoc, length-append, bytes_eq, All, Contains, slice_get}
use Common.{nat_lt, list_any, position_or_len, prefix_len, map-append, take_all, take-append-le, drop-drop, drop_at}
use Common.{All-push, AreTexts, KeepsTexts, with_text, index_of_text, byte_count, offset_of, table_bytes, texts_of}
use Rattle.gimli_bytes.specs.inside.TextFields.{IsInside}
use Rattle.std.specs.declared.vec.Vec.{Vec}
use Rattle.std.specs.declared.alloc.Global.{Global}
use Rattle.std.proofs.lemmas.List.{get_or_append_left, get_or-append_right}
use Rattle.std.proofs.lemmas.Option.{slice_get_within}
use Rattle.std.proofs.lemmas.List.Folds.{list_any_at}
use Rattle.std.proofs.lemmas.List.Quantifiers.{all_pairs_push}
use Rattle.std.proofs.lemmas.List.Sums.{sum_by-append, sum_by-cons}
use Rattle.std.proofs.lemmas.Slice.Eq.{bytes_eq-Decides}

-- ---- from keys to texts

pub any-map : {A B : Type 0} (p : B → Bool) (h : A → B) (ks : List A)
    → list_any p (map h ks) ≡ list_any (λ k. p (h k)) ks
any-map p h [] = refl
any-map p h (k ∷ ks) = ap (λ b. p (h k) || b) (any-map p h ks)

prefix-map : {A B : Type 0} (p : B → Bool) (h : A → B) (ks : List A)
    → prefix_len p (map h ks) ≡ prefix_len (λ k. p (h k)) ks
prefix-map p h [] = refl
prefix-map p h (k ∷ ks) = ap (λ n. cond (p (h k)) (1 + n) 0) (prefix-map p h ks)

-- what a place that a search gave is
pub index_found : {A : Type 0} (p : A → Bool) (ks : List A) (i : ℕ) → Some i ≡ position p ks → i ≡ position_or_len p ks
index_found p ks i e = grind (arith)

-- whether a text is there
pub is_there : (ks : List (Vec ℕ Global)) (t : List ℕ) (b : Bool) → b ≡ list_any (λ k. bytes_eq t k.items) ks
    → list_any (bytes_eq t) (texts_of ks) ≡ b
is_there ks t b e = grind (arith, any-map)

place_is : (ks : List (Vec ℕ Global)) (t : List ℕ)
    → position_or_len (λ k. bytes_eq t k.items) ks ≡ index_of_text (texts_of ks) t
place_is ks t = grind (arith, prefix-map)

-- a text that a search doesn't find is none of them
pub not_there : (ks : List (Vec ℕ Global)) (t : List ℕ) → false ≡ list_any (λ k. bytes_eq t k.items) ks
    → Contains (texts_of ks) t → ⊥
not_there ks t e h = grind (arith, list_any_at, bytes_eq-Decides, is_there)

-- the place of a text that is there
pub index_there : (ks : List (Vec ℕ Global)) (t : List ℕ) (i : ℕ) → Some i ≡ position (λ k. bytes_eq t k.items) ks
    → i ≡ index_of_text (texts_of ks) t
index_there ks t i e = grind (arith, place_is)

-- the place of a new text
pub place_new : (ks : List (Vec ℕ Global)) (t : List ℕ) (v : Vec ℕ Global) → v.items ≡ t
    → position_or_len (λ k. bytes_eq v.items k.items) ks ≡ index_of_text (texts_of ks) t
place_new ks t v e =
    ap (λ (x : List ℕ). position_or_len (λ (k : Vec ℕ Global). bytes_eq x k.items) ks) e ∙ place_is ks t

-- the keys after a new one
pub texts_new : (ks : List (Vec ℕ Global)) (t : List ℕ) (v : Vec ℕ Global) → v.items ≡ t
    → false ≡ list_any (λ k. bytes_eq t k.items) ks
    → texts_of (if list_any (λ k. bytes_eq v.items k.items) ks then ks else ks ++ v ∷ []) ≡ with_text (texts_of ks) t
texts_new ks t v e absent = grind (arith, map-append, is_there)

-- ---- a text is added

-- a text that is there
pub with_text-there : (ts : List (List ℕ)) (t : List ℕ) → list_any (bytes_eq t) ts ≡ true → with_text ts t ≡ ts
with_text-there ts t h = grind arith

pub byte_count-new : (ts : List (List ℕ)) (t : List ℕ) → list_any (bytes_eq t) ts ≡ false
    → byte_count (with_text ts t) ≡ byte_count ts + length t + 1
byte_count-new ts t absent = grind (arith, sum_by-append)

pub with_text-AreTexts : (ts : List (List ℕ)) (t : List ℕ) → AreTexts ts → All (λ b. b ≢ 0) t
    → AreTexts (with_text ts t)
with_text-AreTexts ts t so clean = by (list_any (bytes_eq t) ts) refl
  where
    by : (b : Bool) → list_any (bytes_eq t) ts ≡ b → AreTexts (if b then ts else ts ++ t ∷ [])
    by true h = so
    by false h = record {
      distinct = all_pairs_push (λ s u. s ≢ u) ts t so.distinct (λ k d short same. true≢false
          (sym (list_any_at (bytes_eq t) ts k d short ((bytes_eq-Decides t (get_or ts k d)).1 (sym same))) ∙ h));
      no_zero = All-push (λ u. All (λ b. b ≢ 0) u) ts t so.no_zero clean;
    }

found-there : (ts : List (List ℕ)) (t : List ℕ) → list_any (bytes_eq t) ts ≡ true
    → slice_get ts (index_of_text ts t) ≡ Some t
found-there [] t h = cc
found-there (s ∷ ts) t h = at (bytes_eq t s) refl (found-there ts t) h
  where
    at : (b : Bool) → bytes_eq t s ≡ b → (list_any (bytes_eq t) ts ≡ true → slice_get ts (index_of_text ts t) ≡ Some t)
        → (b || list_any (bytes_eq t) ts) ≡ true
        → slice_get (s ∷ ts) (cond (not b) (1 + index_of_text ts t) 0) ≡ Some t
    at true e rest h = grind (arith, bytes_eq-Decides)
    at false e rest h = grind arith

found-new : (ts : List (List ℕ)) (t : List ℕ) → list_any (bytes_eq t) ts ≡ false
    → slice_get (ts ++ t ∷ []) (index_of_text ts t) ≡ Some t
found-new [] t h = refl
found-new (s ∷ ts) t h = at (bytes_eq t s) (found-new ts t) h
  where
    at : (b : Bool) → (list_any (bytes_eq t) ts ≡ false → slice_get (ts ++ t ∷ []) (index_of_text ts t) ≡ Some t)
        → (b || list_any (bytes_eq t) ts) ≡ false
        → slice_get (s ∷ ts ++ t ∷ []) (cond (not b) (1 + index_of_text ts t) 0) ≡ Some t
    at true rest h = cc
    at false rest h = grind arith

-- an added text stands at its place
pub with_text-found : (ts : List (List ℕ)) (t : List ℕ) → slice_get (with_text ts t) (index_of_text ts t) ≡ Some t
with_text-found ts t = by (list_any (bytes_eq t) ts) refl
  where
    by : (b : Bool) → list_any (bytes_eq t) ts ≡ b
        → slice_get (if b then ts else ts ++ t ∷ []) (index_of_text ts t) ≡ Some t
    by true h = found-there _ t h
    by false h = found-new _ t h

slice_get-kept : (ts us : List (List ℕ)) (i : ℕ) → i < length ts → slice_get (ts ++ us) i ≡ slice_get ts i
slice_get-kept [] us i h = absurd (omega arith)
slice_get-kept (t ∷ ts) us zero h = refl
slice_get-kept (t ∷ ts) us (suc i) h = slice_get-kept ts us i (omega arith)

-- the texts that were there keep their ids and their offsets
pub with_text-KeepsTexts : (ts : List (List ℕ)) (t : List ℕ) → KeepsTexts ts (with_text ts t)
with_text-KeepsTexts ts t = by (list_any (bytes_eq t) ts)
  where
    by : (b : Bool) → KeepsTexts ts (if b then ts else ts ++ t ∷ [])
    by true = grind arith
    by false = grind (arith, slice_get-kept, take-append-le)

-- ---- the bytes of a table

pub length-table_bytes : (ts : List (List ℕ)) → length (table_bytes ts) ≡ byte_count ts
length-table_bytes [] = refl
length-table_bytes (t ∷ ts) = omega (
  arith,
  length-append (t ++ 0 ∷ []) (table_bytes ts),
  length-append t (0 ∷ []),
  sum_by-cons (λ (x : List ℕ). length x + 1) t ts,
  length-table_bytes ts,
)

pub table_bytes-at : (ts : List (List ℕ)) (i : ℕ) (t : List ℕ) → slice_get ts i ≡ Some t
    → drop (offset_of ts i) (table_bytes ts) ≡ t ++ 0 ∷ table_bytes (drop (i + 1) ts)
table_bytes-at [] i t h = cc
table_bytes-at (s ∷ ts) zero t h = grind (arith, append_assoc)
table_bytes-at (s ∷ ts) (suc i) t h =
    let first : length (s ++ 0 ∷ []) ≡ length s + 1 = length-append s (0 ∷ []) in
    let more : suc i + 1 ≡ suc (i + 1) = omega arith in
    ap (λ (n : ℕ). drop n (table_bytes (s ∷ ts))) (sum_by-cons (λ (x : List ℕ). length x + 1) s (take i ts))
    ∙ sym (drop-drop (offset_of ts i) (length s + 1) (table_bytes (s ∷ ts)))
    ∙ ap (drop (offset_of ts i)) (drop_at (s ++ 0 ∷ []) (table_bytes ts) (length s + 1) first) ∙ table_bytes-at ts i t h
    ∙ ap (λ (n : ℕ). t ++ 0 ∷ table_bytes (drop n (s ∷ ts))) (sym more)

-- ---- the offsets of a table

-- the offsets of a table to which a text was added
pub offsets_new : (ts : List (List ℕ)) (t : List ℕ) (offsets : List ℕ) (len : ℕ) → IsInside ts offsets len
    → list_any (bytes_eq t) ts ≡ false → All (λ b. b ≢ 0) t
    → IsInside (with_text ts t) (offsets ++ len ∷ []) (len + length t + 1)
offsets_new ts t offsets len is absent clean = record {
  are_texts = with_text-AreTexts ts t is.are_texts clean;
  listed = omega (arith, is.listed, length-append offsets (len ∷ []), long);
  begins = begins;
  counted = omega (arith, is.counted, byte_count-new ts t absent);
}
  where
    last : with_text ts t ≡ ts ++ t ∷ []
    last = ap (λ b. if b then ts else ts ++ t ∷ []) absent

    long : length (with_text ts t) ≡ length ts + 1
    long = ap length last ∙ length-append ts (t ∷ [])

    keeps : KeepsTexts ts (with_text ts t)
    keeps = with_text-KeepsTexts ts t

    at_end : offset_of (with_text ts t) (length ts) ≡ len
    at_end = ap (λ us. offset_of us (length ts)) last
        ∙ ap byte_count (take-append-le (length ts) ts (t ∷ []) (omega arith) ∙ take_all (length ts) ts (omega arith))
        ∙ sym is.counted

    at : (i d : ℕ) (b : Bool) → nat_lt i (length ts) ≡ b → i < length (with_text ts t)
        → get_or (offsets ++ len ∷ []) i d ≡ offset_of (with_text ts t) i
    at i d true before short =
        let early : i < length ts = ltb-true i (length ts) before in
        get_or_append_left offsets (len ∷ []) d i (omega (arith, early, is.listed))
        ∙ is.begins i d early ∙ sym (keeps.offset i early)
    at i d false after short =
        let end : i ≡ length ts = omega (arith, ltb-false i (length ts) after, short, long) in
        get_or-append_right offsets (len ∷ []) (length ts) i d is.listed (omega (arith, end))
        ∙ ap (λ k. get_or (len ∷ []) (k - length ts) d) end ∙ grind (arith, at_end)

    begins : (i d : ℕ) → i < length (with_text ts t)
        → get_or (offsets ++ len ∷ []) i d ≡ offset_of (with_text ts t) i
    begins i d short = at i d (nat_lt i (length ts)) refl short

-- where a text is that is there
pub place_within : (ts : List (List ℕ)) (t : List ℕ) → list_any (bytes_eq t) ts ≡ true
    → index_of_text ts t < length ts
place_within ts t there = slice_get_within ts (index_of_text ts t) t (found-there ts t there)

-- where an absent text goes
absent_last : (ts : List (List ℕ)) (t : List ℕ) → list_any (bytes_eq t) ts ≡ false → index_of_text ts t ≡ length ts
absent_last [] t absent = refl
absent_last (s ∷ ts) t absent = at (bytes_eq t s) (absent_last ts t) absent
  where
    at : (b : Bool) → (list_any (bytes_eq t) ts ≡ false → index_of_text ts t ≡ length ts)
        → (b || list_any (bytes_eq t) ts) ≡ false → cond (not b) (1 + index_of_text ts t) 0 ≡ length (s ∷ ts)
    at true rest h = absurd cc
    at false rest h = omega (arith, rest h)

pub offset_absent : (ts : List (List ℕ)) (t : List ℕ) → list_any (bytes_eq t) ts ≡ false
    → byte_count ts ≡ offset_of (with_text ts t) (index_of_text ts t)
offset_absent ts t absent = sym (ap (offset_of (with_text ts t)) (absent_last ts t absent)
    ∙ ap (λ b. offset_of (if b then ts else ts ++ t ∷ []) (length ts)) absent
    ∙ ap byte_count (take-append-le (length ts) ts (t ∷ []) (omega arith) ∙ take_all (length ts) ts (omega arith)))
