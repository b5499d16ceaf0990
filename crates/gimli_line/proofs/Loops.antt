-- Reading the items of a table one after the other, as loops do.
use Rattle.std.specs.Prelude.{◌≡◌, ◌+◌, ◌-◌, ◌<◌, ◌≤◌, ◌∷◌, ◌++◌, ◌↔◌}
use Rattle.gimli_line.proofs.Common
use Common.{ℕ, zero, suc, Bool, true, false, List, [], length, map, Ok, Err, refl, sym, ap, ◌∙◌, append_assoc, arith}
use Common.{nat_eq, IsTrue, append-nil, length-append, Error, OrderAndLimit, layout_of, Read, ◌>>=◌}
use Common.{text_at, unsigned_at, times, Format, Production, IsOpen, bind_refused, reads_text, read_map, is_closed}
use Common.{closed_at, closed_below, File, TableEntry, file_production, named_file, entry_production}
use Common.{entries_production}
use Common.{FileEntryFormat}
use Rattle.gimli_line.proofs.Closed.{ReadsOpen}

-- ---- items before, and those that are read after them

-- the items that were read before, and after them those that reading gives, each seen by f
abbrev pub collected : {A B : Type 0} → List B → (A → B) → Read (List A) → Read (List B)
collected xs f r = r >>= λ ys rest. (Ok (xs ++ map f ys), rest)

pub viewed_same : {A : Type 0} (r : Read A) → read_map (λ x. x) r ≡ r
viewed_same (Ok x, rest) = refl
viewed_same (Err e, rest) = refl

module _ {A B : Type 0} (f : A → B) where
  regroup : (xs : List B) (x : A) (v : B) → f x ≡ v → (r : Read (List A))
      → collected xs f (r >>= λ ys rest. (Ok (x ∷ ys), rest)) ≡ collected (xs ++ v ∷ []) f r
  regroup xs x v is (Ok ys, rest) = grind (arith, append_assoc)
  regroup xs x v is (Err e, rest) = refl

  -- what was read, where it is seen
  seen_item : (r : Read A) (v : B) (left : List ℕ) → (Ok v, left) ≡ read_map f r
      → (x : A) × (r ≡ (Ok x, left)) × (f x ≡ v)
  seen_item r v left e = grind (arith)

  seen_fault : (r : Read A) (e : Error) (left : List ℕ) → (Err e, left) ≡ read_map f r → r.0 ≡ Err e
  seen_fault (Ok x, rest) e left is = grind arith
  seen_fault (Err d, rest) e left is = grind arith

  none_left : (xs : List B) (bytes : List ℕ) → collected xs f (Ok [], bytes) ≡ (Ok xs, bytes)
  none_left xs bytes = grind (arith, append-nil)

  -- ---- so many of an item

  module _ (l : Production A) where
    abbrev so_many : ℕ → List ℕ → Read (List A)
    so_many n = (times n l).read

    pub times_goes_on : (xs : List B) (count i : ℕ) (bytes : List ℕ) (v : B) (left : List ℕ) (total : Read (List B))
        → i < count
        → (Ok v, left) ≡ read_map f (l.read bytes)
        → collected xs f (so_many (count - i) bytes) ≡ total
        → collected (xs ++ v ∷ []) f (so_many (count - (i + 1)) left) ≡ total
    times_goes_on xs count i bytes v left total lt e so_far =
        let a = seen_item _ v _ e in
        let k : count - i ≡ suc (count - (i + 1)) = omega arith in
        let one : collected xs f (so_many (suc (count - (i + 1))) bytes)
        ≡ collected (xs ++ v ∷ []) f (so_many (count - (i + 1)) left) =
        rw a.1 (regroup _ _ v a.2 _) in
        sym one ∙ ap (λ n. collected xs f (so_many n bytes)) (sym k) ∙ so_far

    pub times_ends : (xs : List B) (count i : ℕ) (bytes : List ℕ) (e : Error) (left : List ℕ) (total : Read (List B))
        → i < count
        → (Err e, left) ≡ read_map f (l.read bytes)
        → collected xs f (so_many (count - i) bytes) ≡ total → total.0 ≡ Err e
    times_ends xs count i bytes e left total lt is so_far =
        let k : count - i ≡ suc (count - (i + 1)) = omega arith in
        let refused = seen_fault _ e _ is in
        let inner = bind_refused _
        (λ x rest. so_many (count - (i + 1)) rest >>= λ ys end. (let s : Read (List A) = (Ok (x ∷ ys), end) in s)) e
        refused in
        let one = bind_refused (so_many (suc (count - (i + 1))) bytes)
        (λ ys rest. (let s : Read (List B) = (Ok (xs ++ map f ys), rest) in s)) e inner in
        ap (λ r. r.0) (sym so_far) ∙ ap (λ n. (collected xs f (so_many n bytes)).0) k ∙ one

    pub times_done : (xs : List B) (count i : ℕ) (bytes : List ℕ) (total : Read (List B)) → count ≤ i
        → collected xs f (so_many (count - i) bytes) ≡ total
        → total ≡ (Ok xs, bytes)
    times_done xs count i bytes total le so_far =
        let k : count - i ≡ 0 = omega arith in
        sym so_far ∙ ap (λ n. collected xs f (so_many n bytes)) k ∙ none_left _ _

  -- ---- items up to a zero byte

  module _ (l : Production A) (r : ReadsOpen l) where
    abbrev read : List ℕ → Read A
    read = l.read

    -- an item has bytes
    pub shrinks : (bytes : List ℕ) (x : A) (rest : List ℕ) → IsOpen bytes → read bytes ≡ (Ok x, rest)
        → length rest < length bytes
    shrinks bytes x rest free e =
        let a = r.found bytes x rest free e in
        let o = r.opens a.0 x a.2 in
        omega (arith, length-append a.0 rest, ap length a.1, ap length o.parts)

    is_open : (bytes : List ℕ) → is_closed bytes ≡ false → IsOpen bytes
    is_open [] is = tt
    is_open (b ∷ bytes) is = λ zero_is. let no : nat_eq 0 0 ≡ false = rw zero_is at is in absurd cc

    -- a greater bound on their number changes nothing
    bound_free : (n m : ℕ) (bytes : List ℕ) → length bytes < n → length bytes < m
        → closed_below n read bytes ≡ closed_below m read bytes
    unfolding closed_below
    bound_free zero m bytes lt also = absurd (omega arith)
    bound_free (suc n) zero bytes lt also = absurd (omega arith)
    bound_free (suc n) (suc m) bytes lt also =
        at_test _ refl _ refl (λ rest fewer more. bound_free n m _ fewer more)
      where
        at_test : (test : Bool) → is_closed bytes ≡ test → (one : Read A) → read bytes ≡ one
            → ((rest : List ℕ) → length rest < n → length rest < m
            → closed_below n read rest ≡ closed_below m read rest)
            → closed_below (suc n) read bytes ≡ closed_below (suc m) read bytes
        at_test true is one same others = rw is refl
        at_test false is (Ok x, rest) same others =
            let fewer = shrinks _ x _ (is_open _ is) same in
            rw (is, same, others rest (omega arith) (omega arith)) refl
        at_test false is (Err e, rest) same others = rw (is, same) refl

    -- an item, and the further ones
    step : (bytes : List ℕ) (x : A) (left : List ℕ) → is_closed bytes ≡ false → read bytes ≡ (Ok x, left)
        → closed_at read bytes ≡ (closed_at read left >>= λ ys rest. (Ok (x ∷ ys), rest))
    unfolding closed_below
    step bytes x left is same =
        let fewer = shrinks _ x _ (is_open _ is) same in
        let further : closed_below (length bytes) read left
        ≡ closed_at read left = bound_free (length bytes) (suc (length left)) left fewer (omega arith) in
        rw (is, same)
        (ap (λ s. s >>= λ ys rest. (let t : Read (List A) = (Ok (x ∷ ys), rest) in t)) further)

    pub closed_goes_on : (xs : List B) (bytes : List ℕ) (v : B) (left : List ℕ) (total : Read (List B))
        → is_closed bytes ≡ false
        → (Ok v, left) ≡ read_map f (read bytes)
        → collected xs f (closed_at read bytes) ≡ total
        → collected (xs ++ v ∷ []) f (closed_at read left) ≡ total
    closed_goes_on xs bytes v left total is e so_far =
        let a = seen_item _ v _ e in
        let one : collected xs f (closed_at read bytes) ≡ collected (xs ++ v ∷ []) f (closed_at read left) =
        ap (collected xs f) (step _ _ _ is a.1) ∙ regroup _ _ v a.2 _ in
        sym one ∙ so_far

    pub closed_smaller : (bytes : List ℕ) (v : B) (left : List ℕ) → is_closed bytes ≡ false
        → (Ok v, left) ≡ read_map f (read bytes)
        → length left < length bytes
    closed_smaller bytes v left is e =
        let a = seen_item _ v _ e in shrinks _ _ _ (is_open _ is) a.1

    pub closed_ends : (xs : List B) (bytes : List ℕ) (e : Error) (left : List ℕ) (total : Read (List B))
        → is_closed bytes ≡ false
        → (Err e, left) ≡ read_map f (read bytes)
        → collected xs f (closed_at read bytes) ≡ total → total.0 ≡ Err e
    unfolding closed_below
    closed_ends xs bytes e left total is same so_far =
        let refused = seen_fault _ e _ same in
        let inner : (closed_at read bytes).0
        ≡ Err e = rw is (bind_refused _
        (λ x rest. closed_below (length bytes) read rest >>= λ ys end.
        (let s : Read (List A) = (Ok (x ∷ ys), end) in s)) e refused) in
        let one = bind_refused _
        (λ ys rest. (let s : Read (List B) = (Ok (xs ++ map f ys), rest) in s)) e inner in
        ap (λ r. r.0) (sym so_far) ∙ one

    pub closed_done : (xs : List B) (bytes left : List ℕ) (total : Read (List B)) → bytes ≡ 0 ∷ left
        → collected xs f (closed_at read bytes) ≡ total
        → total ≡ (Ok xs, left)
    unfolding closed_below
    closed_done xs bytes left total is so_far =
        let one : collected xs f (closed_at read bytes) ≡ (Ok xs, left) = rw is (none_left _ _) in
        sym so_far ∙ one

-- ---- what a text says of the zero byte

pub text_closed : (bytes text rest : List ℕ) → (IsTrue true ↔ (text ≡ [])) → (Ok text, rest) ≡ text_at bytes
    → bytes ≡ 0 ∷ rest
text_closed bytes text rest empty e =
    let none = empty.0 refl in
    let a = reads_text.found bytes text rest (sym e) in
    let front : a.0 ≡ 0 ∷ [] = a.2.1 ∙ ap (λ xs. xs ++ 0 ∷ []) none in
    a.1 ∙ ap (λ xs. xs ++ rest) front

pub text_free : (bytes text rest : List ℕ) → (IsTrue false ↔ (text ≡ [])) → (Ok text, rest) ≡ text_at bytes
    → is_closed bytes ≡ false
text_free bytes text rest empty e = grind (arith)

pub text_refused : (bytes rest : List ℕ) (e : Error) → (Err e, rest) ≡ text_at bytes → is_closed bytes ≡ false
text_refused bytes rest e is = grind (arith)

-- ---- a file, whose path is read first

pub named_is : (bytes path mid : List ℕ) (answer : Read File) → (Ok path, mid) ≡ text_at bytes
    → answer ≡ (file_production path).read mid
    → answer ≡ read_map (λ x. x) (named_file.read bytes)
named_is bytes path mid answer e is = grind (arith)

pub named_fault : (bytes mid : List ℕ) (e : Error) → (Err e, mid) ≡ text_at bytes
    → (Err e, mid) ≡ read_map (λ x. x) (named_file.read bytes)
named_fault bytes mid e is = grind (arith)

-- ---- the entries of a table of version 5, whose count is read first

module _ (layout : OrderAndLimit) (format : Format) {B : Type 0} (f : TableEntry → B)
    (formats : List FileEntryFormat) where
  pub entries_start : (bytes : List ℕ) (count : ℕ) (left : List ℕ) → (Ok count, left) ≡ unsigned_at bytes
      → collected [] f ((times (count - 0) (entry_production layout format formats)).read left)
      ≡ read_map (map f) ((entries_production layout format formats).read bytes)
  unfolding entries_production
  entries_start bytes count left is =
      let all : count - 0 ≡ count = omega arith in
      let many : ℕ → List ℕ → Read (List TableEntry) = λ n. (times n (entry_production layout format formats)).read in
      ap (λ n. read_map (map f) (many n left)) all ∙ ap (λ r. read_map (map f) (r >>= many)) is

-- the order of bytes, which a loop keeps
pub entry_kept : (format : Format) {B : Type 0} (f : TableEntry → B) (formats : List FileEntryFormat) (now first : Bool)
    (limit : ℕ) (bytes : List ℕ)
    (answer : Read B)
    → now ≡ first
    → answer ≡ read_map f ((entry_production (layout_of now limit) format formats).read bytes)
    → answer ≡ read_map f ((entry_production (layout_of first limit) format formats).read bytes)
entry_kept format f formats now first limit bytes answer same is =
    is ∙ ap (λ b. read_map f ((entry_production (layout_of b limit) format formats).read bytes)) same
