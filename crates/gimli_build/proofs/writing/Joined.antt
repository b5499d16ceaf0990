-- Parts written one after the other.
use Rattle.std.specs.Prelude.{◌≡◌, ◌⊎◌, ◌+◌, ◌<◌, ◌≤◌, ◌∷◌, ◌++◌}
use Rattle.gimli_build.proofs.Common
use Common.{ℕ, List, [], length, drop, drop-cons, take, map, slice_get, get_or, suc, add-one, Some, Ok, Err, OnOk}
use Common.{IfErr, refl, sym, ap, ◌∙◌, append_assoc, inl, inr, arith, append-nil, drop-map, take-take}
use Common.{slice_get_within, get_or_from_slice_get, take-suc, Result, All, Contains, All-head, All-drop}
use Common.{Begins, Appends, Error, result_append, result_concat}

pub on_ok : {X : Type 0} (r : Result X Error) {P Q : Type 0} → (P → Q) → OnOk r P → OnOk r Q
on_ok (Ok x) f p = f p
on_ok (Err e) f p = tt

pub if_err : {X : Type 0} (r : Result X Error) {P Q : Error → Type 0} → ((e : Error) → P e → Q e) → IfErr r P
    → IfErr r Q
if_err (Ok x) f p = tt
if_err (Err e) f p = f e p

-- what is wanted, where it isn't the writer's own refusal
pub or_wanted : {A B C : Type 0} → (B → C) → A ⊎ B → A ⊎ C
or_wanted f (inl own) = inl own
or_wanted f (inr wanted) = inr (f wanted)

pub or_both : {A B C D : Type 0} → (A → B) → (C → D) → A ⊎ C → B ⊎ D
or_both f g (inl own) = inl (f own)
or_both f g (inr wanted) = inr (g wanted)

-- ---- two parts

pub appends_joined : (a b : Result (List ℕ) Error) (old new newer : List ℕ) → Appends a old new → Appends b new newer
    → Appends (result_append a b) old newer
appends_joined (Ok xs) (Ok ys) old new newer first second = grind (arith, append_assoc)
appends_joined (Ok xs) (Err e) old new newer first second = absurd second
appends_joined (Err e) b old new newer first second = absurd first

pub first_refused : (a b : Result (List ℕ) Error) (e : Error) → a ≡ Err e → result_append a b ≡ Err e
first_refused a b e is = grind arith

pub second_refused : (a b : Result (List ℕ) Error) (old new : List ℕ) (e : Error) → Appends a old new → b ≡ Err e
    → result_append a b ≡ Err e
second_refused (Ok xs) b old new e first is = grind arith
second_refused (Err d) b old new e first is = absurd first

pub appended_bytes : (r : Result (List ℕ) Error) (old new : List ℕ) → Appends r old new
    → (bytes : List ℕ) × (r ≡ Ok bytes) × (new ≡ old ++ bytes)
appended_bytes (Ok bytes) old new h = (bytes, refl, h)
appended_bytes (Err e) old new h = absurd h

-- ---- the parts of a list

-- two parts that are there, and a third
pub joined-joined : (a b : List ℕ) (r : Result (List ℕ) Error)
    → result_append (Ok a) (result_append (Ok b) r) ≡ result_append (Ok (a ++ b)) r
joined-joined a b (Ok c) = grind (arith, append_assoc)
joined-joined a b (Err e) = refl

-- the parts so far are written, and those of `left` aren't
pub record SoFar {A : Type 0} (part : A → Result (List ℕ) Error) (all left : List A) (old new : List ℕ) : Type 0 where
  pub done : List ℕ
  pub written : new ≡ old ++ done
  pub parts : result_concat part all ≡ result_append (Ok done) (result_concat part left)

pub none_so_far : {A : Type 0} (part : A → Result (List ℕ) Error) (all : List A) (old : List ℕ)
    → SoFar part all all old old
none_so_far part all old = grind (arith, append-nil)
  where
    nothing : (r : Result (List ℕ) Error) → r ≡ result_append (Ok []) r
    nothing (Ok bytes) = refl
    nothing (Err d) = refl

pub one_more : {A : Type 0} (part : A → Result (List ℕ) Error) (all left : List A) (x : A) (old new newer : List ℕ)
    → SoFar part all (x ∷ left) old new
    → Appends (part x) new newer → SoFar part all left old newer
one_more part all left x old new newer so more =
    grind (arith, appended_bytes, append_assoc, joined-joined)

pub part_refused : {A : Type 0} (part : A → Result (List ℕ) Error) (all left : List A) (x : A) (old new : List ℕ)
    (e : Error)
    → SoFar part all (x ∷ left) old new → part x ≡ Err e → result_concat part all ≡ Err e
part_refused part all left x old new e so is =
    grind arith

-- what is left begins with the next element
pub next_left : {A : Type 0} (xs : List A) (i : ℕ) (x : A) → i < length xs → x ≡ get_or xs i x
    → drop i xs ≡ x ∷ drop (i + 1) xs
next_left xs i x lt is = grind (arith, add-one, drop-cons)

-- what is left begins with the next element, seen by a function
pub next_seen : {A B : Type 0} (f : A → B) (xs : List A) (i : ℕ) (x : A) → i < length xs → x ≡ get_or xs i x
    → drop i (map f xs) ≡ f x ∷ drop (i + 1) (map f xs)
next_seen {B = B} f xs i x lt is =
    drop-map f i _ ∙ ap (map f) (next_left _ i x lt is) ∙ ap (λ l. f x ∷ l) (sym (drop-map f (i + 1) xs))

-- the same by index
pub next_at : {A : Type 0} (xs : List A) (i : ℕ) (x : A) → slice_get xs i ≡ Some x → drop i xs ≡ x ∷ drop (i + 1) xs
next_at xs i x is =
    rw add-one
    (drop-cons xs i x (slice_get_within xs i x is) ∙ ap (λ y. y ∷ drop (suc i) xs) (get_or_from_slice_get _ i x x is))

pub contains-at : {A : Type 0} (xs : List A) (i : ℕ) (x : A) → slice_get xs i ≡ Some x → Contains xs x
contains-at xs i x is = (i, slice_get_within xs i x is, get_or_from_slice_get _ i x x is)

pub taken_at : {A : Type 0} (xs : List A) (i : ℕ) (x : A) → slice_get xs i ≡ Some x
    → take (i + 1) xs ≡ take i xs ++ x ∷ []
taken_at xs i x is =
    rw add-one
    (take-suc xs i x (slice_get_within xs i x is) ∙ ap (λ y. take i xs ++ y ∷ []) (get_or_from_slice_get _ i x x is))

-- what all elements have, the next one has
pub all_seen : {A B : Type 0} (P : B → Type 0) (f : A → B) (xs : List A) (i : ℕ) (x : A) → i < length xs
    → x ≡ get_or xs i x → All P (map f xs) → P (f x)
all_seen P f xs i x lt is all = All-head P _ _ (rw (next_seen f _ i x lt is) at (All-drop P i _ all))

-- ---- beginnings

-- a beginning stays where bytes after it change
pub begins_before : (old bytes new : List ℕ) (at : ℕ) → Begins old bytes → length old ≤ at → take at new ≡ take at bytes
    → Begins old new
begins_before old bytes new at first le same =
    sym (take-take (length old) at new le) ∙ ap (take (length old)) same ∙ take-take (length old) at bytes le ∙ first

-- ---- what holds of each element of a list, looked at from its first element on

module _ {A : Type 0} (P : A → Type 0) (xs : List A) (i : ℕ) (x : A) (next : drop i xs ≡ x ∷ drop (i + 1) xs) where
  -- an element has it, and those before it have
  pub all_passed : P x → (All P (drop i xs) → All P xs) → All P (drop (i + 1) xs) → All P xs
  all_passed is so rest = grind arith
