-- Keys and texts with numbers, when one more comes.
use Rattle.std.proofs.Common.{◌≡◌, ◌≢◌, ◌∙◌, ℕ, ◌+◌, ◌<◌, Bool, true, false, cond, if◌then◌else◌, nat_lt, List, [], ◌∷◌}
use Rattle.std.proofs.Common.{◌++◌, length, map, Option, Some, None, refl, sym, ap, subst, arith, length-append}
use Rattle.std.proofs.Common.{nat_eq, true≢false, Result, Ok, Err, is_err}
use Rattle.std.specs.BTreeMap.{insert_entry}
use Rattle.std.specs.Cmp.Lexicographic.{slice_cmp}
use Rattle.std.specs.Map.{lookup, values_of}
use Rattle.std.specs.Ordering.{is_eq, match_ordering, nat_cmp, ordering_then}
use Rattle.std.specs.Prelude.{slice_get, All, MatchOption, OnOk}
use Rattle.std.specs.declared.alloc.Global.{Global}
use Rattle.std.specs.declared.cmp.Ordering.{Ordering}
use Rattle.std.specs.declared.cmp.Ordering.TheVariants.{Less, Equal, Greater}
use Rattle.std.specs.declared.vec.Vec.{Vec}
use Rattle.std.proofs.lemmas.Bool.{eq-eqb, le-ltb, lt-ltb, ltb-true}
use Rattle.std.proofs.lemmas.List.{length-map, map-append}
use Rattle.std.proofs.lemmas.List.Elements.{All-head, All-push, All-tail, All-weaker}
use Rattle.std.proofs.lemmas.Map.Lookups.{exact_pairs, exact_unsigned}
use Rattle.std.proofs.lemmas.Map.Text.{is_eq-slice_cmp}
use Rattle.std.proofs.lemmas.Map.Views.{All-values-insert_entry}
use Rattle.std.proofs.lemmas.Slice.Eq.{bytes_eq-Decides}
use Rattle.gimli_index.specs.declared.source_keys.SourceKey.{SourceKey}
use Rattle.gimli_index.specs.inside.Numbered.{key_order, in_turn, number_of_key, number_of_text, put_in_turn}
use Rattle.gimli_index.specs.inside.Numbered.{texts_in_turn}
use Rattle.gimli_index.specs.inside.Numbered.{AreNumbered, HaveNumbers}
use Rattle.gimli_index.proofs.Lists.{at_index, get_before, get_last}

-- ---- one more key

still : {K : Type 0} (keys : List K) (key k : K) → key ≢ k → (found : Option ℕ)
    → MatchOption found (All (λ x. x ≢ k) keys) (λ i. slice_get keys i ≡ Some k)
    → MatchOption found (All (λ x. x ≢ k) (keys ++ key ∷ [])) (λ i. slice_get (keys ++ key ∷ []) i ≡ Some k)
still keys key k other None absent = All-push (λ x. x ≢ k) keys key absent other
still keys key k other (Some i) there = get_before keys (key ∷ []) i k there

-- a key that isn't there comes last, and the searches for others stay as they are
pub numbered_push : {K : Type 0} (same : K → Bool) (keys : List K) (key : K) (n : ℕ) (old new : K → Option ℕ)
    → ((k : K) → same k ≡ true → key ≡ k) → same key ≡ true → n ≡ length keys
    → ((k : K) → new k ≡ (if same k then Some n else old k))
    → AreNumbered keys old → AreNumbered (keys ++ key ∷ []) new
numbered_push {K} same keys key n old new means itself count says are k = by_test (same k) refl
  where
    Found : Option ℕ → Type 0
    Found found = MatchOption found (All (λ x. x ≢ k) (keys ++ key ∷ [])) (λ i. slice_get (keys ++ key ∷ []) i ≡ Some k)

    by_test : (b : Bool) → same k ≡ b → Found (new k)
    by_test true is =
        subst Found (sym (says k ∙ ap (λ b. if b then Some n else old k) is))
        (ap (slice_get (keys ++ key ∷ [])) count ∙ get_last keys key ∙ ap (λ (x : K). Some x) (means k is))
    by_test false is =
        subst Found (sym (says k ∙ ap (λ b. if b then Some n else old k) is))
        (still keys key k (λ e. true≢false (sym itself ∙ ap same e ∙ is)) (old k) (are k))

-- ---- files of units

nat_itself : (n : ℕ) → nat_cmp n n ≡ Equal
nat_itself n =
    ap (λ b. cond b Less (cond (nat_eq n n) Equal Greater)) (le-ltb n n (omega arith))
    ∙ ap (λ b. cond b Equal Greater) (eq-eqb n n refl)

key_itself : (a : SourceKey) → is_eq (key_order a a) ≡ true
key_itself a =
    ap (λ o. is_eq (ordering_then o (nat_cmp a.file a.file))) (nat_itself a.unit) ∙ ap is_eq (nat_itself a.file)

equal_by : (o : Ordering) → is_eq o ≡ true → o ≡ Equal
equal_by Less is = absurd (true≢false (sym is))
equal_by Equal is = refl
equal_by Greater is = absurd (true≢false (sym is))

same_key : (a b : SourceKey) → is_eq (key_order a b) ≡ true → a ≡ b
same_key a b is =
    let pairs : (a.unit, a.file) ≡ (b.unit, b.file) =
    exact_pairs nat_cmp nat_cmp exact_unsigned exact_unsigned (a.unit, a.file) (b.unit, b.file)
    (equal_by (key_order a b) is) in
    ap (λ (p : ℕ × ℕ). let key : SourceKey = record { unit = p.0; file = p.1 } in key) pairs

pub key_pushed : (keys : List SourceKey) (key : SourceKey) (n : ℕ) (old new : SourceKey → Option ℕ) → n ≡ length keys
    → ((k : SourceKey) → new k ≡ cond (is_eq (key_order key k)) (Some n) (old k))
    → AreNumbered keys old → AreNumbered (keys ++ key ∷ []) new
key_pushed keys key n old new count says are =
    numbered_push (λ k. is_eq (key_order key k)) keys key n old new (same_key key) (key_itself key) count says are

-- what holds on success, where no error came
pub on_success : {T E : Type 0} (r : Result T E) (P : Type 0) → OnOk r P → is_err r ≡ false → P
on_success (Ok x) P holds good = holds
on_success (Err e) P holds good = absurd (true≢false good)

-- ---- in the order of the numbers

module _ {X : Type 0} where
  abbrev Below : ℕ → List (X × ℕ) → Type 0
  Below n [] = Unit {0}
  Below n (e ∷ es) = (e.1 < n) × Below n es

  all_below : (n : ℕ) (es : List (X × ℕ)) → All (λ m. m < n) (values_of es) → Below n es
  all_below n [] all = tt
  all_below n (e ∷ es) all =
      (All-head (λ m. m < n) e.1 (values_of es) all, all_below n es (All-tail (λ m. m < n) e.1 (values_of es) all))

  below_put : (n : ℕ) (e : X × ℕ) (es : List (X × ℕ)) → e.1 < n → Below n es → Below n (put_in_turn e es)
  below_put n e [] lt below = (lt, tt)
  below_put n e (x ∷ xs) lt below = by_test (nat_lt e.1 x.1) (below_put n e xs lt below.1)
    where
      by_test : (b : Bool) → Below n (put_in_turn e xs) → Below n (if b then e ∷ x ∷ xs else x ∷ put_in_turn e xs)
      by_test true rest = (lt, below)
      by_test false rest = (below.0, rest)

  below_turn : (n : ℕ) (es : List (X × ℕ)) → Below n es → Below n (in_turn es)
  below_turn n [] below = tt
  below_turn n (e ∷ es) below = below_put n e (in_turn es) below.0 (below_turn n es below.1)

  put_length : (e : X × ℕ) (es : List (X × ℕ)) → length (put_in_turn e es) ≡ length es + 1
  put_length e [] = refl
  put_length e (x ∷ xs) = by_test (nat_lt e.1 x.1) (put_length e xs)
    where
      by_test : (b : Bool) → length (put_in_turn e xs) ≡ length xs + 1
          → length (if b then e ∷ x ∷ xs else x ∷ put_in_turn e xs) ≡ length (x ∷ xs) + 1
      by_test true rest = omega arith
      by_test false rest = omega (arith, rest)

  turn_length : (es : List (X × ℕ)) → length (in_turn es) ≡ length es
  turn_length [] = refl
  turn_length (e ∷ es) = omega (arith, put_length e (in_turn es), turn_length es)

  put_last : (e : X × ℕ) (es : List (X × ℕ)) → Below e.1 es → put_in_turn e es ≡ es ++ e ∷ []
  put_last e [] below = refl
  put_last e (x ∷ xs) below = by_test (nat_lt e.1 x.1) refl (put_last e xs below.1)
    where
      by_test : (b : Bool) → nat_lt e.1 x.1 ≡ b → put_in_turn e xs ≡ xs ++ e ∷ []
          → (if b then e ∷ x ∷ xs else x ∷ put_in_turn e xs) ≡ x ∷ (xs ++ e ∷ [])
      by_test true is rest = absurd (omega (arith, ltb-true e.1 x.1 is, below.0))
      by_test false is rest = ap (λ (es : List (X × ℕ)). x ∷ es) rest

  put_before : (e last : X × ℕ) (es : List (X × ℕ)) → e.1 < last.1
      → put_in_turn e (es ++ last ∷ []) ≡ put_in_turn e es ++ last ∷ []
  put_before e last [] lt = ap (λ b. if b then e ∷ last ∷ [] else last ∷ e ∷ []) (lt-ltb e.1 last.1 lt)
  put_before e last (x ∷ xs) lt = by_test (nat_lt e.1 x.1) (put_before e last xs lt)
    where
      by_test : (b : Bool) → put_in_turn e (xs ++ last ∷ []) ≡ put_in_turn e xs ++ last ∷ []
          → (if b then e ∷ x ∷ (xs ++ last ∷ []) else x ∷ put_in_turn e (xs ++ last ∷ []))
          ≡ (if b then e ∷ x ∷ xs else x ∷ put_in_turn e xs) ++ last ∷ []
      by_test true rest = refl
      by_test false rest = ap (λ (es : List (X × ℕ)). x ∷ es) rest

  module _ (order : X → X → Ordering) (key : X) (n : ℕ) where
    -- what comes with a number above all others comes last
    insert_in_turn : (es : List (X × ℕ)) → Below n es → lookup (λ x. is_eq (order key x)) es ≡ None
        → in_turn (insert_entry order es key n) ≡ in_turn es ++ (key, n) ∷ []
    insert_in_turn [] below absent = refl
    insert_in_turn (e ∷ es) below absent = by_order (order key e.0) absent (insert_in_turn es below.1)
      where
        by_order : (o : Ordering) → cond (is_eq o) (Some e.1) (lookup (λ x. is_eq (order key x)) es) ≡ None
            → (lookup (λ x. is_eq (order key x)) es ≡ None
            → in_turn (insert_entry order es key n) ≡ in_turn es ++ (key, n) ∷ [])
            → in_turn (match_ordering o ((key, n) ∷ e ∷ es) ((e.0, n) ∷ es) (e ∷ insert_entry order es key n))
            ≡ put_in_turn e (in_turn es) ++ (key, n) ∷ []
        by_order Less absent rest =
            put_last (key, n) (put_in_turn e (in_turn es))
            (below_put n e (in_turn es) below.0 (below_turn n es below.1))
        by_order Equal absent rest = absurd cc
        by_order Greater absent rest =
            ap (put_in_turn e) (rest absent) ∙ put_before e (key, n) (in_turn es) below.0

    -- it is found, and what else was is found as it was
    lookup_insert : (test : X → Bool) → ((x y : X) → test x ≡ true → test y ≡ true → is_eq (order x y) ≡ true)
        → (es : List (X × ℕ)) → lookup (λ x. is_eq (order key x)) es ≡ None
        → lookup test (insert_entry order es key n) ≡ (if test key then Some n else lookup test es)
    lookup_insert test one [] absent = refl
    lookup_insert test one (e ∷ es) absent = by_order (order key e.0) refl absent (lookup_insert test one es)
      where
        swapped : (a b : Bool) → test e.0 ≡ a → test key ≡ b → is_eq (order key e.0) ≡ false
            → cond a (Some e.1) (if b then Some n else lookup test es)
            ≡ (if b then Some n else cond a (Some e.1) (lookup test es))
        swapped true true first second apart = absurd (true≢false (sym (one key e.0 second first) ∙ apart))
        swapped true false first second apart = refl
        swapped false b first second apart = refl

        by_order : (o : Ordering) → order key e.0 ≡ o
            → cond (is_eq o) (Some e.1) (lookup (λ x. is_eq (order key x)) es) ≡ None
            → (lookup (λ x. is_eq (order key x)) es ≡ None
            → lookup test (insert_entry order es key n) ≡ (if test key then Some n else lookup test es))
            → lookup test (match_ordering o ((key, n) ∷ e ∷ es) ((e.0, n) ∷ es) (e ∷ insert_entry order es key n))
            ≡ (if test key then Some n else cond (test e.0) (Some e.1) (lookup test es))
        by_order Less is absent rest = refl
        by_order Equal is absent rest = absurd cc
        by_order Greater is absent rest =
            ap (cond (test e.0) (Some e.1)) (rest absent)
            ∙ swapped (test e.0) (test key) refl refl (ap is_eq is)

-- ---- texts

same_text : (a b : List ℕ) → is_eq (slice_cmp nat_cmp a b) ≡ true → a ≡ b
same_text a b is = (bytes_eq-Decides a b).0 (sym (is_eq-slice_cmp a b) ∙ is)

text_itself : (a : List ℕ) → is_eq (slice_cmp nat_cmp a a) ≡ true
text_itself a = is_eq-slice_cmp a a ∙ (bytes_eq-Decides a a).1 refl

abbrev vec_order : Vec ℕ Global → Vec ℕ Global → Ordering
vec_order a b = slice_cmp nat_cmp a.items b.items

text_absent : (texts : List (List ℕ)) (text : List ℕ) (found : Option ℕ) → All (λ p. p ≢ text) texts
    → MatchOption found (All (λ p. p ≢ text) texts) (λ i. slice_get texts i ≡ Some text) → found ≡ None
text_absent texts text None all is = refl
text_absent texts text (Some i) all there = absurd (at_index (λ p. p ≢ text) texts i text there all refl)

module _ (es : List (Vec ℕ Global × ℕ)) (v : Vec ℕ Global) (path : List ℕ) (n : ℕ) (is : v.items ≡ path)
    (count : n ≡ length es) (absent : All (λ p. p ≢ path) (texts_in_turn es)) (have : HaveNumbers es) where
  abbrev pub new : List (Vec ℕ Global × ℕ)
  new = insert_entry vec_order es v n

  none : number_of_text es v.items ≡ None
  none =
      text_absent (texts_in_turn es) v.items (number_of_text es v.items)
      (subst (λ (p : List ℕ). All (λ x. x ≢ p) (texts_in_turn es)) (sym is) absent) (have.1 v.items)

  turn : in_turn new ≡ in_turn es ++ (v, n) ∷ []
  turn =
      insert_in_turn vec_order v n es (all_below n es (subst (λ m. All (λ k. k < m) (values_of es)) (sym count) have.0))
      none

  texts : texts_in_turn new ≡ texts_in_turn es ++ v.items ∷ []
  texts =
      ap (map (λ (e : Vec ℕ Global × ℕ). e.0.items)) turn
      ∙ map-append (λ (e : Vec ℕ Global × ℕ). e.0.items) (in_turn es) ((v, n) ∷ [])

  pub text_pushed : texts_in_turn new ≡ texts_in_turn es ++ path ∷ []
  text_pushed = texts ∙ ap (λ (p : List ℕ). texts_in_turn es ++ p ∷ []) is

  grown : length new ≡ length es + 1
  grown =
      omega (arith, turn_length new, turn_length es, ap length turn, length-append (in_turn es) ((v, n) ∷ []))

  both : (p : List ℕ) (a b : Vec ℕ Global) → is_eq (slice_cmp nat_cmp p a.items) ≡ true
      → is_eq (slice_cmp nat_cmp p b.items) ≡ true → is_eq (vec_order a b) ≡ true
  both p a b first second =
      subst (λ (x : List ℕ). is_eq (slice_cmp nat_cmp x b.items) ≡ true) (same_text p a.items first) second

  says : (p : List ℕ)
      → number_of_text new p ≡ (if is_eq (slice_cmp nat_cmp p v.items) then Some n else number_of_text es p)
  says p = lookup_insert vec_order v n (λ w. is_eq (slice_cmp nat_cmp p w.items)) (both p) es none

  pub still_numbered : HaveNumbers new
  still_numbered = (
    All-values-insert_entry vec_order v n (λ m. m < length new) es
        (All-weaker (λ m. m < length es) (λ m. m < length new) (λ m lt. omega (arith, lt, grown)) (values_of es) have.0)
        (omega (arith, count, grown)),
    subst (λ (ts : List (List ℕ)). AreNumbered ts (number_of_text new)) (sym texts)
        (numbered_push (λ (p : List ℕ). is_eq (slice_cmp nat_cmp p v.items)) (texts_in_turn es) v.items n
        (number_of_text es) (number_of_text new) (λ p same. sym (same_text p v.items same)) (text_itself v.items)
        (count ∙ sym (turn_length es) ∙ sym (length-map (in_turn es) (λ (e : Vec ℕ Global × ℕ). e.0.items))) says
        have.1),
  )
